-- The questions that are put to the calls on an ensemble, where they differ from a player's: 15 and 16 stand before question 1. Assumes nothing.
use Rattle.std.specs.Prelude.{ℕ, ◌+◌, ◌*◌, ◌^◌, ◌&&◌, List, [], ◌∷◌, ◌++◌, ltb, leb}
use Rattle.codes.specs.declared.SettingsCodes.{SettingsCodes}
use Rattle.codes.specs.declared.TransportCodes.{TransportCodes}
use Rattle.questions.specs.Questions.{Posed, settings_questions, phase_questions}

-- "A voice count outside 2 to 16 gets 15"
abbrev pub count_question : ℕ → Posed
count_question count = (15, (leb 2 count && leb count 16))

-- "and a voice number at or above the count 16"
abbrev pub voice_question : ℕ → ℕ → Posed
voice_question count v = (16, ltb v count)

-- setting the settings, with the code of shared
unfoldable pub page_questions : SettingsCodes → ℕ → List Posed
page_questions c shared = (1, ltb shared 2) ∷ settings_questions c

-- making an ensemble
unfoldable pub make_questions : SettingsCodes → ℕ → ℕ → List Posed
make_questions c shared count = count_question count ∷ page_questions c shared

-- asking for a restart; any frame is taken
unfoldable pub trigger_questions : ℕ → ℕ → List Posed
trigger_questions count v = voice_question count v ∷ []

-- reading a voice's phase
unfoldable pub voice_phase_questions : ℕ → ℕ → TransportCodes → List Posed
voice_phase_questions count v t = voice_question count v ∷ phase_questions t

-- Playing a block of `frames` frames by `count` voices that have played so many, into buffers of these lengths: "Question 7 wants frames times voices in x and y"; 8 counts frames.
unfoldable pub play_questions : ℕ → ℕ → TransportCodes → ℕ → ℕ → ℕ → List Posed
play_questions count played t frames x_len y_len =
    phase_questions t
    ++ (7, (leb frames 4096 && leb (frames * count) x_len && leb (frames * count) y_len))
    ∷ (8, leb (played + frames) (2 ^ 40))
    ∷ []
