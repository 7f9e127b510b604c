-- Some calls at the limits, which the definitions answer by computation. Assumes nothing.
use Rattle.std.specs.Prelude.{ℕ, ◌-◌, ◌^◌, ◌≡◌, refl, [], ◌∷◌, Float}
use Rattle.std.specs.Float.{nan}
use Rattle.std.specs.Float.Ieee.{neg, of_bits, le}
use Rattle.floatlaws.specs.Numbers.{f32_0, f32_100, f64_0, f64_4, f64_120}
use Rattle.codes.specs.declared.TransportCodes.{TransportCodes}
use Rattle.settings.specs.Codes.{transport_known}
use Rattle.questions.specs.Limits.{f64_1000}
use Rattle.questions.specs.Tests.{transport_finite, transport_in}
use Rattle.questions.specs.Questions.{first_no, phase_questions}
use Rattle.ensemble_calls.specs.Ensembles.{seed_of, server_index}
use Rattle.ensemble_calls.specs.Questions.{trigger_questions, voice_phase_questions, play_questions}
use Rattle.ensemble_calls.specs.Calls.{count_for}

abbrev transport : Float → TransportCodes
transport rate =
    record {
      sample_rate = rate;
      tempo = f64_120;
      beats_per_bar = f64_4;
      playing = 0;
      beats = f64_0;
      seconds = f64_0;
      swing = f32_0;
      scale = record { code = 0; percent = f32_100 };
    }

-- of so many voices and frames, by voices that have played so many, with room for so many values
abbrev play : ℕ → ℕ → ℕ → ℕ → ℕ
play count played frames room = first_no (play_questions count played (transport f64_1000) frames room room)

-- 16 voices of 4,096 frames want 65,536 values; 8 counts frames and not values
values : play 16 0 4096 65536 ∷ play 16 0 4096 65535 ∷ play 2 0 4097 65536 ∷ play 3 0 0 0 ∷ play 16 (2 ^ 40 - 4096) 4096 65536 ∷ play 2 (2 ^ 40) 1 2 ∷ []
    ≡ 0 ∷ 7 ∷ 7 ∷ 0 ∷ 0 ∷ 8 ∷ []
unfolding first_no play_questions phase_questions transport_known transport_finite transport_in le neg of_bits
values = refl

-- 16 stands before the transport's questions
voices : first_no (trigger_questions 2 1) ∷ first_no (trigger_questions 2 2) ∷ first_no (voice_phase_questions 2 2 (transport nan)) ∷ first_no (voice_phase_questions 2 1 (transport nan)) ∷ [] ≡ 0 ∷ 16 ∷ 16 ∷ 2 ∷ []
unfolding first_no trigger_questions voice_phase_questions phase_questions transport_known transport_finite transport_in le neg of_bits
voices = refl

-- counts that are refused leave two voices
counts : count_for 1 ∷ count_for 2 ∷ count_for 16 ∷ count_for 17 ∷ [] ≡ 2 ∷ 2 ∷ 16 ∷ 2 ∷ []
unfolding count_for
counts = refl

-- voice 0 of an ensemble of seed 0 has the seed of a player that is one step on, and the serving voice one that is one step back
seeds : seed_of 0 0 ∷ seed_of 0x9E3779B97F4A7C15 server_index ∷ [] ≡ 0x9E3779B97F4A7C15 ∷ 0 ∷ []
unfolding seed_of
seeds = refl
