-- Some runs, which the definitions meet by computation. Assumes nothing.
use Rattle.std.specs.Prelude.{ℕ, ◌≡◌, refl, List, [], ◌∷◌, ◌++◌, map, replicate}
use Rattle.std.specs.Float.Ieee.{of_bits, to_bits}
use Rattle.number.specs.Encoded.{groups, encoded}
use Rattle.number.specs.Read.{leading, number_of, shortest, judged, read_from, read_at}
use Rattle.number.specs.Read as Read
use Rattle.settings.specs.Codes.{settings_known, transport_known}
use Rattle.questions.specs.Tests.{settings_finite}
use Rattle.questions.specs.Questions.{first_no, settings_questions, bus_questions, phase_questions}
use Rattle.replies.specs.Replies.{bytes_of, listed, fitting}
use Rattle.fields.specs.Parser.{after, when}
use Rattle.fields.specs.Fields.{number, below, f32, f64}
use Rattle.runs.specs.Records.{rate, span, smooth, settings, scale, transport}
use Rattle.outputs.specs.Numbers.{answer_numbers}
use Rattle.outputs.specs.Output as generic
use Rattle.outputs.specs.Output.{tagged, given_by, given, given_from}
use Rattle.listlaws.specs.Tables.{tabulate}
use Rattle.ensemble_calls.specs.Ensembles.{new_ensemble}
use Rattle.ensemble_calls.specs.Questions.{page_questions, make_questions, trigger_questions, voice_phase_questions, play_questions}
use Rattle.ensemble_calls.specs.Calls.{questions, answer, count_for, made, buffer}
use Rattle.ensemble_player.specs.Readings.{voice_phase_answer}
use Rattle.ensemble_runner.specs.Asked.{make, bus_call, phase_call, block_call, trigger_call, by_tag}
use Rattle.ensemble_runner.specs.Numbers.{block_numbers, numbers}
use Rattle.ensemble_runner.specs.Output.{output}

-- settings whose codes and numbers are all 0, this code of shared, so many voices, and the seed 0
making : ℕ → ℕ → List ℕ
making shared count = replicate 14 0 ++ (shared ∷ count ∷ 0 ∷ [])

-- a transport whose code of playing is unknown
transported : List ℕ
transported = 0 ∷ 0 ∷ 0 ∷ 2 ∷ 0 ∷ 0 ∷ 0 ∷ 0 ∷ 0 ∷ []

-- a run, and the room for its output
runs : List (List ℕ × ℕ)
runs =
    ([], 2)
    ∷ (making 0 2, 1)
    ∷ (making 0 17, 1)
    ∷ (making 2 1, 1)
    ∷ (making 2 16, 1)
    ∷ (making 1 16 ++ (0x06 ∷ []), 3)
    ∷ (making 1 16 ++ (0x0a ∷ []), 3)
    ∷ (making 1 2 ++ (0x09 ∷ 0x02 ∷ 0x00 ∷ []), 2)
    ∷ (making 0 2 ++ (0x03 ∷ 0x10 ∷ 0x00 ∷ []), 2)
    ∷ (making 1 2 ++ (0x04 ∷ 0x02 ∷ transported), 2)
    ∷ (making 0 2 ++ (0x04 ∷ 0x01 ∷ transported), 2)
    ∷ (making 0 2 ++ (0x05 ∷ transported ++ (0x00 ∷ 0x01 ∷ 0x00 ∷ [])), 7)
    ∷ (making 0 2 ++ (0x05 ∷ transported ++ (0x00 ∷ 0xc1 ∷ 0x80 ∷ 0x04 ∷ [])), 3)
    ∷ []

-- An empty run is cut short. Two voices are taken; 17 and 1 are refused by question 15, before an unknown code of shared, which question 1 refuses. The tags 6 and 10 are
-- those of no call. Of two voices the number 2 is refused by question 16, also where a phase is read, before question 1; the bus 16 is refused by question 9. A block that is
-- refused gives its number and the buffers, here an x of one 7.0; an x_len of 65,601 is too large.
outputs : map (λ c. output c.0 c.1) runs
    ≡ (0xff ∷ 0x01 ∷ []) ∷ (0 ∷ []) ∷ (15 ∷ []) ∷ (15 ∷ []) ∷ (1 ∷ []) ∷ (0 ∷ 0xff ∷ 0x01 ∷ []) ∷ (0 ∷ 0xff ∷ 0x01 ∷ []) ∷ (0 ∷ 16 ∷ []) ∷ (0 ∷ 9 ∷ []) ∷ (0 ∷ 16 ∷ []) ∷ (0 ∷ 1 ∷ []) ∷ (0 ∷ 1 ∷ 0x80 ∷ 0x80 ∷ 0x80 ∷ 0x87 ∷ 0x04 ∷ []) ∷ (0 ∷ 0xff ∷ 0x01 ∷ []) ∷ []
unfolding making transported runs generic.output fitting given_from make given given_by tagged by_tag bus_call phase_call block_call trigger_call numbers block_numbers answer_numbers voice_phase_answer buffer listed answer questions bus_questions trigger_questions voice_phase_questions phase_questions play_questions make_questions page_questions settings_questions first_no settings_known settings_finite transport_known count_for made new_ensemble tabulate settings rate span smooth transport scale number below f32 f64 when after read_at read_from leading judged shortest number_of Read.below bytes_of encoded groups of_bits to_bits
outputs = refl
