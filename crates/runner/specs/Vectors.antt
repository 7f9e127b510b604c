-- Some runs, which the definitions meet by computation. Assumes nothing.
use Rattle.std.specs.Prelude.{ℕ, ◌≡◌, refl, List, [], ◌∷◌, ◌++◌, map, replicate}
use Rattle.std.specs.Float.Ieee.{of_bits, to_bits}
use Rattle.floatlaws.specs.Numbers.{f32_0, f32_½, f32_1}
use Rattle.path_segments.specs.Times.{segments_of}
use Rattle.path.specs.Paths.{path_of}
use Rattle.number.specs.Encoded.{groups, encoded}
use Rattle.number.specs.Read.{leading, number_of, shortest, judged, read_from, read_at}
use Rattle.number.specs.Read as Read
use Rattle.settings.specs.Codes.{settings_known}
use Rattle.curves.specs.Given.{given_path}
use Rattle.questions.specs.Tests.{every, every_kept, settings_finite, path_known, path_finite, path_on_paper}
use Rattle.questions.specs.Questions.{first_no, settings_questions, path_questions, bus_questions}
use Rattle.evaluate.specs.Values.{evaluated_legs}
use Rattle.calls.specs.Calls.{questions, answer}
use Rattle.replies.specs.Replies.{bytes_of, fitting}
use Rattle.fields.specs.Parser.{after, when}
use Rattle.fields.specs.Fields.{number, below, f32}
use Rattle.runs.specs.Records.{rate, span, smooth, settings}
use Rattle.runs.specs.Curves.{kept, path}
use Rattle.outputs.specs.Output as generic
use Rattle.outputs.specs.Output.{tagged, given_by, given, given_from}
use Rattle.runner.specs.Asked.{bus_call, legs_call, by_tag}
use Rattle.runner.specs.Numbers.{call_numbers, legs_numbers, numbers}
use Rattle.runner.specs.Output.{make, output}

-- settings whose codes and numbers are all 0, and the seed 0
zeros : List ℕ
zeros = replicate 15 0

-- a run, and the room for its output
runs : List (List ℕ × ℕ)
runs =
    ([], 2)
    ∷ ([], 1)
    ∷ (zeros, 1)
    ∷ (zeros ++ (0x09 ∷ []), 3)
    ∷ (zeros ++ (0x08 ∷ 0x00 ∷ 0x00 ∷ []), 3)
    ∷ (zeros ++ (0x03 ∷ 0x10 ∷ 0x00 ∷ []), 2)
    ∷ (zeros ++ (0x03 ∷ 0x10 ∷ 0x00 ∷ []), 1)
    ∷ (0x05 ∷ replicate 14 0 ++ (0x09 ∷ []), 3)
    ∷ []

-- An empty run is cut short and a tag above 8 is bad: both give 255, and without room for its two bytes nothing is written. A player that is made answers 0. A path of no
-- points has no leg. The bus 16 is refused by question 9, and its answer needs room. The kind 5 is refused by question 1, and nothing behind it is read.
outputs : map (λ c. output c.0 c.1) runs
    ≡ (0xff ∷ 0x01 ∷ []) ∷ [] ∷ (0 ∷ []) ∷ (0 ∷ 0xff ∷ 0x01 ∷ []) ∷ (0 ∷ 0 ∷ 0 ∷ []) ∷ (0 ∷ 9 ∷ []) ∷ (0 ∷ []) ∷ (1 ∷ []) ∷ []
unfolding zeros runs generic.output fitting given_from make given given_by tagged by_tag bus_call legs_call numbers call_numbers legs_numbers evaluated_legs given_path path_of segments_of answer questions bus_questions path_questions path_known path_finite path_on_paper every_kept every settings_questions first_no settings_known settings_finite settings rate span smooth path kept number below f32 when after read_at read_from leading judged shortest number_of Read.below bytes_of encoded groups of_bits
outputs = refl

-- two legs of three, and a refusal, whose number stands alone
legs : map (λ answer. legs_numbers (record { answer = answer; count = 2; lengths = f32_1 ∷ f32_½ ∷ f32_0 ∷ [] })) (0 ∷ 11 ∷ [])
    ≡ (0 ∷ 2 ∷ 0x3f80_0000 ∷ 0x3f00_0000 ∷ []) ∷ (11 ∷ []) ∷ []
unfolding legs_numbers to_bits of_bits
legs = refl
