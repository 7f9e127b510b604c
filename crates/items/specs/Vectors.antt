-- Some bytes, and what is said of them, which the definitions meet by computation. Assumes nothing.
use Rattle.std.specs.Prelude.{ℕ, suc, ◌*◌, ◌-◌, ◌≡◌, refl, List, [], ◌∷◌, ◌++◌, map, length, replicate, take}
use Rattle.std.specs.Float.Ieee.{of_bits, to_bits, neg, lt, le}
use Rattle.floatlaws.specs.Numbers.{f32_0, f32_1, f64_0, f64_1}
use Rattle.listlaws.specs.Tables.{tabulate}
use Rattle.listlaws.specs.Over.{over}
use Rattle.shape.specs.Points.{sorted_points, sorted_array}
use Rattle.shape.specs.Shapes.{shape_of}
use Rattle.path.specs.Paths.{clamped_path, path_of}
use Rattle.curves.specs.Given.{given_points, given_path_points, given_shape, given_path}
use Rattle.settings.specs.Codes.{settings_known, transport_known}
use Rattle.questions.specs.Tests.{every, every_kept, shape_known, path_known, settings_finite, shape_finite, path_finite, transport_finite, loopback_in, path_on_paper, shape_on_grid, transport_in}
use Rattle.questions.specs.Questions.{first_no}
use Rattle.number.specs.Encoded.{groups, encoded}
use Rattle.number.specs.Read as Read
use Rattle.number.specs.Read.{leading, number_of, shortest, judged, read_from, read_at}
use Rattle.codes.specs.Blanks.{blank_point, blank_path_point}
use Rattle.fields.specs.Parser.{read, after, when, row}
use Rattle.fields.specs.Fields.{number, below, f32, f64}
use Rattle.fields.specs.Bytes.{number_bytes, row_bytes}
use Rattle.runs.specs.Records.{rate, span, smooth, settings, scale}
use Rattle.runs.specs.Curves.{kept, loopback, shape, path}
use Rattle.record.specs.Writing.{rate_bytes, span_bytes, smooth_bytes, settings_bytes, loopback_bytes, shape_bytes, path_bytes, scale_bytes, item_bytes}
use Rattle.record.specs.Kept as Kept
use Rattle.record.specs.Kept.{kept_rate, kept_span, kept_smooth, kept_settings, kept_loopback, kept_shape, kept_path}
use Rattle.record.specs.Questions.{item_questions, item_answer}
use Rattle.record.specs.Records.{ended, write_questions, write_answer, written_length, written_to}
use Rattle.items.specs.Said.{item, or_malformed, handed_in, said, left}

-- the bits of 1
one : ℕ
one = 0x3f80_0000

one_64 : ℕ
one_64 = 0x3ff0_0000_0000_0000

-- an item that no record holds: kind 9, rate 7, no points, closed 5, scale 3; bus 0 is 1, the seed 6, and the tempo 1; nothing more is read
item_read :
    item (row_bytes number_bytes (9 ∷ 0 ∷ 0 ∷ 7 ∷ 0 ∷ 0 ∷ 0 ∷ 0 ∷ 0 ∷ one ∷ 0 ∷ 4 ∷ 0 ∷ 0 ∷ 0 ∷ 5 ∷ one ∷ (replicate 15 0 ++ 6 ∷ one_64 ∷ 0 ∷ one ∷ 3 ∷ 8 ∷ []))) 0
    ≡ read
    (record {
      settings =
          record {
            kind = 9;
            mode = 0;
            direction = 0;
            rate = record { code = 7; division = 0; feel = 0; hz = f32_0; x10 = 0 };
            song_lock = 0;
            swing = 0;
            fade_in = record { code = 0; division = 0; seconds = f32_0 };
            delay = record { code = 0; division = 0; seconds = f32_0 };
            smooth = record { code = 0; coefficient = f32_0 };
            phase = f32_1;
            phase_snap = 0;
            grid_x = 4;
          };
      shape = record { points = replicate 64 blank_point; count = 0; loopback = record { code = 0; index = 0 } };
      path = record { points = replicate 64 blank_path_point; count = 0; closed = 5 };
      buses = f32_1 ∷ replicate 15 f32_0;
      seed = 6;
      tempo = f64_1;
      beats_per_bar = f64_0;
      swing = f32_1;
      scale = record { code = 3; percent = f32_0 };
    })
    57
unfolding row_bytes one one_64 encoded groups read_at read_from leading judged shortest number_of after number below Read.below f32 f64 when row rate span smooth settings kept loopback shape path scale item of_bits
item_read = refl

-- an item of this kind with all its codes 0, no points, buses 0, seed 300, tempo 120, four beats per bar, no swing and 100 percent
plain : ℕ → List ℕ
plain kind =
    row_bytes number_bytes (kind ∷ (replicate 33 0 ++ 300 ∷ 0x405e_0000_0000_0000 ∷ 0x4010_0000_0000_0000 ∷ 0 ∷ 0 ∷ 0x42c8_0000 ∷ []))

-- no byte, one byte less, one byte more, all bytes; of an item of kind 9 too, which fails question 1: 255 comes before it
malformed_first : let l = plain 0 in let m = plain 9 in
    map (λ s. said (handed_in s) 0) ([] ∷ take (length l - 1) l ∷ (l ++ (0 ∷ [])) ∷ l ∷ (m ++ (0 ∷ [])) ∷ m ∷ []) ≡ 255 ∷ 255 ∷ 255 ∷ 21 ∷ 255 ∷ 1 ∷ []
unfolding plain row_bytes handed_in or_malformed ended item settings shape path rate span smooth kept loopback scale row when after number below Read.below f32 f64 read_at read_from leading judged shortest number_of encoded groups of_bits
    write_questions write_answer written_length item_answer item_questions first_no every_kept every settings_known transport_known shape_known path_known settings_finite shape_finite path_finite transport_finite loopback_in path_on_paper shape_on_grid transport_in lt le neg
    Kept.kept kept_settings kept_rate kept_span kept_smooth kept_shape kept_path kept_loopback given_shape given_path given_points given_path_points tabulate shape_of path_of sorted_array clamped_path sorted_points
    item_bytes settings_bytes shape_bytes path_bytes rate_bytes span_bytes smooth_bytes loopback_bytes scale_bytes to_bits
malformed_first = refl

-- what is said of a buffer with one byte more than the record, and that buffer after it: the item's bytes are its record, and the last byte stays
written : let l = plain 0 in said (handed_in l) (suc (length l)) ∷ left (handed_in l) (replicate (suc (length l)) 7) ≡ 256 * length l ∷ (l ++ (7 ∷ []))
unfolding plain row_bytes handed_in or_malformed ended item settings shape path rate span smooth kept loopback scale row when after number below Read.below f32 f64 read_at read_from leading judged shortest number_of encoded groups of_bits
    write_questions write_answer written_length written_to over item_answer item_questions first_no every_kept every settings_known transport_known shape_known path_known settings_finite shape_finite path_finite transport_finite loopback_in path_on_paper shape_on_grid transport_in lt le neg
    Kept.kept kept_settings kept_rate kept_span kept_smooth kept_shape kept_path kept_loopback given_shape given_path given_points given_path_points tabulate shape_of path_of sorted_array clamped_path sorted_points
    item_bytes settings_bytes shape_bytes path_bytes rate_bytes span_bytes smooth_bytes loopback_bytes scale_bytes to_bits
written = refl
