-- Some records, which the definitions read and write by computation. Assumes nothing.
use Rattle.std.specs.Prelude.{ℕ, ◌-◌, ◌≡◌, refl, cond, List, [], ◌∷◌, ◌++◌, map, leb, length, replicate, take, drop, set, Float}
use Rattle.std.specs.Float.{nan}
use Rattle.std.specs.Float.Ieee.{of_bits, to_bits, round, neg, lt, le}
use Rattle.floatlaws.specs.Numbers.{f32, f64, f32_0, f32_½, f32_1, f32_100, f64_4, f64_120}
use Rattle.floatlaws.specs.Extrema.{clamp_of}
use Rattle.floatlaws.specs.Multiples.{is_multiple}
use Rattle.leg.specs.Paper.{on_paper}
use Rattle.listlaws.specs.Tables.{tabulate, padded, last_where, inserted}
use Rattle.shape.specs.Points.{clamped_point, slot_of, insert_point, sorted_points, sorted_array}
use Rattle.shape.specs.Shapes.{shape_of}
use Rattle.path.specs.Paths.{clamped_path_point, clamped_path, path_of}
use Rattle.codes.specs.declared.PointCodes.{PointCodes}
use Rattle.codes.specs.declared.ItemCodes.{ItemCodes}
use Rattle.curves.specs.Given.{mod_of, point_of, path_point_of, given_points, given_path_points, given_shape, given_path}
use Rattle.settings.specs.Codes.{settings_known, transport_known}
use Rattle.questions.specs.Tests.{every, every_kept, point_known, shape_known, path_point_known, path_known, settings_finite, point_finite, shape_finite, path_point_finite, path_finite, transport_finite, loopback_in, path_on_paper, shape_on_grid, transport_in}
use Rattle.questions.specs.Questions.{first_no}
use Rattle.number.specs.Encoded.{groups, encoded}
use Rattle.number.specs.Read as Read
use Rattle.number.specs.Read.{leading, number_of, shortest, judged, read_from, read_at}
use Rattle.fields.specs.Parser.{Parsed, read, fault, after, ◌that◌, when, row}
use Rattle.fields.specs.Fields.{number, below}
use Rattle.fields.specs.Fields as Fields
use Rattle.fields.specs.Bytes.{row_bytes}
use Rattle.record.specs.Items.{f64_48000}
use Rattle.codes.specs.Blanks.{blank_mod, blank_point, blank_path_point}
use Rattle.record.specs.Questions.{item_questions, item_answer}
use Rattle.record.specs.Reading.{rate, span, smooth, settings, modulation, point, path_point, loopback, shape, path, scale, item}
use Rattle.record.specs.Writing.{rate_bytes, span_bytes, smooth_bytes, settings_bytes, modulation_bytes, point_bytes, path_point_bytes, loopback_bytes, shape_bytes, path_bytes, scale_bytes, item_bytes}
use Rattle.record.specs.Kept.{kept_rate, kept_span, kept_smooth, kept_settings, kept_loopback, kept_shape, kept_path, kept}
use Rattle.record.specs.Records.{Outcome, given, refused, ended, whole_record, asked, read_record, write_record, write_questions, write_answer}

rate_right : f64_48000 ≡ f64 48000 1
unfolding of_bits round
rate_right = refl

-- a point at 0, 1 with a step after it and this curve, and one at 1/2, 0, its x moved by bus 200 at a depth of 1
abbrev first : Float → PointCodes
first curve = record { x = f32_0; y = f32_1; curve = curve; step = 1; x_mod = blank_mod; y_mod = blank_mod }

abbrev second : PointCodes
second = record { x = f32_½; y = f32_0; curve = f32_0; step = 0; x_mod = record { code = 1; bus = 200; depth = f32_1 }; y_mod = blank_mod }

-- Some points with a loopback at the second, an open path of one point with this x, all buses 0, seed 300, tempo 120, four beats per bar, no swing, 100 percent
with_curves : List PointCodes → Float → ItemCodes
with_curves points x =
    record {
      settings =
          record {
            kind = 0;
            mode = 1;
            direction = 2;
            rate = record { code = 0; division = 7; feel = 2; hz = f32_0; x10 = 0 };
            song_lock = 1;
            swing = 0;
            fade_in = record { code = 2; division = 0; seconds = f32_1 };
            delay = record { code = 0; division = 0; seconds = f32_0 };
            smooth = record { code = 0; coefficient = f32_0 };
            phase = f32_0;
            phase_snap = 1;
            grid_x = 300;
          };
      shape = record { points = padded 64 blank_point points; count = length points; loopback = record { code = 1; index = 1 } };
      path =
          record {
            points = record { x = x; y = f32_0; bend = f32_0; x_mod = blank_mod; y_mod = blank_mod } ∷ replicate 63 blank_path_point;
            count = 1;
            closed = 0;
          };
      buses = replicate 16 f32_0;
      seed = 300;
      tempo = f64_120;
      beats_per_bar = f64_4;
      swing = f32_0;
      scale = record { code = 0; percent = f32_100 };
    }

example : ItemCodes
example = with_curves (first f32_0 ∷ second ∷ []) f32_0

-- another curve of its first point, and another x of its path's
with_curve : Float → ItemCodes
with_curve curve = with_curves (first curve ∷ second ∷ []) f32_0

with_x : Float → ItemCodes
with_x x = with_curves (first f32_0 ∷ second ∷ []) x

-- its points the other way round
backwards : ItemCodes
backwards = with_curves (second ∷ first f32_0 ∷ []) f32_0

-- ---- bytes

-- its settings, two points, and the first point: 1 as an f32 is the number of its bits, 0x3f80_0000
front : take 35 (item_bytes example)
    ≡ 0 ∷ 1 ∷ 2 ∷ 0 ∷ 7 ∷ 2 ∷ 1 ∷ 0 ∷ 2 ∷ 0x80 ∷ 0x80 ∷ 0x80 ∷ 0xfc ∷ 0x03 ∷ 0 ∷ 0 ∷ 0 ∷ 1 ∷ 0xac ∷ 0x02
    ∷ 2 ∷ 0 ∷ 0x80 ∷ 0x80 ∷ 0x80 ∷ 0xfc ∷ 0x03 ∷ 0 ∷ 1 ∷ 0 ∷ 0 ∷ 0x80 ∷ 0x80 ∷ 0x80 ∷ 0xf8 ∷ []
unfolding example with_curves item_bytes settings_bytes shape_bytes path_bytes rate_bytes span_bytes smooth_bytes encoded groups to_bits point_bytes path_point_bytes modulation_bytes loopback_bytes scale_bytes row_bytes of_bits
front = refl

-- read as it was written, with blank points behind the last
there_and_back : whole_record (item_bytes example) 0 ≡ read example (length (item_bytes example))
unfolding example with_curves whole_record ended item settings shape path rate span smooth row point path_point modulation loopback scale ◌that◌ when after number below Read.below Fields.f32 Fields.f64 read_at read_from leading judged shortest number_of le of_bits neg
    item_bytes settings_bytes shape_bytes path_bytes rate_bytes span_bytes smooth_bytes encoded groups to_bits point_bytes path_point_bytes modulation_bytes loopback_bytes scale_bytes row_bytes
there_and_back = refl

-- the number of a fault, or 0
abbrev fault_of : Parsed ItemCodes → ℕ
fault_of (read i next) = 0
fault_of (fault n) = n

-- no byte, one byte less, one byte more, mode 3, kind 0 in two bytes, 65 points before any is read, and an x below the one before
faults : let s = item_bytes example in
    map (λ l. fault_of (whole_record l 0))
    ([]
    ∷ take (length s - 1) s
    ∷ (s ++ (0 ∷ []))
    ∷ set s 1 3
    ∷ (0x80 ∷ 0x00 ∷ drop 1 s)
    ∷ (take 20 s ++ (65 ∷ []))
    ∷ item_bytes backwards
    ∷ [])
    ≡ 12 ∷ 12 ∷ 14 ∷ 13 ∷ 13 ∷ 13 ∷ 13 ∷ []
unfolding example backwards with_curves whole_record ended item settings shape path rate span smooth row point path_point modulation loopback scale ◌that◌ when after number below Read.below Fields.f32 Fields.f64 read_at read_from leading judged shortest number_of le of_bits neg
    item_bytes settings_bytes shape_bytes path_bytes rate_bytes span_bytes smooth_bytes encoded groups to_bits point_bytes path_point_bytes modulation_bytes loopback_bytes scale_bytes row_bytes
faults = refl

-- a curve of 1 is read; one of 3/2, which the player would clamp, is not, nor is a path's coordinate that is not finite; one of 2 is left to the questions
judged_floats : map (λ i. fault_of (whole_record (item_bytes i) 0)) (with_curve f32_1 ∷ with_curve (f32 3 2) ∷ with_x nan ∷ with_x (f32 2 1) ∷ []) ≡ 0 ∷ 13 ∷ 13 ∷ 0 ∷ []
unfolding with_curve with_x with_curves whole_record ended item settings shape path rate span smooth row point path_point modulation loopback scale ◌that◌ when after number below Read.below Fields.f32 Fields.f64 read_at read_from leading judged shortest number_of le of_bits neg round
    item_bytes settings_bytes shape_bytes path_bytes rate_bytes span_bytes smooth_bytes encoded groups to_bits point_bytes path_point_bytes modulation_bytes loopback_bytes scale_bytes row_bytes
judged_floats = refl

-- ---- questions

-- the example's are answered with yes; curves of 1/2, 3/2 and 1/2048; coordinates of 1/2, 1/8192 and 2
answers :
    map item_answer (example ∷ with_curve f32_½ ∷ with_curve (f32 3 2) ∷ with_curve (f32 1 2048) ∷ with_x f32_½ ∷ with_x (f32 1 8192) ∷ with_x (f32 2 1) ∷ [])
    ≡ 0 ∷ 0 ∷ 0 ∷ 10 ∷ 0 ∷ 11 ∷ 11 ∷ []
unfolding example with_curve with_x with_curves item_answer item_questions first_no every_kept every settings_known transport_known shape_known path_known point_known path_point_known settings_finite shape_finite path_finite point_finite path_point_finite transport_finite loopback_in path_on_paper shape_on_grid transport_in on_paper is_multiple clamp_of lt le of_bits neg round
answers = refl

-- All questions have the answer no but the first n of them: kind 5, a NaN on bus 15, a loopback at point 1 of one point, a coordinate of 2, a curve of 1/2048, a coefficient of 2 and a tempo of 1001.
failing : ℕ → ItemCodes
failing n =
    let i = with_curves (first (cond (leb n 4) (f32 1 2048) f32_0) ∷ second ∷ []) (cond (leb n 3) (f32 2 1) f32_0) in
    record {
      settings =
          record {
            kind = cond (leb n 0) 5 0;
            mode = i.settings.mode;
            direction = i.settings.direction;
            rate = i.settings.rate;
            song_lock = i.settings.song_lock;
            swing = i.settings.swing;
            fade_in = i.settings.fade_in;
            delay = i.settings.delay;
            smooth = record { code = 1; coefficient = cond (leb n 5) (f32 2 1) f32_1 };
            phase = i.settings.phase;
            phase_snap = i.settings.phase_snap;
            grid_x = i.settings.grid_x;
          };
      shape = record { points = i.shape.points; count = cond (leb n 2) 1 2; loopback = i.shape.loopback };
      path = i.path;
      buses = replicate 15 f32_0 ++ (cond (leb n 1) nan f32_0 ∷ []);
      seed = i.seed;
      tempo = cond (leb n 6) (f64 1001 1) f64_120;
      beats_per_bar = i.beats_per_bar;
      swing = i.swing;
      scale = i.scale;
    }

sequence : map (λ n. item_answer (failing n)) (0 ∷ 1 ∷ 2 ∷ 3 ∷ 4 ∷ 5 ∷ 6 ∷ 7 ∷ []) ≡ 1 ∷ 2 ∷ 4 ∷ 11 ∷ 10 ∷ 5 ∷ 6 ∷ 0 ∷ []
unfolding failing with_curves item_answer item_questions first_no every_kept every settings_known transport_known shape_known path_known point_known path_point_known settings_finite shape_finite path_finite point_finite path_point_finite transport_finite loopback_in path_on_paper shape_on_grid transport_in on_paper is_multiple clamp_of lt le of_bits neg round
sequence = refl

-- the number by which something is refused, or 0
abbrev refusal_of : {A : Type 0} → Outcome A → ℕ
refusal_of (given a) = 0
refusal_of (refused n) = n

-- bytes left over come before the questions, which come where a record is whole
order : map (λ l. refusal_of (read_record (item_bytes (with_x (f32 2 1)) ++ l))) ((0 ∷ []) ∷ [] ∷ []) ≡ 14 ∷ 11 ∷ []
unfolding with_x with_curves read_record asked whole_record ended item settings shape path rate span smooth row point path_point modulation loopback scale ◌that◌ when after number below Read.below Fields.f32 Fields.f64 read_at read_from leading judged shortest number_of le of_bits neg
    item_bytes settings_bytes shape_bytes path_bytes rate_bytes span_bytes smooth_bytes encoded groups to_bits point_bytes path_point_bytes modulation_bytes loopback_bytes scale_bytes row_bytes
    item_answer item_questions first_no every_kept every settings_known transport_known shape_known path_known point_known path_point_known settings_finite shape_finite path_finite point_finite path_point_finite transport_finite loopback_in path_on_paper shape_on_grid transport_in on_paper is_multiple clamp_of lt round
order = refl

-- points are written as they are kept: sorted, and a curve of 3/2 as 1
written : map write_record (backwards ∷ with_curve (f32 3 2) ∷ []) ≡ map (λ i. given (item_bytes i)) (example ∷ with_curve f32_1 ∷ [])
unfolding example backwards with_curve with_curves write_record kept kept_settings kept_rate kept_span kept_smooth kept_shape kept_path kept_loopback given_shape given_path given_points given_path_points tabulate shape_of path_of sorted_array clamped_path point_of path_point_of mod_of sorted_points insert_point inserted slot_of last_where clamped_point clamped_path_point
    item_bytes settings_bytes shape_bytes path_bytes rate_bytes span_bytes smooth_bytes encoded groups to_bits point_bytes path_point_bytes modulation_bytes loopback_bytes scale_bytes row_bytes
    item_answer item_questions first_no every_kept every settings_known transport_known shape_known path_known point_known path_point_known settings_finite shape_finite path_finite point_finite path_point_finite transport_finite loopback_in path_on_paper shape_on_grid transport_in on_paper is_multiple clamp_of lt le of_bits neg round
written = refl

-- a buffer with no room for one byte: the questions come before 21
room : map (λ i. write_answer i 0) (example ∷ with_x (f32 2 1) ∷ with_curve (f32 1 2048) ∷ []) ≡ 21 ∷ 11 ∷ 10 ∷ []
unfolding example with_curve with_x with_curves write_answer write_questions kept kept_settings kept_rate kept_span kept_smooth kept_shape kept_path kept_loopback given_shape given_path given_points given_path_points tabulate shape_of path_of sorted_array clamped_path point_of path_point_of mod_of sorted_points insert_point inserted slot_of last_where clamped_point clamped_path_point
    item_bytes settings_bytes shape_bytes path_bytes rate_bytes span_bytes smooth_bytes encoded groups to_bits point_bytes path_point_bytes modulation_bytes loopback_bytes scale_bytes row_bytes
    item_answer item_questions first_no every_kept every settings_known transport_known shape_known path_known point_known path_point_known settings_finite shape_finite path_finite point_finite path_point_finite transport_finite loopback_in path_on_paper shape_on_grid transport_in on_paper is_multiple clamp_of lt le of_bits neg round
room = refl
