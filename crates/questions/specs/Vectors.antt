-- Some calls at the limits, which the definitions answer by computation. Assumes nothing.
use Rattle.std.specs.Prelude.{ℕ, ◌-◌, ◌^◌, ◌≡◌, refl, true, List, [], ◌∷◌, ◌++◌, replicate, Float}
use Rattle.std.specs.Float.{nan}
use Rattle.std.specs.Float.Ieee.{neg, lt, of_bits, round, le}
use Rattle.std.specs.Float.Ieee.Scale.{finite}
use Rattle.floatlaws.specs.Numbers.{f32_0, f32_1, f32_2, f32_100, f64_0, f64_4, f64_120, f32, f64}
use Rattle.floatlaws.specs.Extrema.{clamp_of}
use Rattle.floatlaws.specs.Multiples.{is_multiple}
use Rattle.leg.specs.Paper.{on_paper}
use Rattle.codes.specs.declared.TransportCodes.{TransportCodes}
use Rattle.settings.specs.Codes.{transport_known}
use Rattle.codes.specs.declared.PointCodes.{PointCodes}
use Rattle.codes.specs.declared.PathPointCodes.{PathPointCodes}
use Rattle.curves.specs.Given.{no_mod}
use Rattle.questions.specs.Limits.{f64_64, f64_1000, f64_768000, f64_2147483647, f64_minus2147483648}
use Rattle.questions.specs.Tests.{every, every_kept, point_known, shape_known, path_point_known, path_known, point_finite, shape_finite, path_point_finite, path_finite, transport_finite, loopback_in, path_on_paper, shape_on_grid, transport_in}
use Rattle.questions.specs.Questions.{first_no, shape_questions, path_questions, bus_questions, block_questions}

-- ---- the limits of question 6

written : List Float
written = f64_64 ∷ f64_1000 ∷ f64_768000 ∷ f64_2147483647 ∷ f64_minus2147483648 ∷ []

meant : List Float
meant = f64 64 1 ∷ f64 1000 1 ∷ f64 768000 1 ∷ f64 2147483647 1 ∷ neg (f64 2147483648 1) ∷ []

limits : written ≡ meant
unfolding written meant of_bits round neg
limits = refl

-- ---- blocks

abbrev transport : Float → ℕ → TransportCodes
transport rate playing =
    record {
      sample_rate = rate;
      tempo = f64_120;
      beats_per_bar = f64_4;
      playing = playing;
      beats = f64_0;
      seconds = f64_0;
      swing = f32_0;
      scale = record { code = 0; percent = f32_100 };
    }

-- of so many frames, by a player that has played so many, with room for 4,097
abbrev block : ℕ → ℕ → ℕ
block played frames = first_no (block_questions played (transport f64_1000 0) frames (record { code = 0; frame = 0 }) 4097 4097)

-- "4,096 frames pass, 4,097 get 7; 0 frames pass"; 2^40 frames in all pass, and one more gets 8
frames : block 0 4096 ∷ block 0 4097 ∷ block 0 0 ∷ block (2 ^ 40 - 4096) 4096 ∷ block (2 ^ 40 - 4095) 4096 ∷ block (2 ^ 40) 0 ∷ block (2 ^ 40) 1 ∷ []
    ≡ 0 ∷ 7 ∷ 0 ∷ 0 ∷ 8 ∷ 0 ∷ 8 ∷ []
unfolding first_no block_questions transport_known transport_finite transport_in finite le neg of_bits
frames = refl

-- a block that fails several: "the first "no" gives the number"
abbrev failing : Float → ℕ → ℕ → ℕ
failing rate playing code = first_no (block_questions 0 (transport rate playing) 4097 (record { code = code; frame = 0 }) 0 0)

first : failing nan 2 0 ∷ failing nan 0 2 ∷ failing nan 0 0 ∷ failing f64_4 0 0 ∷ failing f64_768000 0 0 ∷ [] ≡ 1 ∷ 1 ∷ 2 ∷ 6 ∷ 7 ∷ []
unfolding first_no block_questions transport_known transport_finite transport_in finite le neg of_bits
first = refl

-- ---- shapes

abbrev point : ℕ → Float → PointCodes
point step curve = record { x = f32_0; y = f32_0; curve = curve; step = step; x_mod = no_mod; y_mod = no_mod }

-- of so many points with this curve, and a loopback at this index
abbrev shape : ℕ → Float → ℕ → ℕ
shape count curve index = first_no (shape_questions true (record { points = replicate 64 (point 0 curve); count = count; loopback = record { code = 1; index = index } }))

-- question 4 counts the points kept, and question 10 comes after it; 100 is clamped to 1
kept : shape 2 f32_1 1 ∷ shape 2 f32_1 2 ∷ shape 70 f32_1 63 ∷ shape 2 f32_100 1 ∷ shape 2 (f32 1 2048) 1 ∷ shape 2 (f32 1 2048) 9 ∷ shape 2 nan 9 ∷ [] ≡ 0 ∷ 4 ∷ 0 ∷ 0 ∷ 10 ∷ 4 ∷ 2 ∷ []
unfolding first_no shape_questions shape_known shape_finite loopback_in shape_on_grid every_kept every point_known point_finite is_multiple clamp_of finite le lt neg of_bits round
kept = refl

-- of so many points, all straight but for the one after k of them, a step with a curve off the grid
abbrev odd_after : ℕ → ℕ → ℕ
odd_after k count =
    let points : List PointCodes = replicate k (point 0 f32_0) ++ point 1 (f32 1 2048) ∷ replicate (63 - k) (point 0 f32_0) in
    first_no (shape_questions true (record { points = points; count = count; loopback = record { code = 0; index = 0 } }))

-- question 10 is put to each point that is kept, the first, the last and a step's, and to no other
asked : odd_after 0 3 ∷ odd_after 2 3 ∷ odd_after 3 3 ∷ odd_after 63 70 ∷ odd_after 63 63 ∷ [] ≡ 10 ∷ 10 ∷ 0 ∷ 10 ∷ 0 ∷ []
unfolding first_no shape_questions shape_known shape_finite loopback_in shape_on_grid every_kept every point_known point_finite is_multiple clamp_of finite le lt neg of_bits round
asked = refl

-- ---- paths

-- of so many points, all at 0, 0 but for the one after k of them, which is at x and y
abbrev path : ℕ → ℕ → Float → Float → ℕ → ℕ
path k count x y closed =
    let at : Float → Float → PathPointCodes = λ x y. record { x = x; y = y; bend = f32_100; x_mod = no_mod; y_mod = no_mod } in
    first_no (path_questions true (record { points = replicate k (at f32_0 f32_0) ++ at x y ∷ replicate (63 - k) (at f32_0 f32_0); count = count; closed = closed }))

-- the corners of the paper, -0, and a square's; past an edge, between two lines, in x and in y
coordinates :
    path 0 1 f32_1 f32_1 0 ∷ path 0 1 (neg f32_0) f32_0 1 ∷ path 0 1 (f32 4095 4096) (f32 1 4096) 0
    ∷ path 0 1 (f32 4097 4096) f32_0 0 ∷ path 0 1 f32_0 f32_2 0 ∷ path 0 1 (neg (f32 1 4096)) f32_0 0 ∷ path 0 1 (f32 1 8192) f32_0 0 ∷ path 0 1 f32_0 (f32 1 8192) 0 ∷ []
    ≡ 0 ∷ 0 ∷ 0 ∷ 11 ∷ 11 ∷ 11 ∷ 11 ∷ 11 ∷ []
unfolding first_no path_questions path_known path_finite path_on_paper every_kept every path_point_known path_point_finite on_paper is_multiple finite le neg of_bits round
coordinates = refl

-- question 11 is put to each point that is kept, the first and the last, and to no other; it comes after 1 and 2
is_on_paper : path 0 3 (f32 1 8192) f32_0 0 ∷ path 2 3 (f32 1 8192) f32_0 0 ∷ path 3 3 (f32 1 8192) f32_0 0 ∷ path 63 70 (f32 1 8192) f32_0 0 ∷ path 63 63 (f32 1 8192) f32_0 0 ∷ path 0 2 (f32 1 8192) nan 0 ∷ path 0 2 (f32 1 8192) nan 2 ∷ []
    ≡ 11 ∷ 11 ∷ 0 ∷ 11 ∷ 0 ∷ 2 ∷ 1 ∷ []
unfolding first_no path_questions path_known path_finite path_on_paper every_kept every path_point_known path_point_finite on_paper is_multiple finite le neg of_bits round
is_on_paper = refl

-- ---- buses

buses : first_no (bus_questions 15 f32_1) ∷ first_no (bus_questions 16 f32_1) ∷ first_no (bus_questions 16 nan) ∷ [] ≡ 0 ∷ 9 ∷ 2 ∷ []
unfolding first_no bus_questions finite of_bits
buses = refl
