-- Some runs, which the definitions meet by computation. Assumes nothing.
use Rattle.std.specs.Prelude.{ℕ, ◌^◌, ◌≡◌, refl, List, [], ◌∷◌, ◌++◌, replicate}
use Rattle.std.specs.Float.{nan}
use Rattle.std.specs.Float.Ieee.{of_bits}
use Rattle.floatlaws.specs.Numbers.{f32_0, f32_1}
use Rattle.number.specs.Encoded.{groups, encoded}
use Rattle.number.specs.Read as Read
use Rattle.number.specs.Read.{leading, number_of, shortest, judged, read_from, read_at}
use Rattle.fields.specs.Parser.{read, fault, after, when}
use Rattle.fields.specs.Fields.{number, below, f32}
use Rattle.runs.specs.Records.{rate, span, smooth, settings}
use Rattle.runs.specs.Curves.{kept, modulation, point, loopback, shape, path_point, path}
use Rattle.codes.specs.Blanks.{blank_mod, blank_point, blank_path_point}

-- numbers as bytes, one after the other
bytes : List ℕ → List ℕ
bytes [] = []
bytes (n ∷ l) = encoded n ++ bytes l

-- the bits of 1
one : ℕ
one = 0x3f80_0000

-- kind 4, mode 1, direction 2, rate 1 with 1 Hz and ×10, song lock, no swing, a fade-in of division 9, no delay, a NaN to smooth by, phase 1, snap, grid 300
settings_read : settings (bytes (4 ∷ 1 ∷ 2 ∷ 1 ∷ one ∷ 1 ∷ 1 ∷ 0 ∷ 1 ∷ 9 ∷ 0 ∷ 1 ∷ 0x7fc0_0001 ∷ one ∷ 1 ∷ 300 ∷ [])) 0
    ≡ read
    (record {
      kind = 4;
      mode = 1;
      direction = 2;
      rate = record { code = 1; division = 0; feel = 0; hz = f32_1; x10 = 1 };
      song_lock = 1;
      swing = 0;
      fade_in = record { code = 1; division = 9; seconds = f32_0 };
      delay = record { code = 0; division = 0; seconds = f32_0 };
      smooth = record { code = 1; coefficient = nan };
      phase = f32_1;
      phase_snap = 1;
      grid_x = 300;
    })
    29
unfolding bytes one encoded groups read_at read_from leading judged shortest number_of after number below Read.below f32 when rate span smooth settings of_bits
settings_read = refl

-- an unknown code has no fields
unknown_rate : rate (bytes (2 ∷ 5 ∷ [])) 0 ≡ read (record { code = 2; division = 0; feel = 0; hz = f32_0; x10 = 0 }) 1
unfolding bytes encoded groups read_at read_from leading judged shortest number_of after number when rate
unknown_rate = refl

-- one point at 1, 1 with the curve 0 and a step, its x moved by bus 3 at a depth of 1, and a loopback at it; nothing more is read
shape_read : shape (bytes (1 ∷ one ∷ one ∷ 0 ∷ 1 ∷ 1 ∷ 3 ∷ one ∷ 0 ∷ 1 ∷ 0 ∷ 5 ∷ [])) 0
    ≡ read
    (record {
      points = record { x = f32_1; y = f32_1; curve = f32_0; step = 1; x_mod = record { code = 1; bus = 3; depth = f32_1 }; y_mod = blank_mod } ∷ replicate 63 blank_point;
      count = 1;
      loopback = record { code = 1; index = 0 };
    })
    23
unfolding bytes one encoded groups read_at read_from leading judged shortest number_of after number below Read.below f32 when modulation point kept loopback shape of_bits
shape_read = refl

-- a closed path of one point at 1, 0 with the bend 1, its y moved by bus 3 at a depth of 1; nothing more is read
path_read : path (bytes (1 ∷ 1 ∷ one ∷ 0 ∷ one ∷ 0 ∷ 1 ∷ 3 ∷ one ∷ 5 ∷ [])) 0
    ≡ read
    (record {
      points = record { x = f32_1; y = f32_0; bend = f32_1; x_mod = blank_mod; y_mod = record { code = 1; bus = 3; depth = f32_1 } } ∷ replicate 63 blank_path_point;
      count = 1;
      closed = 1;
    })
    21
unfolding bytes one encoded groups read_at read_from leading judged shortest number_of after number below Read.below f32 when modulation path_point kept path of_bits
path_read = refl

-- a bus of 256, an f32 of 33 bits, and 4,097 points are too large: bad, whatever follows
large_bus : modulation (bytes (1 ∷ 256 ∷ [])) 0 ≡ fault 13
unfolding bytes encoded groups read_at read_from leading judged shortest number_of after number below Read.below when modulation
large_bus = refl

large_float : f32 (bytes (2 ^ 32 ∷ [])) 0 ≡ fault 13
unfolding bytes encoded groups read_at read_from leading judged shortest number_of after below Read.below f32
large_float = refl

many_points : path (bytes (4097 ∷ [])) 0 ≡ fault 13
unfolding bytes encoded groups read_at read_from leading judged shortest number_of after below Read.below path
many_points = refl

-- bytes that end in a number, before a field, and before a path's second point are cut short
cut_number : modulation (1 ∷ 0x80 ∷ []) 0 ≡ fault 12
unfolding read_at read_from leading judged shortest number_of after number below Read.below when modulation
cut_number = refl

cut_modulation : modulation (bytes (1 ∷ 255 ∷ [])) 0 ≡ fault 12
unfolding bytes encoded groups read_at read_from leading judged shortest number_of after number below Read.below f32 when modulation
cut_modulation = refl

cut_path : path (bytes (2 ∷ 0 ∷ one ∷ 0 ∷ 0 ∷ 0 ∷ 0 ∷ [])) 0 ≡ fault 12
unfolding bytes one encoded groups read_at read_from leading judged shortest number_of after number below Read.below f32 when modulation path_point kept path of_bits
cut_path = refl

-- what stands past the 64th is read and not kept
past_the_array : kept 0 number 66 (replicate 64 5 ++ 6 ∷ 7 ∷ 8 ∷ []) 0 ≡ read (replicate 64 5) 66
unfolding read_at read_from leading judged shortest number_of after number kept
past_the_array = refl
