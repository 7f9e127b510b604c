-- A finite modulation moves a finite coordinate to a number, and places it in 0 to 1; a bus above the last moves nothing. Assumes nothing.
use Rattle.std.specs.Prelude.{Option, None, Some}
use mathlib.Core.Path.{◌≡◌, sym, ◌∙◌, subst}
use mathlib.Core.Bool.{Bool, true, false, cond}
use mathlib.Core.List.{List}
use Prim.Native.Nat.{ℕ, ◌*◌}
use native.Mathlib.Nat.{mul-pos, mul-one, zero-mul, zero-lt-suc}
use lib.Dec.{T, ltb, ltb→lt}
use lib.ListN.{get_or}
use borrow.Author.Tests.{le-ltb}
use lib.Ieee.{Float, nan, inf, fin, unlike, up, down, round, eq, binary32, mul, is_nan, of_bits}
use lib.IntN.{ℤ}
use lib.Ieee.Fits.{down_pos}
use lib.Ieee.Scale.{finite, round_same}
use Rattle.floatlaws.specs.Numbers.{f32_0}
use Rattle.floatlaws.proofs.NoNan.{Number, mul_number, add_number}
use Rattle.points.specs.declared.PointMod.{PointMod}
use Rattle.points.specs.Modulation.{FiniteMod, FiniteBuses, bus_value, offset_of, moved_of, placed_of}
use Rattle.points.specs.Laws.{OffsetAbove, PlacedIn}
use Rattle.points.proofs.Floats.{unit_clamped}

-- ---- a finite modulation moves a finite coordinate to a number

bus_finite : (buses : List Float) (bus : ℕ) → FiniteBuses buses → T (finite (bus_value buses bus))
unfolding bus_value
bus_finite buses bus h = go (ltb bus 16) (λ (t : T (ltb bus 16)). h bus (ltb→lt bus 16 t))
  where
    go : (b : Bool) → (T b → T (finite (get_or buses bus nan))) → T (finite (cond b (get_or buses bus nan) f32_0))
    go true k = k tt
    go false k = unfold of_bits in tt

offset_number : (m : Option PointMod) (buses : List Float) → FiniteMod m → FiniteBuses buses → Number (offset_of m buses)
unfolding offset_of
offset_number None buses h k = unfold is_nan of_bits in tt
offset_number (Some m) buses h k = mul_number binary32 (bus_value buses m.bus) m.depth (bus_finite buses m.bus k) h

pub moved_number : (x : Float) (m : Option PointMod) (buses : List Float) → T (finite x) → FiniteMod m → FiniteBuses buses → Number (moved_of x m buses)
moved_number x m buses f h k = add_number binary32 x (offset_of m buses) f (offset_number m buses h k)

pub placed_between : PlacedIn
unfolding placed_of
placed_between x m buses number = unit_clamped (moved_of x m buses) number

-- ---- a bus above the last moves nothing: its offset is a zero

rounded_zero : (s : Bool) → T (eq (round binary32 s 0 1) f32_0)
unfolding round eq of_bits
rounded_zero true = tt
rounded_zero false = tt

scaled_is : (s : Bool) (n : ℕ) (d : ℤ) → mul binary32 f32_0 (fin s n d) ≡ round binary32 (unlike false s) 0 1
unfolding mul of_bits
scaled_is s n d =
    round_same binary32 (unlike false s) (0 * (n * up d)) (1 * down d) 0 1 (mul-pos (zero-lt-suc 0) (down_pos d)) (zero-lt-suc 0)
    (mul-one (0 * (n * up d)) ∙ zero-mul (n * up d) ∙ sym (zero-mul (1 * down d)))

zero_scaled : (depth : Float) → T (finite depth) → T (eq (mul binary32 f32_0 depth) f32_0)
zero_scaled nan h = absurd h
zero_scaled (inf s) h = absurd h
zero_scaled (fin s n d) h = subst (λ (z : Float). T (eq z f32_0)) (sym (scaled_is s n d)) (rounded_zero (unlike false s))

pub offset_above : OffsetAbove
unfolding offset_of bus_value
offset_above bus depth buses h k = rw (le-ltb bus 16 h) (zero_scaled depth k)
