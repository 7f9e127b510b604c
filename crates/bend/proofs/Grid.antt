-- What the proofs of `on_grid` and `grid_index` cite: 1024 times a clamped curve is exact in an `f64`, so that its whole part and what is left are those of the definitions. Assumes nothing.
use Rattle.std.proofs.Common.{◌≡◌, ℕ, ◌+◌, ◌-◌, ◌*◌, ◌/◌, ◌≤◌, Bool, true, false, cond, not, T, ◌⊎◌, ℤ, pos, refl, inl, inr, zero-le, le_trans, arith, lit≤}
use native.Mathlib.Nat.{div-le_of_le-mul}
use lib.Ieee.{Float, nan, inf, fin, binary32, binary64, up, down, neg, mul, lt, eq, le, fits, is_nan, of_bits, to_unsigned}
use lib.Ieee.Fits.{down_pos, neg-fits}
use lib.Ieee.Bits.{of_bits-fits}
use Rattle.floatlaws.specs.Extrema.{clamp_of}
use Rattle.floatlaws.specs.Whole.{whole_of, to_zero}
use Rattle.floatlaws.specs.Numbers.{f32_1, f32_minus1, f64_1024}
use Rattle.floatlaws.proofs.Extrema.{clamp_bounds, clamp_fits}
use Rattle.floatlaws.specs.Size.{Sized}
use Rattle.floatlaws.specs.Multiples.{is_multiple, multiples_in}
use Rattle.floatlaws.proofs.Size.{size_of_range}
use Rattle.floatlaws.proofs.Values.{neg_value}
use Rattle.floatlaws.proofs.Multiples.{unsigned_value, scaled_value, multiple_tested}
use Rattle.bend.specs.Grid.{clamped_curve, on_grid, grid_index}

-- ---- the clamped curve: an `f32`, and a NaN or at most 1 in size

clamped_fits : (curve : Float) → T (fits binary32 curve) → T (fits binary32 (clamped_curve curve))
clamped_fits curve h = let one = of_bits-fits binary32 0x3f80_0000 in clamp_fits binary32 curve f32_minus1 f32_1 h (neg-fits binary32 f32_1 one) one

within : (curve : Float) → T (not (is_nan curve)) → Sized (clamped_curve curve) 1
within curve h =
    let b = clamp_bounds curve f32_minus1 f32_1 h (unfold le neg of_bits in tt) in
    (size_of_range f32_minus1 f32_1 1 (unfold neg of_bits in (refl, refl)) (unfold of_bits in (refl, refl)) b.0 b.1).sized

pub clamped_size : (curve : Float) → T (is_nan (clamped_curve curve)) ⊎ Sized (clamped_curve curve) 1
clamped_size nan = inl (unfold clamp_of is_nan lt neg of_bits in tt)
clamped_size (inf s) = inr (within (inf s) (unfold is_nan in tt))
clamped_size (fin s m e) = inr (within (fin s m e) (unfold is_nan in tt))

-- clamping twice is clamping once
pub clamped_again : (curve : Float) → clamped_curve (clamped_curve curve) ≡ clamped_curve curve
unfolding clamp_of
clamped_again curve = go (lt curve f32_minus1) (lt f32_1 curve) refl refl
  where
    go : (a b : Bool) → lt curve f32_minus1 ≡ a → lt f32_1 curve ≡ b → clamped_curve (clamped_curve curve) ≡ clamped_curve curve
    go true b h k = rw h (unfold lt neg of_bits in refl)
    go false true h k = rw (h, k) (unfold lt neg of_bits in refl)
    go false false h k = rw (h, k) (rw (h, k) refl)

-- ---- 1024, by which it is multiplied

scale_is : f64_1024 ≡ fin false 1 (pos 10)
unfolding of_bits
scale_is = refl

-- ---- of a clamped curve x and 1024 times it: what `on_grid` tests, and what `grid_index` adds and takes off

abbrev pub Read : Float → Float → Type 0
Read x y =
    (eq (whole_of binary64 to_zero y) y ≡ on_grid x)
    × (to_unsigned 64 y ≤ 1024)
    × (to_unsigned 64 (neg y) ≤ 1024)
    × (1024 + to_unsigned 64 y - to_unsigned 64 (neg y) ≡ grid_index x)

signs : (s : Bool) (q a b : ℕ) → q ≤ 1024 → a ≡ cond s 0 q → b ≡ cond (not s) 0 q → (a ≤ 1024) × (b ≤ 1024) × (1024 + a - b ≡ cond s (1024 - q) (1024 + q))
signs true q a b h k l = omega arith
signs false q a b h k l = omega arith

finite_read : (s : Bool) (m : ℕ) (e : ℤ) → T (fits binary32 (fin s m e)) → m * up e ≤ 1 * down e → Read (fin s m e) (mul binary64 (fin s m e) f64_1024)
unfolding grid_index multiples_in
finite_read s m e t h =
    let y = mul binary64 (fin s m e) f64_1024 in
    let n = m * up e * 1024 in
    let d = down e in
    let D = down_pos e in
    let v = scaled_value 10 (lit≤ tt) f64_1024 scale_is s m e t in
    let N : n ≤ d * 1024 = omega arith in
    let q = div-le_of_le-mul d N in
    let u = le_trans q (lit≤ tt) in
    let r = signs s (n / d) (to_unsigned 64 y) (to_unsigned 64 (neg y)) q (unsigned_value 64 y s n d D v u) (unsigned_value 64 (neg y) (not s) n d D (neg_value y s n d v) u) in
    (multiple_tested 10 (lit≤ tt) f64_1024 scale_is s m e t, r.0, r.1, r.2)

read : (x : Float) → T (fits binary32 x) → T (is_nan x) ⊎ Sized x 1 → Read x (mul binary64 x f64_1024)
unfolding is_nan
read nan t h = unfold mul whole_of eq neg to_unsigned is_multiple grid_index multiples_in in (refl, zero-le, zero-le, refl)
read (inf s) t (inl h) = absurd h
read (inf s) t (inr h) = absurd h
read (fin s m e) t (inl h) = absurd h
read (fin s m e) t (inr h) = finite_read s m e t h

pub curve_read : (curve : Float) → T (fits binary32 curve) → Read (clamped_curve curve) (mul binary64 (clamped_curve curve) f64_1024)
curve_read curve t = read (clamped_curve curve) (clamped_fits curve t) (clamped_size curve)
