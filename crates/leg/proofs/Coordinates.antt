-- What the proofs of `squares` and `on_paper` cite: 4,096 times a coordinate is exact in an `f64`, so that its whole part and what is left are those of the definitions. And of a coordinate on the
-- paper: it is so many squares exactly, and clamping keeps it. Assumes nothing.
use Rattle.std.proofs.Common.{◌≡◌, ℕ, ◌+◌, ◌*◌, ◌/◌, ◌≤◌, Bool, true, false, cond, ◌&&◌, T, ◌⊎◌, ℤ, pos, sym, refl, ap, ◌∙◌, inl, inr, zero-le, le_trans, arith, lit≤}
use native.Mathlib.Nat.{div-le_of_le-mul, zero-div}
use lib.Ieee.{Float, nan, inf, fin, binary32, binary64, up, down, mul, lt, le, eq, fits, is_nan, of_bits, to_unsigned}
use lib.Ieee.Fits.{and_l, and_r, down_pos}
use lib.Ieee.Bits.{of_bits-fits}
use Rattle.floatlaws.specs.Extrema.{signed, clamp_of}
use Rattle.floatlaws.specs.Whole.{whole_of, to_zero}
use Rattle.floatlaws.specs.Numbers.{Between, f32_0, f32_1, f64_4096}
use Rattle.floatlaws.specs.Multiples.{is_multiple, multiples_in}
use Rattle.floatlaws.proofs.Extrema.{clamp_inside, clamp_bounds, clamp_fits}
use Rattle.floatlaws.proofs.Tests.{and_false}
use Rattle.floatlaws.proofs.Order.{le_says, le_not_lt}
use Rattle.floatlaws.proofs.Multiples.{multiple_exact, scaled_value, multiple_tested, unsigned_value}
use Rattle.leg.specs.Paper.{on_paper, squares_of, PaperExact, PaperKept}

abbrev scaled : Float → Float
scaled x = mul binary64 x f64_4096

scale_is : f64_4096 ≡ fin false 1 (pos 12)
unfolding of_bits
scale_is = refl

-- ---- the test of `on_paper`

pub paper_tested : (c : Float) → T (fits binary32 c) → (eq (whole_of binary64 to_zero (scaled c)) (scaled c) && le f32_0 c && le c f32_1) ≡ on_paper c
unfolding on_paper
paper_tested nan t = unfold mul whole_of eq is_multiple in refl
paper_tested (inf true) t = unfold is_multiple le of_bits in ap (λ (b : Bool). b && le (inf true) f32_1) (and_false (eq (whole_of binary64 to_zero (scaled (inf true))) (scaled (inf true))))
paper_tested (inf false) t = unfold is_multiple le of_bits in and_false (eq (whole_of binary64 to_zero (scaled (inf false))) (scaled (inf false)) && le f32_0 (inf false))
paper_tested (fin s m e) t = ap (λ (b : Bool). b && le f32_0 (fin s m e) && le (fin s m e) f32_1) (multiple_tested 12 (lit≤ tt) f64_4096 scale_is s m e t)

-- ---- a coordinate from 0 to 1: its size, and no sign but that of -0

module _ (m : ℕ) (e : ℤ) where
  upper : T (le (fin false m e) f32_1) → m * up e ≤ down e
  unfolding le of_bits
  upper h = go (m * up e) (down e) (le_says false false (m * up e * 1) (1 * 1 * down e) h)
    where
      go : (a d : ℕ) → a * 1 + 0 ≤ 1 * 1 * d + 0 → a ≤ d
      go a d h = omega arith

  none : T (le f32_0 (fin true m e)) → m * up e ≡ 0
  unfolding le of_bits
  none h = go (down e) (m * up e) (le_says false true (0 * 1 * down e) (m * up e * 1) h)
    where
      go : (d a : ℕ) → 0 * 1 * d + a * 1 ≤ 0 + 0 → a ≡ 0
      go d a h = omega arith

  few : (s : Bool) → Between f32_0 (fin s m e) f32_1 → m * up e * 4096 / down e ≤ 4096
  few true h = rw (none h.0, zero-div (down e)) zero-le
  few false h = div-le_of_le-mul (down e) (go (m * up e) (down e) (upper h.1))
    where
      go : (a d : ℕ) → a ≤ d → a * 4096 ≤ d * 4096
      go a d h = omega arith

  plain : (s : Bool) → Between f32_0 (fin s m e) f32_1 → cond s 0 (m * up e * 4096 / down e) ≡ m * up e * 4096 / down e
  plain true h = rw (none h.0) (sym (zero-div (down e)))
  plain false h = refl

-- ---- what `squares` reads

abbrev Read : Float → Type 0
Read x = (to_unsigned 64 (scaled x) ≡ multiples_in 4096 x) × (multiples_in 4096 x ≤ 4096)

read : (x : Float) → T (fits binary32 x) → T (is_nan x) ⊎ Between f32_0 x f32_1 → Read x
unfolding is_nan multiples_in
read nan t h = unfold mul to_unsigned in (refl, zero-le)
read (inf s) t (inl h) = absurd h
read (inf true) t (inr h) = absurd (unfold le of_bits in h.0)
read (inf false) t (inr h) = absurd (unfold le of_bits in h.1)
read (fin s m e) t (inl h) = absurd h
read (fin s m e) t (inr h) =
    let q = few m e s h in
    (unsigned_value 64 (scaled (fin s m e)) s (m * up e * 4096) (down e) (down_pos e) (scaled_value 12 (lit≤ tt) f64_4096 scale_is s m e t) (le_trans q (lit≤ tt)) ∙ plain m e s h, q)

clamped : (c : Float) → T (is_nan (clamp_of c f32_0 f32_1)) ⊎ Between f32_0 (clamp_of c f32_0 f32_1) f32_1
clamped nan = inl (unfold clamp_of is_nan lt of_bits in tt)
clamped (inf s) = inr (clamp_bounds (inf s) f32_0 f32_1 (unfold is_nan in tt) (unfold le of_bits in tt))
clamped (fin s m e) = inr (clamp_bounds (fin s m e) f32_0 f32_1 (unfold is_nan in tt) (unfold le of_bits in tt))

pub squares_read : (c : Float) → T (fits binary32 c) → (to_unsigned 64 (scaled (clamp_of c f32_0 f32_1)) ≡ squares_of c) × (squares_of c ≤ 4096)
unfolding squares_of
squares_read c t = read (clamp_of c f32_0 f32_1) (clamp_fits binary32 c f32_0 f32_1 t (of_bits-fits binary32 0) (of_bits-fits binary32 0x3f80_0000)) (clamped c)

pub squares_most : (c : Float) → squares_of c ≤ 4096
unfolding squares_of multiples_in
squares_most c = go (clamp_of c f32_0 f32_1) (clamped c)
  where
    go : (x : Float) → T (is_nan x) ⊎ Between f32_0 x f32_1 → multiples_in 4096 x ≤ 4096
    go nan h = zero-le
    go (inf s) h = zero-le
    go (fin s m e) (inl h) = absurd (unfold is_nan in h)
    go (fin s m e) (inr h) = few m e s h

-- ---- on the paper

parts : (c : Float) → T (on_paper c) → T (is_multiple 4096 c) × T (le f32_0 c) × T (le c f32_1)
unfolding on_paper
parts c on =
    let a = is_multiple 4096 c && le f32_0 c in
    let b = and_l a (le c f32_1) on in
    (and_l (is_multiple 4096 c) (le f32_0 c) b, and_r (is_multiple 4096 c) (le f32_0 c) b, and_r a (le c f32_1) on)

pub paper_kept : PaperKept
paper_kept c on = sym (clamp_inside c f32_0 f32_1 (le_not_lt c f32_0 (parts c on).1) (le_not_lt f32_1 c (parts c on).2))

pub paper_exact : PaperExact
paper_exact c on = rw (sym squares) (record { value = multiple_exact 4096 c (parts c on).0; sign = no_sign c (parts c on).1 })
  where
    squares : multiples_in 4096 c ≡ squares_of c
    squares = unfold squares_of in ap (multiples_in 4096) (sym (paper_kept c on))

    no_sign : (x : Float) → T (le f32_0 x) → T (signed x) → multiples_in 4096 x ≡ 0
    no_sign nan h k = absurd k
    no_sign (inf s) h k = unfold multiples_in in refl
    no_sign (fin true m e) h k = unfold multiples_in in (rw (none m e h) (zero-div (down e)))
    no_sign (fin false m e) h k = absurd k
