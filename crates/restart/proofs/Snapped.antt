-- A Phase from 0 to 1 cycle that is snapped to a grid of any number of lines is at most 2, if it is a number at all. Assumes nothing.
use Prim.Native.Nat.{ℕ, suc, ◌+◌, ◌*◌, ◌/◌, ◌≤◌, ◌<◌}
use mathlib.Core.Path.{◌≡◌, refl, sym, ap, ◌∙◌, subst}
use mathlib.Core.Logic.{◌⊎◌, inl, inr}
use mathlib.Core.Bool.{Bool, true, false, cond}
use native.Mathlib.Nat.{le_trans, le_of_eq, zero-lt-suc, mul_comm, mul_assoc, mul-one, one-mul, mul_right_comm, mul-pos, mul-le-mul_right, le_of_mul-le-mul_right, div-add-mod', mod-lt, suc-mul}
use native.Mathlib.Omega.{arith}
use lib.Dec.{T, eqb, lit≤}
use lib.IntN.{ℤ, pos}
use lib.Ieee.{Float, nan, inf, fin, binary64, up, down, round, unlike, fits, neg, mul, div, of_int, le}
use lib.Ieee.Exact.{HasValue}
use lib.Ieee.Fits.{down_pos, mul-fits, of_int-fits}
use lib.Ieee.Order.{round_mono}
use Rattle.floatlaws.specs.Rounded.{to_f64}
use Rattle.floatlaws.specs.Whole.{whole_of, whole_size, to_half}
use Rattle.floatlaws.proofs.Order.{le_says, between_finite}
use Rattle.floatlaws.proofs.Range.{at_least_zero}
use Rattle.floatlaws.specs.Size.{Sized, Size}
use Rattle.floatlaws.proofs.Size.{div_size}
use Rattle.floatlaws.proofs.Unique.{neg_round, round_held}
use Rattle.floatlaws.proofs.Unit.{zero_float, one_float}
use Rattle.floatlaws.proofs.Whole.{whole_value}
use Rattle.settings.proofs.Knob.{half_le}
use Rattle.clock.specs.Ready.{snapped}

-- at most n in size, n being a float of no sign
abbrev Under : Float → ℕ → ℤ → Type 0
Under nan n d = ⊥
Under (inf s) n d = ⊥
Under (fin s m e) n d = m * up e * down d ≤ n * up d * down e

under_neg : (x : Float) (n : ℕ) (d : ℤ) → Under x n d → Under (neg x) n d
unfolding neg
under_neg nan n d h = h
under_neg (inf s) n d h = h
under_neg (fin s m e) n d h = h

under_of : (x : Float) (n : ℕ) (d : ℤ) → T (le zero_float x) → T (le x (fin false n d)) → Under x n d
under_of nan n d l u = unfold le in l
under_of (inf s) n d l u = between_finite zero_float (inf s) (fin false n d) tt tt l u
under_of (fin true m e) n d l u = none (m * up e) (down e) (down d) (n * up d * down e) (le_says false true (0 * down e) (m * up e * 1) (unfold le in l))
  where
    none : (b p r c : ℕ) → 0 * p + b * 1 ≤ 0 + 0 → b * r ≤ c
    none b p r c h = let z : b ≡ 0 = omega arith in rw z (omega arith)
under_of (fin false m e) n d l u = plain (m * up e * down d) (n * up d * down e) (le_says false false (m * up e * down d) (n * up d * down e) (unfold le in u))
  where
    plain : (b p : ℕ) → b + 0 ≤ p + 0 → b ≤ p
    plain b p h = omega arith

-- the next whole number above y / r
next_above : (y r : ℕ) → 0 < r → y ≤ suc (y / r) * r
next_above y r R = rw (suc-mul (y / r) r) (omega (arith, div-add-mod' y r, mod-lt y R))

next_twice : (y r : ℕ) → 0 < r → 1 * r ≤ 1 * y → suc (y / r) * r ≤ 2 * y
next_twice y r R h = rw (suc-mul (y / r) r) (omega (arith, div-add-mod' y r))

positive : (y r : ℕ) → 0 < r → 1 * r ≤ 1 * y → 0 < y
positive y r R h = omega arith

module _ (n : ℕ) (d : ℤ) (F : T (fits binary64 (fin false n d))) where
  plus_under : (a c : ℕ) → 0 < c → a * down d ≤ n * up d * c → Under (round binary64 false a c) n d
  plus_under a c C h =
      under_of (round binary64 false a c) n d (at_least_zero binary64 a c C)
      (subst (λ (z : Float). T (le (round binary64 false a c) z)) (round_held binary64 false n d F) (round_mono binary64 a c (n * up d) (down d) C (down_pos d) h))

  round_under : (s : Bool) (a c : ℕ) → 0 < c → a * down d ≤ n * up d * c → Under (round binary64 s a c) n d
  round_under false a c C h = plus_under a c C h
  round_under true a c C h = subst (λ (z : Float). Under z n d) (neg_round binary64 a c) (under_neg (round binary64 false a c) n d (plus_under a c C h))

  -- a share of it is no more than it
  share_under : (x : Float) → Sized x 1 → Under (mul binary64 x (fin false n d)) n d
  unfolding mul
  share_under nan z = absurd z
  share_under (inf s) z = absurd z
  share_under (fin s m e) z = round_under (unlike s false) (m * up e * (n * up d)) (down e * down d) (mul-pos (down_pos e) (down_pos d)) (part (m * up e) (down e) (n * up d) (down d) z)
    where
      part : (x p y r : ℕ) → x ≤ 1 * p → x * y * r ≤ y * (p * r)
      part x p y r h =
          le_trans (mul-le-mul_right r (mul-le-mul_right y (le_trans h (le_of_eq (one-mul p))))) (le_of_eq (ap (λ (z : ℕ). z * r) (mul_comm p y) ∙ mul_assoc y p r))

  -- from 1 on, the next whole number above it is at most twice it
  module _ (L : 1 * down d ≤ 1 * (n * up d)) where
    abbrev top : ℕ
    top = suc (n * up d / down d)

    above : n * up d ≤ top * down d
    above = next_above (n * up d) (down d) (down_pos d)

    twice : top * down d ≤ 2 * (n * up d)
    twice = next_twice (n * up d) (down d) (down_pos d) L

    whole_sized : (x : Float) → T (fits binary64 x) → Under x n d → Sized (whole_of binary64 to_half x) top
    whole_sized nan f u = absurd u
    whole_sized (inf s) f u = absurd u
    whole_sized (fin s m e) f u =
        valued (whole_of binary64 to_half (fin s m e)) s (whole_size to_half s (m * up e) (down e)) (whole_value binary64 to_half s m e f)
        (half_le s (m * up e) (down e) top (down_pos e) (le_of_mul-le-mul_right (le_trans u (le_trans (mul-le-mul_right (down e) above) (le_of_eq (mul_right_comm top (down d) (down e))))) (down_pos d)))
      where
        valued : (y : Float) (s : Bool) (k : ℕ) → HasValue y s k 1 → k ≤ top → Sized y top
        valued nan s k v h = absurd v
        valued (inf t) s k v h = absurd v
        valued (fin t a b) s k v h = le_trans (le_of_eq (sym (mul-one (a * up b)) ∙ v.1)) (mul-le-mul_right (down b) h)

    snapped_sized : (x : Float) → Sized x 1 → Size (div binary64 (whole_of binary64 to_half (mul binary64 x (fin false n d))) (fin false n d)) 2
    snapped_sized x z =
        div_size {j = n * up d} {k = down d} 2 (positive (n * up d) (down d) (down_pos d) L) twice (lit≤ tt)
        (record { sized = whole_sized (mul binary64 x (fin false n d)) (mul-fits binary64 x (fin false n d)) (share_under x z) })
        (record { least = le_of_eq (mul_comm (n * up d) (down d)) })

-- ---- of a grid, which is beyond the largest float where it is an infinity

-- at an infinity no number comes out
lost : (x : Float) (t : Bool) → Sized x 1 → div binary64 (whole_of binary64 to_half (mul binary64 x (inf t))) (inf t) ≡ nan
unfolding mul
lost nan t z = absurd z
lost (inf s) t z = absurd z
lost (fin s m e) t z = go (eqb m 0)
  where
    go : (b : Bool) → div binary64 (whole_of binary64 to_half (cond b nan (inf (unlike s t)))) (inf t) ≡ nan
    go true = unfold div whole_of in refl
    go false = unfold div whole_of in refl

near : (x y : Float) → Sized x 1 → T (le one_float y) → T (fits binary64 y) → (div binary64 (whole_of binary64 to_half (mul binary64 x y)) y ≡ nan) ⊎ Size (div binary64 (whole_of binary64 to_half (mul binary64 x y)) y) 2
near x nan z l f = absurd (unfold le in l)
near x (inf t) z l f = inl (lost x t z)
near x (fin true n d) z l f = absurd (clash (down d) (n * up d) (down_pos d) (le_says false true (1 * down d) (n * up d * 1) (unfold le in l)))
  where
    clash : (r y : ℕ) → 0 < r → 1 * r + y * 1 ≤ 0 + 0 → ⊥
    clash r y R h = omega arith
near x (fin false n d) z l f = inr (snapped_sized n d f (least (down d) (n * up d) (le_says false false (1 * down d) (n * up d * 1) (unfold le in l))) x z)
  where
    least : (r y : ℕ) → 1 * r + 0 ≤ y * 1 + 0 → 1 * r ≤ 1 * y
    least r y h = omega arith

pub snapped_near : (x : Float) (g : ℕ) → Size x 1 → 0 < g → (snapped x g ≡ nan) ⊎ Size (snapped x g) 2
snapped_near x g z G = near x (to_f64 g) z.sized (grid_least g G) (of_int-fits binary64 (pos g))
  where
    grid_least : (g : ℕ) → 0 < g → T (le one_float (to_f64 g))
    grid_least g G = unfold of_int in subst (λ (y : Float). T (le y (round binary64 false g 1))) (unfold round in refl) (round_mono binary64 1 1 g 1 (zero-lt-suc 0) (zero-lt-suc 0) (omega arith))
