-- One comparison brings a float to an end as `max_of` and `min_of` have it, where the end is no NaN and a zero of the right sign. Assumes nothing.
use mathlib.Core.Path.{◌≡◌, refl, sym, subst}
use mathlib.Core.Logic.{◌⊎◌, inl, inr}
use mathlib.Core.Bool.{Bool, true, false, not}
use lib.IntN.{pos}
use lib.Dec.{T}
use lib.Ieee.{Float, nan, inf, fin, binary32, lt, eq, le, is_nan, fits}
use lib.Ieee.Bits.{is_true}
use Rattle.floatlaws.specs.Extrema.{signed, max_of, min_of}
use Rattle.floatlaws.proofs.Tests.{decide, not_so, or_split}
use Rattle.floatlaws.proofs.Order.{not_lt→le}
use Rattle.floatlaws.proofs.Unique.{is_zero, eq→same}
use Rattle.floatlaws.proofs.Extrema.{zero_shape, max_less, max_of_nan, max_either, min_more, min_either}
use Rattle.chaos.specs.Advance.{is_lower, is_upper}

abbrev zero_of : Bool → Float
zero_of s = fin s 0 (pos 0)

lower_number : (x : Float) → T (is_lower x) → T (not (is_nan x))
unfolding is_nan
lower_number nan h = h
lower_number (inf s) h = tt
lower_number (fin s m e) h = tt

upper_number : (x : Float) → T (is_upper x) → T (not (is_nan x))
unfolding is_nan
upper_number nan h = h
upper_number (inf s) h = tt
upper_number (fin s m e) h = tt

lower_zero : (s t : Bool) → T (is_lower (zero_of t)) → zero_of t ≡ max_of (zero_of s) (zero_of t)
unfolding max_of is_nan lt eq
lower_zero s true h = absurd h
lower_zero true false h = refl
lower_zero false false h = refl

upper_zero : (s t : Bool) → T (is_upper (zero_of t)) → zero_of t ≡ min_of (zero_of s) (zero_of t)
unfolding min_of is_nan lt eq
upper_zero s false h = absurd h
upper_zero true true h = refl
upper_zero false true h = refl

min_of_nan : (x y : Float) → T (is_nan x) → y ≡ min_of x y
unfolding min_of is_nan
min_of_nan nan y h = refl
min_of_nan (inf s) y h = absurd h
min_of_nan (fin s m e) y h = absurd h

-- two zeros, by their signs
zeros : (P : Float → Float → Type 0) (x y : Float) → T (fits binary32 x) → T (fits binary32 y) → T (is_zero x) → T (is_zero y) → P (zero_of (signed x)) (zero_of (signed y)) → P x y
zeros P x y p q a b h = subst (λ (z : Float). P z y) (sym (zero_shape binary32 x p a)) (subst (λ (z : Float). P (zero_of (signed x)) z) (sym (zero_shape binary32 y q b)) h)

module _ (x y : Float) (p : T (fits binary32 x)) (q : T (fits binary32 y)) where
  pub to_lower : T (is_lower y) → lt y x ≡ false → y ≡ max_of x y
  unfolding le
  to_lower e h = go (decide (is_nan x))
    where
      level : (x ≡ y) ⊎ (T (is_zero x) × T (is_zero y)) → y ≡ max_of x y
      level (inl s) = max_either (λ (z : Float). y ≡ z) x y (sym s) refl
      level (inr z) = zeros (λ (a b : Float). T (is_lower b) → b ≡ max_of a b) x y p q z.0 z.1 (lower_zero (signed x) (signed y)) e

      go : T (is_nan x) ⊎ T (not (is_nan x)) → y ≡ max_of x y
      go (inl n) = sym (max_of_nan x y n)
      go (inr n) = elim (or_split (lt x y) (eq x y) (not_lt→le y x (lower_number y e) n (not_so h))) [ inl l ↦ max_less x y (is_true (lt x y) l) | inr l ↦ level (eq→same binary32 x y p q l) ]

  pub to_upper : T (is_upper y) → lt x y ≡ false → y ≡ min_of x y
  unfolding le
  to_upper e h = go (decide (is_nan x))
    where
      level : (y ≡ x) ⊎ (T (is_zero y) × T (is_zero x)) → y ≡ min_of x y
      level (inl s) = min_either (λ (z : Float). y ≡ z) x y s refl
      level (inr z) = zeros (λ (a b : Float). T (is_upper b) → b ≡ min_of a b) x y p q z.1 z.0 (upper_zero (signed x) (signed y)) e

      go : T (is_nan x) ⊎ T (not (is_nan x)) → y ≡ min_of x y
      go (inl n) = min_of_nan x y n
      go (inr n) = elim (or_split (lt y x) (eq y x) (not_lt→le x y n (upper_number y e) (not_so h))) [ inl l ↦ min_more x y (is_true (lt y x) l) | inr l ↦ level (eq→same binary32 y x q p l) ]
