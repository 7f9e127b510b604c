-- Two floats are the same, or they are not; and a test of it that computes. Assumes nothing.
use mathlib.Core.Path.{◌≡◌, refl, sym, ap, subst}
use mathlib.Core.Logic.{◌⊎◌, inl, inr}
use mathlib.Core.Bool.{Bool, true, false, ◌&&◌, beq, Bool-discrete}
use Prim.Native.Nat.{ℕ}
use native.Mathlib.Decide.{ℕ_discrete}
use lib.Dec.{T, eqb, eqb→eq}
use lib.IntN.{ℤ, pos, negsuc, ℤ_discrete}
use lib.Ieee.{Float, nan, inf, fin, is_nan}
use lib.Ieee.Fits.{and_l, and_r}
use lib.Ieee.Scale.{finite}
use Rattle.floatlaws.specs.Extrema.{signed}

-- m and e of the value m · 2^e
abbrev digits : Float → ℕ
digits nan = 0
digits (inf s) = 0
digits (fin s m e) = m

abbrev power : Float → ℤ
power nan = pos 0
power (inf s) = pos 0
power (fin s m e) = e

abbrev SameOrNot : Float → Float → Type 0
SameOrNot x y = (x ≡ y) ⊎ (x ≡ y → ⊥)

same_inf : (s t : Bool) → Dec (s ≡ t) → SameOrNot (inf s) (inf t)
same_inf s t (yes a) = inl (ap inf a)
same_inf s t (no a) = inr (λ (k : inf s ≡ inf t). a (ap signed k))

same_fin : (s t : Bool) (m n : ℕ) (e g : ℤ) → Dec (s ≡ t) → Dec (m ≡ n) → Dec (e ≡ g) → SameOrNot (fin s m e) (fin t n g)
same_fin s t m n e g (yes a) (yes b) (yes c) = inl (λ i. fin (a i) (b i) (c i))
same_fin s t m n e g (yes a) (yes b) (no c) = inr (λ (k : fin s m e ≡ fin t n g). c (ap power k))
same_fin s t m n e g (yes a) (no b) c = inr (λ (k : fin s m e ≡ fin t n g). b (ap digits k))
same_fin s t m n e g (no a) b c = inr (λ (k : fin s m e ≡ fin t n g). a (ap signed k))

not_nan : {x y : Float} → T (is_nan x) → (T (is_nan y) → ⊥) → x ≡ y → ⊥
not_nan h k e = k (subst (λ (z : Float). T (is_nan z)) e h)

not_finite : {x y : Float} → T (finite x) → (T (finite y) → ⊥) → x ≡ y → ⊥
not_finite h k e = k (subst (λ (z : Float). T (finite z)) e h)

pub same_or_not : (x y : Float) → (x ≡ y) ⊎ (x ≡ y → ⊥)
unfolding is_nan
same_or_not nan nan = inl refl
same_or_not nan (inf t) = inr (not_nan tt (λ k. k))
same_or_not nan (fin t n g) = inr (not_nan tt (λ k. k))
same_or_not (inf s) nan = inr (λ (e : inf s ≡ nan). not_nan tt (λ k. k) (sym e))
same_or_not (inf s) (inf t) = same_inf s t (Bool-discrete s t)
same_or_not (inf s) (fin t n g) = inr (λ (e : inf s ≡ fin t n g). not_finite tt (λ k. k) (sym e))
same_or_not (fin s m e) nan = inr (not_finite tt (λ k. k))
same_or_not (fin s m e) (inf t) = inr (not_finite tt (λ k. k))
same_or_not (fin s m e) (fin t n g) = same_fin s t m n e g (Bool-discrete s t) (ℕ_discrete m n) (ℤ_discrete e g)

-- ---- the test, of numbers: the same sign, digits and exponent, so that 0 and -0 differ

abbrev same_exponent : ℤ → ℤ → Bool
same_exponent (pos a) (pos b) = eqb a b
same_exponent (negsuc a) (negsuc b) = eqb a b
same_exponent (pos a) (negsuc b) = false
same_exponent (negsuc a) (pos b) = false

unfoldable pub same_number : Float → Float → Bool
same_number (fin s m e) (fin t n d) = beq s t && (eqb m n && same_exponent e d)
same_number (fin s m e) nan = false
same_number (fin s m e) (inf t) = false
same_number nan y = false
same_number (inf s) y = false

same_sign : (s t : Bool) → T (beq s t) → s ≡ t
same_sign true true h = refl
same_sign true false h = absurd h
same_sign false true h = absurd h
same_sign false false h = refl

same_exponent_lem : (e d : ℤ) → T (same_exponent e d) → e ≡ d
same_exponent_lem (pos a) (pos b) h = ap pos (eqb→eq a b h)
same_exponent_lem (negsuc a) (negsuc b) h = ap negsuc (eqb→eq a b h)
same_exponent_lem (pos a) (negsuc b) h = absurd h
same_exponent_lem (negsuc a) (pos b) h = absurd h

pub same_number_lem : (x y : Float) → T (same_number x y) → x ≡ y
unfolding same_number
same_number_lem (fin s m e) (fin t n d) h =
    let k = and_r (beq s t) (eqb m n && same_exponent e d) h in
    rw (same_sign s t (and_l (beq s t) (eqb m n && same_exponent e d) h), eqb→eq m n (and_l (eqb m n) (same_exponent e d) k), same_exponent_lem e d (and_r (eqb m n) (same_exponent e d) k))
same_number_lem (fin s m e) nan h = absurd h
same_number_lem (fin s m e) (inf t) h = absurd h
same_number_lem nan y h = absurd h
same_number_lem (inf s) y h = absurd h
