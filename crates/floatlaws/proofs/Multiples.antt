-- What `is_multiple` says; of a float that is n / d in size: its whole part, whether it is that, and as an integer; and how a program tells the multiples of 1 / 2 ^ k: by 2 ^ k times the float. Assumes nothing.
use mathlib.Core.Path.{◌≡◌, refl, sym, ap, ◌∙◌, subst}
use mathlib.Core.Bool.{Bool, true, false, ◌&&◌, ◌||◌, beq, cond}
use Prim.Native.Nat.{ℕ, ◌+◌, ◌-◌, ◌*◌, ◌/◌, ◌%◌, ◌^◌, ◌≤◌, ◌<◌, min}
use native.Mathlib.Nat.{le_of_eq, lt_of_lt_of_le, lt_of_le_of_lt, add-zero, one-mul, mul-one, mul_assoc, mul_right_comm, mul-mod_left, div-add-mod'}
use native.Mathlib.Omega.{arith}
use lib.IntN.{ℤ, pos}
use lib.Dec.{T, eqb, eqb→eq, lit≤}
use lib.Pow.{pow-add, pow_mono, shl_lt}
use lib.Ieee.{Float, nan, inf, fin, Format, binary32, binary64, up, down, round, mul, level, eq, fits, to_unsigned}
use lib.Ieee.Fits.{and_l, and_i, eq→eqb, down_pos, mul-fits}
use lib.Ieee.Exact.{HasValue, round_exact}
use lib.Ieee.Nearest.{div_same}
use Rattle.floatlaws.specs.Extrema.{signed}
use Rattle.floatlaws.specs.Whole.{whole_of, to_zero}
use Rattle.floatlaws.specs.Multiples.{is_multiple, multiples_in, MultipleRule}
use Rattle.floatlaws.proofs.Tests.{iff_same, or_l}
use Rattle.floatlaws.proofs.Unique.{fits_held, held_units}
use Rattle.floatlaws.proofs.Values.{eq_by_value, unlike_plus}
use Rattle.floatlaws.proofs.Whole.{whole_value}

pub multiple_exact : (n : ℕ) (x : Float) → T (is_multiple n x) → HasValue x (signed x) (multiples_in n x) n
unfolding is_multiple multiples_in
multiple_exact n nan h = absurd h
multiple_exact n (inf t) h = absurd h
multiple_exact n (fin t m e) h =
    let x = m * up e * n in
    (refl, sym (div-add-mod' x (down e)) ∙ rw (eqb→eq (x % down e) 0 h) (add-zero (x / down e * down e)))

pub multiple_rule : MultipleRule
multiple_rule n nan = (λ h. absurd (unfold is_multiple in h), λ h. absurd h.2)
multiple_rule n (inf t) = (λ h. absurd (unfold is_multiple in h), λ h. absurd h.2)
multiple_rule n (fin t m e) = (λ h. (t, multiples_in n (fin t m e), multiple_exact n (fin t m e) h), back)
  where
    back : (s : Bool) × (k : ℕ) × HasValue (fin t m e) s k n → T (is_multiple n (fin t m e))
    back h = unfold is_multiple in (rw h.2.1 (eq→eqb (mul-mod_left h.1 (down e))))

-- ---- a float y that is n / d in size

whole_at : (f : Format) (y : Float) (s : Bool) (n d : ℕ) → 0 < d → HasValue y s n d → T (fits f y) → HasValue (whole_of f to_zero y) s (n / d) 1
whole_at f nan s n d D v t = absurd v
whole_at f (inf u) s n d D v t = absurd v
whole_at f (fin u m e) s n d D v t =
    subst (λ (b : Bool). HasValue (whole_of f to_zero (fin u m e)) b (n / d) 1) v.0
    (subst (λ (q : ℕ). HasValue (whole_of f to_zero (fin u m e)) u q 1) (div_same (m * up e) (down e) n d (down_pos e) D v.1) (whole_value f to_zero u m e t))

nothing_left : (s : Bool) (n d : ℕ) → level s (n / d * d) s (n * 1) ≡ eqb (n % d) 0
nothing_left s n d =
    let a = eqb (n / d * d) (n * 1) in
    let b = beq s s || eqb (n / d * d) 0 in
    iff_same (a && b) (eqb (n % d) 0)
    (λ (h : T (a && b)). eq→eqb (none (n / d * d) (n % d) n (div-add-mod' n d) (eqb→eq (n / d * d) (n * 1) (and_l a b h))))
    (λ (h : T (eqb (n % d) 0)). and_i a b (eq→eqb (all (n / d * d) (n % d) n (div-add-mod' n d) (eqb→eq (n % d) 0 h))) (or_l (beq s s) (eqb (n / d * d) 0) (like s)))
  where
    none : (p r n : ℕ) → p + r ≡ n → p ≡ n * 1 → r ≡ 0
    none p r n h k = omega arith

    all : (p r n : ℕ) → p + r ≡ n → r ≡ 0 → p ≡ n * 1
    all p r n h k = omega arith

    like : (s : Bool) → T (beq s s)
    like true = tt
    like false = tt

-- it is its whole part where d divides n
pub is_whole : (f : Format) (y : Float) (s : Bool) (n d : ℕ) → 0 < d → HasValue y s n d → T (fits f y) → eq (whole_of f to_zero y) y ≡ eqb (n % d) 0
is_whole f y s n d D v t = eq_by_value (whole_of f to_zero y) y s s (n / d) 1 n d (omega arith) D (whole_at f y s n d D v t) v ∙ nothing_left s n d

pub unsigned_value : (w : ℕ) (y : Float) (s : Bool) (n d : ℕ) → 0 < d → HasValue y s n d → n / d ≤ 2 ^ w - 1 → to_unsigned w y ≡ cond s 0 (n / d)
unfolding to_unsigned
unsigned_value w nan s n d D v h = absurd v
unsigned_value w (inf u) s n d D v h = absurd v
unsigned_value w (fin u m e) s n d D v h =
    ap (λ (b : Bool). cond b 0 (min (m * up e / down e) (2 ^ w - 1))) v.0
    ∙ ap (λ (q : ℕ). cond s 0 q) (ap (λ (q : ℕ). min q (2 ^ w - 1)) (div_same (m * up e) (down e) n d (down_pos e) D v.1) ∙ small (n / d) (2 ^ w - 1) h)
  where
    small : (q l : ℕ) → q ≤ l → min q l ≡ q
    small q l h = omega arith

-- ---- an `f32` times c, which is 2 ^ k: exact in an `f64`

module _ (k : ℕ) (few : k ≤ 64) (c : Float) (is : c ≡ fin false 1 (pos k)) where
  product_is : (s : Bool) (m : ℕ) (e : ℤ) → mul binary64 (fin s m e) c ≡ round binary64 s (m * up e * 2 ^ k) (down e)
  product_is s m e =
      ap (mul binary64 (fin s m e)) is
      ∙ unfold mul in
      (ap (λ (u : Bool). round binary64 u (m * up e * (1 * 2 ^ k)) (down e * 1)) (unlike_plus s)
      ∙ ap (λ (n : ℕ). round binary64 s (m * up e * n) (down e * 1)) (one-mul (2 ^ k))
      ∙ ap (round binary64 s (m * up e * 2 ^ k)) (mul-one (down e)))

  pub scaled_value : (s : Bool) (m : ℕ) (e : ℤ) → T (fits binary32 (fin s m e)) → HasValue (mul binary64 (fin s m e) c) s (m * up e * 2 ^ k) (down e)
  scaled_value s m e t =
      let h = fits_held binary32 s m e t in
      let u = held_units binary32 m e h in
      let j = u.0 in
      let n = m * up e in
      let g = k + 925 in
      let split : m * 2 ^ (j + g) ≡ m * 2 ^ j * 2 ^ g = ap (λ (z : ℕ). m * z) (pow-add 2 j g) ∙ sym (mul_assoc m (2 ^ j) (2 ^ g)) in
      subst (λ (y : Float). HasValue y s (n * 2 ^ k) (down e)) (sym (product_is s m e))
      (round_exact binary64 s (n * 2 ^ k) (down e) m (j + g) (down_pos e) (lt_of_lt_of_le h.0 (lit≤ tt))
      (lt_of_le_of_lt (le_of_eq split) (lt_of_lt_of_le (shl_lt 277 g u.3) (pow_mono {i = 277 + g} {j = 2098} (omega arith))))
      (mul_assoc n (2 ^ k) (2 ^ 1074)
      ∙ ap (λ (z : ℕ). n * z) (sym (pow-add 2 k 1074) ∙ ap (λ (z : ℕ). 2 ^ z) (sum k) ∙ pow-add 2 149 g)
      ∙ sym (mul_assoc n (2 ^ 149) (2 ^ g))
      ∙ ap (λ (z : ℕ). z * 2 ^ g) u.2
      ∙ mul_right_comm (m * 2 ^ j) (down e) (2 ^ g)
      ∙ ap (λ (z : ℕ). z * down e) (sym split)))
    where
      sum : (k : ℕ) → k + 1074 ≡ 149 + (k + 925)
      sum k = omega arith

  -- "is a multiple of 1 / 2 ^ k", as a program tests it
  pub multiple_tested : (s : Bool) (m : ℕ) (e : ℤ) → T (fits binary32 (fin s m e)) → let y = mul binary64 (fin s m e) c in eq (whole_of binary64 to_zero y) y ≡ is_multiple (2 ^ k) (fin s m e)
  unfolding is_multiple
  multiple_tested s m e t = is_whole binary64 (mul binary64 (fin s m e) c) s (m * up e * 2 ^ k) (down e) (down_pos e) (scaled_value s m e t) (mul-fits binary64 (fin s m e) c)
