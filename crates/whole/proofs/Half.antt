-- What the proofs of `half_up` and `round_f32` cite. Of an x with no sign and less than 2 ^ 23 the sum with 2 ^ 23 lies from 2 ^ 23 to 2 ^ 24, where an `f32` has the whole numbers alone:
-- the difference from it is the whole number nearest to x, of two the even one, so that a test of what is left of x tells the half that goes up. Assumes nothing.
use Rattle.std.proofs.Common.{◌≡◌, ℕ, suc, ◌+◌, ◌-◌, ◌*◌, ◌/◌, ◌%◌, ◌^◌, ◌<◌, ◌≤◌, Bool, true, false, cond, not, T, leb, ltb, ℤ, pos, negsuc, sym, refl, ap, ◌∙◌, subst, inl, inr, zero-lt-suc, mod-lt, suc-mul, mul-one, mul-pos, div-add-mod', arith, le→leb, lt→ltb, ltb→lt, nltb→le, true≢false}
use native.Mathlib.Nat.{div-one, mod-one}
use lib.Pow.{pow_pos}
use lib.Ieee.{Float, nan, inf, fin, binary32, up, down, round, neg, add, sub, lt, le, ne, fits}
use lib.Ieee.Compare.{differs_from_itself}
use lib.Ieee.Fits.{down_pos}
use lib.Ieee.Exact.{HasValue}
use lib.Ieee.Nearest.{closest}
use lib.Ieee.Bits.{is_true}
use Rattle.std.specs.Float.{is_sign_negative}
use Rattle.floatlaws.specs.Whole.{Way, to_half, bumps, whole_size, whole_of}
use Rattle.floatlaws.proofs.Tests.{not_so, yes_so}
use Rattle.floatlaws.proofs.Order.{neg_neg, le_trans_at}
use Rattle.floatlaws.proofs.Unique.{fits_held, round_held, round_zero, neg_round}
use Rattle.floatlaws.proofs.Mono.{round_le}
use Rattle.floatlaws.proofs.Cut.{closest_even}
use Rattle.floatlaws.proofs.Unit.{closest_half}
use Rattle.floatlaws.proofs.Values.{lt_by_value, add_by_value, neg_value, sum_like, sum_unlike}
use Rattle.floatlaws.proofs.Whole.{one, half, bumped, down_test, whole_value, half_step_up, half_stay}
use Rattle.whole.proofs.Near.{rounded_at, next, over}

-- 2 ^ 23, and the float
abbrev edge : ℕ
edge = 8388608

abbrev pub big : Float
big = fin false 1 (pos 23)

-- the whole number nearest to x
abbrev pub nearest : Float → Float
nearest x = sub binary32 (add binary32 x big) big

-- ---- what the test tells

-- With w for x to the nearest whole number, a half up, and t for one nearest to x: w is one more than t where a half or more is left, and else t.
pub record Halves (x t w : Float) : Type 0 where
  pub more : le half (sub binary32 x t) ≡ true → add binary32 t one ≡ w
  pub same : le half (sub binary32 x t) ≡ false → t ≡ w

-- what has a sign is no half
nothing_left : T (le half (fin false 0 (pos 0))) → ⊥
unfolding le
nothing_left k = k

no_half : (a c : ℕ) → 0 < c → T (le half (round binary32 true a c)) → ⊥
no_half a c C h = nothing_left (subst (λ (y : Float). T (le half y)) (round_zero binary32 false) (le_trans_at half (round binary32 true a c) (round binary32 false 0 1) h (round_le binary32 true false a c 0 1 C (zero-lt-suc 0) (omega arith))))

module _ (m : ℕ) (e : ℤ) (t : T (fits binary32 (fin false m e))) where
  abbrev n : ℕ
  n = m * up e

  abbrev d : ℕ
  d = down e

  abbrev q : ℕ
  q = m * up e / down e

  abbrev x : Float
  x = fin false m e

  abbrev w : Float
  w = whole_of binary32 to_half x

  -- where the nearest one is what is cut toward zero
  halves_low : Halves x (round binary32 false q 1) w
  unfolding whole_of
  halves_low = record {
    more = λ h. half_step_up binary32 x t h;
    same = λ h. half_stay binary32 x t h (down_test binary32 false m e t);
  }

  -- where the nearest one is one more, which it is at a half or above it alone
  module _ (b : T (bumps to_half false (n % d) d)) where
    size_is : whole_size to_half false n d ≡ suc q
    size_is = ap (λ (z : Bool). cond z (suc q) q) (is_true (bumps to_half false (n % d) d) b)

    above : n * 1 < suc q * d
    above = go (n / d * d) (n % d) n d (div-add-mod' n d) (mod-lt n (down_pos e)) (suc-mul (n / d) d)
      where
        go : (p r n d : ℕ) → p + r ≡ n → r < d → {s : ℕ} → s ≡ p + d → n * 1 < s
        go p r n d h k o = omega arith

    left : sub binary32 x w ≡ round binary32 true (suc q * d - n * 1) (d * 1)
    unfolding sub
    left =
        add_by_value x (neg w) false true n d (suc q) 1 (down_pos e) (zero-lt-suc 0) binary32 (refl, refl) (neg_value w false (suc q) 1 (subst (λ (z : ℕ). HasValue w false z 1) size_is (whole_value binary32 to_half false m e t)))
        ∙ sum_unlike binary32 false (n * 1) (suc q * d) (d * 1)
        ∙ ap (λ (z : Bool). cond z (round binary32 true (suc q * d - n * 1) (d * 1)) (round binary32 false (n * 1 - suc q * d) (d * 1))) (is_true (ltb (n * 1) (suc q * d)) (lt→ltb (n * 1) (suc q * d) above))

    halves_high : Halves x (round binary32 false (suc q) 1) w
    halves_high = subst (λ (z : Float). Halves x z w) (bumped binary32 false m e t to_half b) (record {
      more = λ (h : le half (sub binary32 x w) ≡ true). absurd (no_half (suc q * d - n * 1) (d * 1) (mul-pos (down_pos e) (zero-lt-suc 0)) (subst (λ (z : Float). T (le half z)) left (yes_so h)));
      same = λ h. refl;
    })

  halves_next : (c : ℕ) → c ≡ closest n d → Halves x (round binary32 false c 1) w
  halves_next c h = elim (next n d) [
    | inl k ↦ subst (λ (z : ℕ). Halves x (round binary32 false z 1) w) (sym (h ∙ k)) halves_low
    | inr k ↦ subst (λ (z : ℕ). Halves x (round binary32 false z 1) w) (sym (h ∙ k)) (halves_high (le→leb d (n % d * 2) (from_half (n / d * d) (n % d) n d (div-add-mod' n d) (suc-mul (n / d) d) (subst (λ (z : ℕ). z * d * 2 ≤ n * 2 + d) k (closest_half n d)))))
  ]
    where
      from_half : (p r n d : ℕ) → p + r ≡ n → {s : ℕ} → s ≡ p + d → s * 2 ≤ n * 2 + d → d ≤ r * 2
      from_half p r n d h k o = omega arith

  module _ (small : m * up e < edge * down e) where
    total : add binary32 x big ≡ round binary32 false (n + edge * d) d
    total =
        add_by_value x big false false n d edge 1 (down_pos e) (zero-lt-suc 0) binary32 (refl, refl) (refl, refl)
        ∙ sum_like binary32 false (n * 1) (edge * d) (d * 1)
        ∙ ap (λ (z : ℕ). round binary32 false (z + edge * d) (d * 1)) (mul-one n)
        ∙ ap (λ (z : ℕ). round binary32 false (n + edge * d) z) (mul-one d)

    total_value : HasValue (add binary32 x big) false (edge + closest n d) 1
    total_value =
        subst (λ (y : Float). HasValue y false (edge + closest n d) 1) (sym total)
        (subst (λ (z : ℕ). HasValue (round binary32 false (n + edge * d) d) false z 1) (closest_even n d edge (down_pos e) refl)
        (rounded_at binary32 (n + edge * d) e (lo n d) (hi n d small)))
      where
        lo : (n d : ℕ) → 8388608 * d ≤ n + edge * d
        lo n d = omega arith

        hi : (n d : ℕ) → n < edge * d → n + edge * d < 16777216 * d
        hi n d h = omega arith

    halves_small : Halves x (nearest x) w
    halves_small = subst (λ (z : Float). Halves x z w) (sym (over binary32 (add binary32 x big) big (edge + closest n d) edge total_value (refl, refl) (closest n d) refl)) (halves_next (closest n d) refl)

-- ---- from the test of the range

under_edge : (m : ℕ) (e : ℤ) → lt (fin false m e) big ≡ ltb (m * up e * 1) (edge * down e)
under_edge m e = lt_by_value (fin false m e) big false false (m * up e) (down e) edge 1 (down_pos e) (zero-lt-suc 0) (refl, refl) (refl, refl)

pub halves : (x : Float) → T (fits binary32 x) → is_sign_negative x ≡ false → lt x big ≡ true → Halves x (nearest x) (whole_of binary32 to_half x)
unfolding lt is_sign_negative
halves nan t s h = absurd (yes_so h)
halves (inf true) t s h = absurd (true≢false s)
halves (inf false) t s h = absurd (yes_so h)
halves (fin true m e) t s h = absurd (true≢false s)
halves (fin false m e) t s h = halves_small m e t (go (m * up e) (edge * down e) (ltb→lt _ _ (yes_so (sym (under_edge m e) ∙ h))))
  where
    go : (a b : ℕ) → a * 1 < b → a < b
    go a b h = omega arith

-- from 2 ^ 23 on every value is whole
no_fraction : (m k : ℕ) → m < 16777216 → edge * 2 ^ suc k ≤ m * 1 * 1 → ⊥
no_fraction m k h l = omega (arith, pow_pos k)

whole : (s : Bool) (n : ℕ) → whole_size to_half s n 1 ≡ n
whole s n = ap (λ (r : ℕ). cond (leb 1 (r * 2)) (suc (n / 1)) (n / 1)) (mod-one n) ∙ div-one n

pub large : (x : Float) → T (fits binary32 x) → is_sign_negative x ≡ false → lt x big ≡ false → x ≡ whole_of binary32 to_half x
unfolding whole_of is_sign_negative
large nan t s h = refl
large (inf s) t k h = refl
large (fin true m e) t s h = absurd (true≢false s)
large (fin false m (pos k)) t s h = sym (ap (λ (z : ℕ). round binary32 false z 1) (whole false (m * 2 ^ k)) ∙ round_held binary32 false m (pos k) t)
large (fin false m (negsuc k)) t s h = absurd (no_fraction m k (fits_held binary32 false m (negsuc k) t).0 (nltb→le _ _ (not_so (sym (under_edge m (negsuc k)) ∙ h))))

-- ---- the sign

pub plus_of_minus : (x : Float) → is_sign_negative x ≡ true → is_sign_negative (neg x) ≡ false
unfolding is_sign_negative neg
plus_of_minus nan h = refl
plus_of_minus (inf s) h = ap not h
plus_of_minus (fin s m e) h = ap not h

half_neg : (x : Float) → neg (whole_of binary32 to_half (neg x)) ≡ whole_of binary32 to_half x
unfolding whole_of neg
half_neg nan = refl
half_neg (inf true) = refl
half_neg (inf false) = refl
half_neg (fin true m e) = neg_round binary32 (whole_size to_half false (m * up e) (down e)) 1
half_neg (fin false m e) = let a = whole_size to_half false (m * up e) (down e) in ap neg (sym (neg_round binary32 a 1)) ∙ neg_neg (round binary32 false a 1)

pub turned : (x r : Float) → r ≡ whole_of binary32 to_half (neg x) → neg r ≡ whole_of binary32 to_half x
turned x r h = ap neg h ∙ half_neg x

pub nan_stays : (w : Way) (x : Float) → ne x x ≡ true → x ≡ whole_of binary32 w x
nan_stays w x h = let e = differs_from_itself x (yes_so h) in subst (λ (z : Float). z ≡ whole_of binary32 w z) (sym e) (unfold whole_of in refl)
