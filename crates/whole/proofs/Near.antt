-- What the proof of `small_floor` cites, of an x of less than 2 ^ 51 in size. Its sum with 3 * 2 ^ 51 lies from 2 ^ 52 to 2 ^ 53, where an `f64` has the whole numbers alone:
-- so the sum is a whole number next to the exact one, and the difference from it is exact. `rounded_at`, `next` and `over` are of any format: proofs/Half.antt cites them too. Assumes nothing.
use Rattle.std.proofs.Common.{◌≡◌, ℕ, zero, suc, ◌+◌, ◌-◌, ◌*◌, ◌/◌, ◌%◌, ◌^◌, ◌<◌, ◌≤◌, Bool, true, false, cond, not, T, ltb, ◌⊎◌, ℤ, pos, negsuc, sym, refl, ap, ◌∙◌, subst, inl, inr, le_trans, le_of_eq, le_refl, lt_of_lt_of_le, lt_of_le_of_lt, mul-le-mul_right, mod-lt, zero-lt-suc, mul_assoc, suc-mul, mul_comm, div-lt_iff_lt-mul, add-mul, le_antisymm, lt_of_mul-lt-mul_right, eq-or-lt_of_le, div-add-mod', mul-one, mul_right_comm, le_of_mul-le-mul_right, arith, lit<, lit≤, ltb→lt, lt→ltb, nltb→le, T_not, pow_pos}
use Prim.Native.Nat.{compare}
use native.Mathlib.Nat.{add-mul-div_right, eq_of_mul-eq-mul_right}
use lib.Arith.{le→nltb}
use lib.Ieee.{Float, nan, inf, fin, Format, binary32, binary64, prec, low, emax, hid, up, down, below, units, round, neg, add, sub, lt, fits}
use lib.Ieee.Fits.{down_pos, nearest-le}
use lib.Ieee.Exact.{HasValue, units_val}
use lib.Ieee.Back.{round_whole, whole_unique}
use lib.Ieee.Nearest.{closest, closest_mono, nearest-ge}
use lib.Ieee.Bits.{is_true, is_false}
use Rattle.floatlaws.specs.Whole.{to_floor, whole_size, whole_of}
use Rattle.floatlaws.proofs.Tests.{yes_so, not_so}
use Rattle.floatlaws.proofs.Order.{below_says, says_below}
use Rattle.floatlaws.proofs.Values.{lt_by_value, add_by_value, neg_value, sum_like, sum_unlike}
use Rattle.floatlaws.proofs.Whole.{one, whole_value, whole_fits}
use Rattle.floatlaws.proofs.Cut.{round_cut, closest_most}

-- 3 * 2 ^ 51 and 2 ^ 51, and the floats: what is added, and the ends of the range
abbrev shift : ℕ
shift = 6755399441055744

abbrev range : ℕ
range = 2251799813685248

abbrev pub big : Float
big = fin false 3 (pos 51)

abbrev pub top : Float
top = fin false 1 (pos 51)

abbrev pub bottom : Float
bottom = fin true 1 (pos 51)

-- the whole number next to x
abbrev pub nearby : Float → Float
nearby x = sub binary64 (add binary64 x big) big

-- ---- v / d, from 2 ^ (prec - 1) up to 2 ^ prec, is rounded to a whole number

whole_of_lem : (x : Float) (s : Bool) (q l : ℕ) → 0 < l → HasValue x s (q * l) l → HasValue x s q 1
whole_of_lem nan s q l L v = v
whole_of_lem (inf t) s q l L v = v
whole_of_lem (fin t m e) s q l L v =
    (v.0, eq_of_mul-eq-mul_right l L (m * up e * 1) (q * down e) (ap (λ (z : ℕ). z * l) (mul-one (m * up e)) ∙ v.1 ∙ mul_right_comm q l (down e)))

in_range : (f : Format) → 2 ^ prec f * 2 ^ low f < 2 ^ (low f + suc (emax f))
in_range binary32 = lit< tt
in_range binary64 = lit< tt

rounded : (f : Format) (v j : ℕ) → hid f * 2 ^ j ≤ v → v < 2 ^ prec f * 2 ^ j → HasValue (round f false v (2 ^ j)) false (closest v (2 ^ j)) 1
rounded f v j lo hi =
    let Q = closest v (2 ^ j) in
    let L = 2 ^ low f in
    subst (λ (y : Float). HasValue y false Q 1)
    (sym (round_cut f false v (2 ^ j) v j (low f) (pow_pos j) (mul_assoc v L (2 ^ j) ∙ ap (λ (z : ℕ). v * z) (mul_comm L (2 ^ j))) (λ (k : 0 < low f). lo) hi))
    (whole_of_lem (units f false Q (low f)) false Q L (pow_pos (low f))
    (units_val f false Q (low f) (lt_of_le_of_lt (mul-le-mul_right L (closest_most v (2 ^ j) (2 ^ prec f) (pow_pos j) hi)) (in_range f))))

-- a denominator is a power of two
down_power : (e : ℤ) → (j : ℕ) × (2 ^ j ≡ down e)
down_power (pos k) = (0, refl)
down_power (negsuc k) = (suc k, refl)

pub rounded_at : (f : Format) (v : ℕ) (e : ℤ) → hid f * down e ≤ v → v < 2 ^ prec f * down e → HasValue (round f false v (down e)) false (closest v (down e)) 1
rounded_at f v e =
    let p = down_power e in
    subst (λ (d : ℕ). hid f * d ≤ v → v < 2 ^ prec f * d → HasValue (round f false v d) false (closest v d) 1) p.1 (rounded f v p.0)

-- it is one of the two next to v / d
pub next : (v d : ℕ) → (closest v d ≡ v / d) ⊎ (closest v d ≡ suc (v / d))
next v d = elim (eq-or-lt_of_le (nearest-ge (v / d) (compare (v % d * 2) d))) [
  | inl h ↦ inl (sym h)
  | inr h ↦ inr (le_antisymm (nearest-le (v / d) (compare (v % d * 2) d)) h)
]

-- ---- the difference of two whole numbers

module _ (f : Format) (y b : Float) (Q B : ℕ) (vy : HasValue y false Q 1) (vb : HasValue b false B 1) where
  apart : sub f y b ≡ cond (ltb Q B) (round f true (B - Q) 1) (round f false (Q - B) 1)
  unfolding sub
  apart =
      add_by_value y (neg b) false true Q 1 B 1 (zero-lt-suc 0) (zero-lt-suc 0) f vy (neg_value b false B 1 vb)
      ∙ sum_unlike f false (Q * 1) (B * 1) (1 * 1)
      ∙ ap (λ (z : ℕ). cond (ltb z (B * 1)) (round f true (B * 1 - z) 1) (round f false (z - B * 1) 1)) (mul-one Q)
      ∙ ap (λ (z : ℕ). cond (ltb Q z) (round f true (z - Q) 1) (round f false (Q - z) 1)) (mul-one B)

  pub over : (c : ℕ) → Q ≡ B + c → sub f y b ≡ round f false c 1
  over c h =
      apart
      ∙ ap (λ (z : Bool). cond z (round f true (B - Q) 1) (round f false (Q - B) 1)) (is_false (ltb Q B) (le→nltb Q B (omega arith)))
      ∙ ap (λ (z : ℕ). round f false z 1) (omega arith)

  under : (c : ℕ) → Q + suc c ≡ B → sub f y b ≡ round f true (suc c) 1
  under c h =
      apart
      ∙ ap (λ (z : Bool). cond z (round f true (B - Q) 1) (round f false (Q - B) 1)) (is_true (ltb Q B) (lt→ltb Q B (omega arith)))
      ∙ ap (λ (z : ℕ). round f true z 1) (omega arith)

-- one less than a negative one
lower : (t : Float) (c : ℕ) → HasValue t true c 1 → sub binary64 t one ≡ round binary64 true (suc c) 1
unfolding sub
lower t c v = add_by_value t (neg one) true true c 1 1 1 (zero-lt-suc 0) (zero-lt-suc 0) binary64 v (unfold neg in (refl, refl)) ∙ sum_like binary64 true (c * 1) 1 1 ∙ ap (λ (z : ℕ). round binary64 true z 1) (tidy c)
  where
    tidy : (c : ℕ) → c * 1 + 1 ≡ suc c
    tidy c = omega arith

-- ---- what the tests tell

-- With w for the floor of x, and t for a whole number next to x: w is one less than t where t is above x, t where it is below, and x itself otherwise.
pub record Steps (x t w : Float) : Type 0 where
  pub less : lt x t ≡ true → sub binary64 t one ≡ w
  pub same : lt t x ≡ true → t ≡ w
  pub itself : lt x t ≡ false → lt t x ≡ false → x ≡ w

-- ---- an x with no sign: t has the size n / d, cut to a whole number, or one more

module _ (m : ℕ) (e : ℤ) (t : T (fits binary64 (fin false m e))) (small : m * up e < range * down e) where
  abbrev n : ℕ
  n = m * up e

  abbrev d : ℕ
  d = down e

  abbrev q : ℕ
  q = m * up e / down e

  abbrev x : Float
  x = fin false m e

  abbrev w : Float
  w = whole_of binary64 to_floor x

  w_is : w ≡ round binary64 false q 1
  w_is = unfold whole_of in refl

  q_lo : q * d ≤ n
  q_lo = go (q * d) (n % d) n (div-add-mod' n d)
    where
      go : (p r n : ℕ) → p + r ≡ n → p ≤ n
      go p r n h = omega arith

  q_hi : n < suc q * d
  q_hi = lt_of_lt_of_le (go (q * d) (n % d) n d (div-add-mod' n d) (mod-lt n (down_pos e))) (le_of_eq (sym (suc-mul q d)))
    where
      go : (p r n d : ℕ) → p + r ≡ n → r < d → n < p + d
      go p r n d h k = omega arith

  q_most : suc q ≤ range
  q_most = (div-lt_iff_lt-mul (down_pos e)).1 small

  value : (c : ℕ) → c ≤ suc q → HasValue (round binary64 false c 1) false c 1
  value c h = round_whole binary64 false c (le_trans h (le_trans q_most (lit≤ tt)))

  under_x : (c : ℕ) → c ≤ suc q → lt (round binary64 false c 1) x ≡ ltb (c * d) (n * 1)
  under_x c h = lt_by_value (round binary64 false c 1) x false false c 1 n d (zero-lt-suc 0) (down_pos e) (value c h) (refl, refl)

  over_x : (c : ℕ) → c ≤ suc q → lt x (round binary64 false c 1) ≡ ltb (n * 1) (c * d)
  over_x c h = lt_by_value x (round binary64 false c 1) false false n d c 1 (down_pos e) (zero-lt-suc 0) (refl, refl) (value c h)

  at_q : Steps x (round binary64 false q 1) w
  at_q = record {
    less = λ (h : lt x (round binary64 false q 1) ≡ true). absurd (clash (q * d) n q_lo (ltb→lt (n * 1) (q * d) (yes_so (sym (over_x q le) ∙ h))));
    same = λ (h : lt (round binary64 false q 1) x ≡ true). sym w_is;
    itself = λ (h : lt x (round binary64 false q 1) ≡ false) (k : lt (round binary64 false q 1) x ≡ false).
        whole_unique binary64 x w false q t (whole_fits binary64 to_floor x t) (refl, meet (q * d) n q_lo (nltb→le (q * d) (n * 1) (not_so (sym (under_x q le) ∙ k)))) (whole_value binary64 to_floor false m e t);
  }
    where
      le : q ≤ suc q
      le = go q
        where
          go : (q : ℕ) → q ≤ suc q
          go q = omega arith

      clash : (p n : ℕ) → p ≤ n → n * 1 < p → ⊥
      clash p n h k = omega arith

      meet : (p n : ℕ) → p ≤ n → n * 1 ≤ p → n * 1 ≡ p
      meet p n h k = omega arith

  past_q : Steps x (round binary64 false (suc q) 1) w
  past_q = record {
    less = λ (h : lt x (round binary64 false (suc q) 1) ≡ true). over binary64 (round binary64 false (suc q) 1) one (suc q) 1 (value (suc q) (le_refl (suc q))) (refl, refl) q (one_more q) ∙ sym w_is;
    same = λ (h : lt (round binary64 false (suc q) 1) x ≡ true). absurd (clash (suc q * d) n q_hi (ltb→lt (suc q * d) (n * 1) (yes_so (sym (under_x (suc q) (le_refl (suc q))) ∙ h))));
    itself = λ (h : lt x (round binary64 false (suc q) 1) ≡ false) (k : lt (round binary64 false (suc q) 1) x ≡ false). absurd (miss (suc q * d) n q_hi (nltb→le (n * 1) (suc q * d) (not_so (sym (over_x (suc q) (le_refl (suc q))) ∙ h))));
  }
    where
      one_more : (q : ℕ) → suc q ≡ 1 + q
      one_more q = omega arith

      clash : (p n : ℕ) → n < p → p < n * 1 → ⊥
      clash p n h k = omega arith

      miss : (p n : ℕ) → n < p → p ≤ n * 1 → ⊥
      miss p n h k = omega arith

  total : add binary64 x big ≡ round binary64 false (n + shift * d) d
  total =
      add_by_value x big false false n d shift 1 (down_pos e) (zero-lt-suc 0) binary64 (refl, refl) (refl, refl)
      ∙ sum_like binary64 false (n * 1) (shift * d) (d * 1)
      ∙ ap (λ (z : ℕ). round binary64 false (z + shift * d) (d * 1)) (mul-one n)
      ∙ ap (λ (z : ℕ). round binary64 false (n + shift * d) z) (mul-one d)

  abbrev k : ℕ
  k = closest (n + shift * d) d

  total_value : HasValue (add binary64 x big) false k 1
  total_value = subst (λ (y : Float). HasValue y false k 1) (sym total) (rounded_at binary64 (n + shift * d) e (lo n d) (hi n d small))
    where
      lo : (n d : ℕ) → 4503599627370496 * d ≤ n + shift * d
      lo n d = omega arith

      hi : (n d : ℕ) → n < range * d → n + shift * d < 9007199254740992 * d
      hi n d h = omega arith

  near_is : (c : ℕ) → k ≡ shift + c → nearby x ≡ round binary64 false c 1
  near_is c h = over binary64 (add binary64 x big) big k shift total_value (refl, refl) c h

  pub plus_steps : Steps x (nearby x) w
  plus_steps =
      let f : (n + shift * d) / d ≡ q + shift = add-mul-div_right n shift (down_pos e) in
      elim (next (n + shift * d) d) [
        | inl h ↦ subst (λ (z : Float). Steps x z w) (sym (near_is q (h ∙ f ∙ swap q))) at_q
        | inr h ↦ subst (λ (z : Float). Steps x z w) (sym (near_is (suc q) (h ∙ ap suc f ∙ swap_suc q))) past_q
      ]
    where
      swap : (q : ℕ) → q + shift ≡ shift + q
      swap q = omega arith

      swap_suc : (q : ℕ) → suc (q + shift) ≡ shift + suc q
      swap_suc q = omega arith

-- ---- an x with a sign: t is -c, or +0 where c is 0, and c is the size of the floor or one less

abbrev minus : ℕ → Float
minus zero = round binary64 false 0 1
minus (suc c) = round binary64 true (suc c) 1

abbrev has_sign : ℕ → Bool
has_sign zero = false
has_sign (suc c) = true

minus_value : (c : ℕ) → c ≤ 9007199254740992 → HasValue (minus c) (has_sign c) c 1
minus_value zero h = round_whole binary64 false 0 h
minus_value (suc c) h = round_whole binary64 true (suc c) h

-- one less
minus_one_more : (c : ℕ) → c ≤ 9007199254740992 → sub binary64 (minus c) one ≡ round binary64 true (suc c) 1
minus_one_more zero h = under binary64 (minus 0) one 0 1 (minus_value 0 h) (refl, refl) 0 refl
minus_one_more (suc c) h = lower (minus (suc c)) (suc c) (minus_value (suc c) h)

minus_is : (y : Float) (k c : ℕ) → HasValue y false k 1 → k + c ≡ shift → sub binary64 y big ≡ minus c
minus_is y k zero v h = over binary64 y big k shift v (refl, refl) 0 (go k h)
  where
    go : (k : ℕ) → k + 0 ≡ shift → k ≡ shift + 0
    go k h = omega arith
minus_is y k (suc c) v h = under binary64 y big k shift v (refl, refl) c h

-- -a below -c, and the other way round
below_minus : (a c d : ℕ) → T (below true (a * 1) (has_sign c) (c * d)) → c * d < a
below_minus a zero d h = let l = below_says true false (a * 1) (0 * d) h in omega arith
below_minus a (suc c) d h = let l = below_says true true (a * 1) (suc c * d) h in go a (suc c * d) l
  where
    go : (a p : ℕ) → 0 + p < 0 + a * 1 → p < a
    go a p h = omega arith

says_below_minus : (a c d : ℕ) → c * d < a → T (below true (a * 1) (has_sign c) (c * d))
says_below_minus a zero d h = says_below true false (a * 1) (0 * d) (omega arith)
says_below_minus a (suc c) d h = says_below true true (a * 1) (suc c * d) (go a (suc c * d) h)
  where
    go : (a p : ℕ) → p < a → 0 + p < 0 + a * 1
    go a p h = omega arith

minus_below : (a c d : ℕ) → T (below (has_sign c) (c * d) true (a * 1)) → a < c * d
minus_below a zero d h = let l = below_says false true (0 * d) (a * 1) h in let z : ⊥ = omega arith in absurd z
minus_below a (suc c) d h = let l = below_says true true (suc c * d) (a * 1) h in go a (suc c * d) l
  where
    go : (a p : ℕ) → 0 + a * 1 < 0 + p → a < p
    go a p h = omega arith

says_minus_below : (a c d : ℕ) → a < c * d → T (below (has_sign c) (c * d) true (a * 1))
says_minus_below a zero d h = let z : ⊥ = omega arith in absurd z
says_minus_below a (suc c) d h = says_below true true (suc c * d) (a * 1) (go a (suc c * d) h)
  where
    go : (a p : ℕ) → a < p → 0 + a * 1 < 0 + p
    go a p h = omega arith

-- a / d up to the next whole number
next_up : (a d : ℕ) → 0 < d → (a ≤ whole_size to_floor true a d * d) × (whole_size to_floor true a d * d < a + d)
next_up a d D = go (ltb 0 (a % d)) (ltb→lt 0 (a % d)) (nltb→le 0 (a % d))
  where
    at_suc : (p r a d S : ℕ) → p + r ≡ a → r < d → 0 < r → S ≡ p + d → (a ≤ S) × (S < a + d)
    at_suc p r a d S e h k l = (omega arith, omega arith)

    at_same : (p r a d : ℕ) → p + r ≡ a → r ≤ 0 → 0 < d → (a ≤ p) × (p < a + d)
    at_same p r a d e h k = (omega arith, omega arith)

    go : (b : Bool) → (T b → 0 < a % d) → (T (not b) → a % d ≤ 0) → (a ≤ cond b (suc (a / d)) (a / d) * d) × (cond b (suc (a / d)) (a / d) * d < a + d)
    go true h k = at_suc (a / d * d) (a % d) a d (suc (a / d) * d) (div-add-mod' a d) (mod-lt a D) (h tt) (suc-mul (a / d) d)
    go false h k = at_same (a / d * d) (a % d) a d (div-add-mod' a d) (k tt) D

ceil_most : (a d : ℕ) → 0 < d → a < range * d → whole_size to_floor true a d ≤ range
ceil_most a d D h = go (whole_size to_floor true a d) (lt_of_mul-lt-mul_right d (lt_of_lt_of_le (next_up a d D).1 (room a d h)))
  where
    room : (a d : ℕ) → a < range * d → a + d ≤ suc range * d
    room a d h = omega arith

    go : (s : ℕ) → s < suc range → s ≤ range
    go s h = omega arith

-- and there is one such number
only_one : (p c a d : ℕ) → a ≤ p * d → p * d < a + d → a ≤ c * d → c * d < a + d → p ≡ c
only_one p c a d h k l o = le_antisymm (at_most p c k l) (at_most c p o h)
  where
    at_most : (p c : ℕ) → p * d < a + d → a ≤ c * d → p ≤ c
    at_most p c k l = short p c (lt_of_mul-lt-mul_right d (go (p * d) (c * d) (suc c * d) k l (suc-mul c d)))
      where
        go : (x y z : ℕ) → x < a + d → a ≤ y → z ≡ y + d → x < z
        go x y z k l e = omega arith

        short : (p c : ℕ) → p < suc c → p ≤ c
        short p c h = omega arith

module _ (m : ℕ) (e : ℤ) (t : T (fits binary64 (fin true m e))) (small : m * up e < range * down e) where
  abbrev a : ℕ
  a = m * up e

  abbrev b : ℕ
  b = down e

  abbrev y : Float
  y = fin true m e

  abbrev low_y : Float
  low_y = whole_of binary64 to_floor y

  abbrev s : ℕ
  s = whole_size to_floor true (m * up e) (down e)

  s_at : (a ≤ s * b) × (s * b < a + b)
  s_at = next_up a b (down_pos e)

  low_is : low_y ≡ round binary64 true s 1
  low_is = unfold whole_of in refl

  s_most : s ≤ range
  s_most = ceil_most a b (down_pos e) small

  minus_held : (c : ℕ) → c ≤ s → HasValue (minus c) (has_sign c) c 1
  minus_held c h = minus_value c (le_trans h (le_trans s_most (lit≤ tt)))

  under_y : (c : ℕ) → c ≤ s → lt (minus c) y ≡ below (has_sign c) (c * b) true (a * 1)
  under_y c h = lt_by_value (minus c) y (has_sign c) true c 1 a b (zero-lt-suc 0) (down_pos e) (minus_held c h) (refl, refl)

  over_y : (c : ℕ) → c ≤ s → lt y (minus c) ≡ below true (a * 1) (has_sign c) (c * b)
  over_y c h = lt_by_value y (minus c) true (has_sign c) a b c 1 (down_pos e) (zero-lt-suc 0) (refl, refl) (minus_held c h)

  at_s : Steps y (minus s) low_y
  at_s = record {
    less = λ (h : lt y (minus s) ≡ true). absurd (clash (s * b) a s_at.0 (below_minus a s b (yes_so (sym (over_y s (le_refl s)) ∙ h))));
    same = λ (h : lt (minus s) y ≡ true). signed_here s (minus_below a s b (yes_so (sym (under_y s (le_refl s)) ∙ h))) ∙ sym low_is;
    itself = λ (h : lt y (minus s) ≡ false) (k : lt (minus s) y ≡ false).
        whole_unique binary64 y low_y true s t (whole_fits binary64 to_floor y t) (refl, meet (s * b) a s_at.0 (λ (l : a < s * b). T_not (below (has_sign s) (s * b) true (a * 1)) (not_so (sym (under_y s (le_refl s)) ∙ k)) (says_minus_below a s b l))) (whole_value binary64 to_floor true m e t);
  }
    where
      clash : (p a : ℕ) → a ≤ p → p < a → ⊥
      clash p a h k = omega arith

      signed_here : (c : ℕ) → a < c * b → minus c ≡ round binary64 true c 1
      signed_here zero h = let z : ⊥ = omega arith in absurd z
      signed_here (suc c) h = refl

      meet : (p a : ℕ) → a ≤ p → (a < p → ⊥) → a * 1 ≡ p
      meet p a h k = omega arith

  before_s : (c : ℕ) → s ≡ suc c → Steps y (minus c) low_y
  before_s c h =
      let short : c * b < a = go (c * b) (suc c * b) a b (suc-mul c b) (subst (λ (z : ℕ). z * b < a + b) h s_at.1) in
      let le : c ≤ s = le_trans (step c) (le_of_eq (sym h)) in
      record {
        less = λ (k : lt y (minus c) ≡ true). minus_one_more c (le_trans le (le_trans s_most (lit≤ tt))) ∙ ap (λ (z : ℕ). round binary64 true z 1) (sym h) ∙ sym low_is;
        same = λ (k : lt (minus c) y ≡ true). absurd (clash (c * b) a short (minus_below a c b (yes_so (sym (under_y c le) ∙ k))));
        itself = λ (k : lt y (minus c) ≡ false) (l : lt (minus c) y ≡ false). absurd (T_not (below true (a * 1) (has_sign c) (c * b)) (not_so (sym (over_y c le) ∙ k)) (says_below_minus a c b short));
      }
    where
      go : (p r a b : ℕ) → r ≡ p + b → r < a + b → p < a
      go p r a b e k = omega arith

      step : (c : ℕ) → c ≤ suc c
      step c = omega arith

      clash : (p a : ℕ) → p < a → a < p → ⊥
      clash p a h k = omega arith

  abbrev v : ℕ
  v = shift * down e - m * up e

  enough : (a b : ℕ) → a < range * b → a ≤ shift * b
  enough a b h = omega arith

  difference : add binary64 y big ≡ round binary64 false v b
  difference =
      add_by_value y big true false a b shift 1 (down_pos e) (zero-lt-suc 0) binary64 (refl, refl) (refl, refl)
      ∙ sum_unlike binary64 true (a * 1) (shift * b) (b * 1)
      ∙ ap (λ (z : Bool). cond z (round binary64 false (shift * b - a * 1) (b * 1)) (round binary64 (ltb (shift * b) (a * 1)) (a * 1 - shift * b) (b * 1))) (is_true (ltb (a * 1) (shift * b)) (lt→ltb (a * 1) (shift * b) (more a b small)))
      ∙ ap (λ (z : ℕ). round binary64 false (shift * b - z) (b * 1)) (mul-one a)
      ∙ ap (λ (z : ℕ). round binary64 false v z) (mul-one b)
    where
      more : (a b : ℕ) → a < range * b → a * 1 < shift * b
      more a b h = omega arith

  abbrev j : ℕ
  j = closest (shift * down e - m * up e) (down e)

  difference_value : HasValue (add binary64 y big) false j 1
  difference_value = subst (λ (z : Float). HasValue z false j 1) (sym difference) (rounded_at binary64 v e (lo a b small) (hi a b (down_pos e)))
    where
      lo : (a b : ℕ) → a < range * b → 4503599627370496 * b ≤ shift * b - a
      lo a b h = omega arith

      hi : (a b : ℕ) → 0 < b → shift * b - a < 9007199254740992 * b
      hi a b h = omega arith

  -- what v / b leaves of 3 * 2 ^ 51 is s
  left : v / b + s ≡ shift
  left =
      let q = v / b in
      let f : q * b + v % b ≡ v = div-add-mod' v b in
      let le : q ≤ shift = le_of_mul-le-mul_right (go (q * b) (v % b) (shift * b) a f) (down_pos e) in
      let p = shift - q in
      let all : p + q ≡ shift = back q le in
      let parts : shift * b ≡ p * b + q * b = ap (λ (z : ℕ). z * b) (sym all) ∙ add-mul p q b in
      let k = between (q * b) (v % b) (shift * b) (p * b) a b f (mod-lt v (down_pos e)) parts (enough a b small) in
      sum q p s all (only_one p s a b k.0 k.1 s_at.0 s_at.1)
    where
      go : (x r z a : ℕ) → x + r ≡ z - a → x ≤ z
      go x r z a h = omega arith

      back : (q : ℕ) → q ≤ shift → shift - q + q ≡ shift
      back q h = omega arith

      between : (x r z w a b : ℕ) → x + r ≡ z - a → r < b → z ≡ w + x → a ≤ z → (a ≤ w) × (w < a + b)
      between x r z w a b h k l o = (omega arith, omega arith)

      sum : (q p s : ℕ) → p + q ≡ shift → p ≡ s → q + s ≡ shift
      sum q p s h k = omega arith

  j_most : j ≤ shift
  j_most = closest_mono v b shift 1 (down_pos e) (zero-lt-suc 0) (go a b)
    where
      go : (a b : ℕ) → (shift * b - a) * 1 ≤ shift * b
      go a b = omega arith

  near_y : (c : ℕ) → j + c ≡ shift → nearby y ≡ minus c
  near_y c h = minus_is (add binary64 y big) j c difference_value h

  pub minus_steps : Steps y (nearby y) low_y
  minus_steps = elim (next v b) [
    | inl h ↦ subst (λ (z : Float). Steps y z low_y) (sym (near_y s (ap (λ (z : ℕ). z + s) h ∙ left))) at_s
    | inr h ↦
        let c = shift - j in
        subst (λ (z : Float). Steps y z low_y) (sym (near_y c (back j j_most))) (before_s c (one_less j (v / b) s h left j_most))
  ]
    where
      back : (j : ℕ) → j ≤ shift → j + (shift - j) ≡ shift
      back j h = omega arith

      one_less : (j q s : ℕ) → j ≡ suc q → q + s ≡ shift → j ≤ shift → s ≡ suc (shift - j)
      one_less j q s h k l = omega arith

-- ---- from the tests of the range

ranged_plus : (m : ℕ) (e : ℤ) → T (lt (fin false m e) top) → m * up e < range * down e
ranged_plus m e h =
    go (m * up e) (range * down e)
    (below_says false false (m * up e * 1) (range * down e) (subst T (lt_by_value (fin false m e) top false false (m * up e) (down e) range 1 (down_pos e) (zero-lt-suc 0) (refl, refl) (refl, refl)) h))
  where
    go : (a b : ℕ) → a * 1 + 0 < b + 0 → a < b
    go a b h = omega arith

ranged_minus : (m : ℕ) (e : ℤ) → T (lt bottom (fin true m e)) → m * up e < range * down e
ranged_minus m e h =
    go (m * up e) (range * down e)
    (below_says true true (range * down e) (m * up e * 1) (subst T (lt_by_value bottom (fin true m e) true true range 1 (m * up e) (down e) (zero-lt-suc 0) (down_pos e) (refl, refl) (refl, refl)) h))
  where
    go : (a b : ℕ) → 0 + a * 1 < 0 + b → a < b
    go a b h = omega arith

pub steps : (x : Float) → T (fits binary64 x) → T (lt bottom x) → T (lt x top) → Steps x (nearby x) (whole_of binary64 to_floor x)
steps nan t lo hi = absurd (unfold lt in lo)
steps (inf true) t lo hi = absurd (unfold lt in lo)
steps (inf false) t lo hi = absurd (unfold lt in hi)
steps (fin false m e) t lo hi = plus_steps m e t (ranged_plus m e hi)
steps (fin true m e) t lo hi = minus_steps m e t (ranged_minus m e lo)

-- the floor's size
pub size_most : (s : Bool) (m : ℕ) (e : ℤ) → T (lt bottom (fin s m e)) → T (lt (fin s m e) top) → whole_size to_floor s (m * up e) (down e) ≤ range
size_most false m e lo hi = le_trans (go (m * up e / down e)) ((div-lt_iff_lt-mul (down_pos e)).1 (ranged_plus m e hi))
  where
    go : (q : ℕ) → q ≤ suc q
    go q = omega arith
size_most true m e lo hi = ceil_most (m * up e) (down e) (down_pos e) (ranged_minus m e lo)
