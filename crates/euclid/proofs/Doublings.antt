-- `rem` of two floats by the doublings of the second: with x and y counted in units of the format's smallest value, what x leaves by y is what it leaves by 2y, or y less.
-- Each sum and difference on the way is exact. Assumes nothing.
use mathlib.Core.Path.{◌≡◌, refl, sym, ap, ◌∙◌, subst}
use mathlib.Core.Logic.{◌⊎◌, inl, inr}
use mathlib.Core.Bool.{Bool, true, false, not, ◌&&◌, cond, true≢false}
use Prim.Native.Nat.{ℕ, zero, suc, ◌+◌, ◌-◌, ◌*◌, ◌/◌, ◌%◌, ◌^◌, ◌≤◌, ◌<◌}
use native.Mathlib.Nat.{le_of_lt, lt_of_le_of_lt, lt_of_lt_of_le, lt_irrefl, zero-lt-suc, zero-mul, mul_comm, mul_assoc, mul-pos, add-mul, pow-succ', mul-le-mul_right, mul-lt-mul_of_pos_right, mul-div_cancel, mod-le, mod-lt, mod-eq_of_lt, mul-sub, div-zero, zero-mod, mod-add-div', add-mul-mod_self_right, mul-add-mod_self_right, div-lt_iff_lt-mul, lt-div-mul-add, lt_of_mul-lt-mul_right, sub-add_cancel}
use native.Mathlib.Omega.{arith}
use lib.IntN.{ℤ, pos}
use lib.Dec.{T, T_not, ltb, ltb→lt, lt→ltb}
use lib.Pow.{pow-add, pow_pos}
use lib.Ieee.{Float, nan, inf, fin, Format, binary64, prec, low, up, down, round, neg, add, sub, rem, lt, le, eq, ne, fits}
use lib.Ieee.Fits.{up_pos, down_pos, rem-fits}
use lib.Ieee.Exact.{HasValue, round_exact}
use lib.Ieee.Order.{round_mono}
use lib.Ieee.Positive.{positive}
use lib.Ieee.Scale.{round_same, overflow}
use Rattle.std.proofs.Common.{zero-le}
use Rattle.std.proofs.lemmas.Bool.{cases_lt}
use Rattle.floatlaws.proofs.Tests.{yes_so, not_so}
use Rattle.floatlaws.proofs.Unique.{plus_zero, fits_held, held_units, fits_zero, value_unique, round_zero, neg_round}
use Rattle.floatlaws.proofs.Values.{lt_by_value, add_by_value, neg_value, sum_like, sum_unlike}
use Rattle.floatlaws.proofs.Euclid.{rem_by_value}

-- ---- remainders of numbers

mod_scale : (a b k : ℕ) → 0 < b → 0 < k → a * k % (b * k) ≡ a % b * k
mod_scale a b k B K =
    ap (λ (z : ℕ). z % (b * k))
    (ap (λ (z : ℕ). z * k) (sym (mod-add-div' a b)) ∙ add-mul (a % b) (a / b * b) k ∙ ap (λ (z : ℕ). a % b * k + z) (mul_assoc (a / b) b k))
    ∙ add-mul-mod_self_right (a % b * k) (a / b) (b * k)
    ∙ mod-eq_of_lt (mul-lt-mul_of_pos_right (mod-lt a B) K)

-- by twice b first
twice_mod : (a b : ℕ) → a % b ≡ a % (b + b) % b
twice_mod a b =
    ap (λ (z : ℕ). z % b) (sym (mod-add-div' a (b + b)) ∙ ap (λ (z : ℕ). a % (b + b) + z) (turn (a / (b + b)) b))
    ∙ add-mul-mod_self_right (a % (b + b)) (a / (b + b) * 2) b
  where
    turn : (q b : ℕ) → q * (b + b) ≡ q * 2 * b
    turn q b = omega arith

mod_low : (a b : ℕ) → a % (b + b) < b → a % b ≡ a % (b + b)
mod_low a b h = twice_mod a b ∙ mod-eq_of_lt h

mod_high : (a b : ℕ) → 0 < b → b ≤ a % (b + b) → a % b ≡ a % (b + b) - b
mod_high a b B h =
    let r = a % (b + b) in
    twice_mod a b
    ∙ ap (λ (z : ℕ). z % b) (split r b h)
    ∙ mul-add-mod_self_right 1 b (r - b)
    ∙ mod-eq_of_lt (rest r b h (mod-lt a (more b B)))
  where
    split : (r b : ℕ) → b ≤ r → r ≡ 1 * b + (r - b)
    split r b h = omega arith

    rest : (r b : ℕ) → b ≤ r → r < b + b → r - b < b
    rest r b h k = omega arith

    more : (b : ℕ) → 0 < b → 0 < b + b
    more b h = omega arith

-- of a below twice b
mod_once : (a b : ℕ) → 0 < b → b ≤ a → a < b + b → a % b ≡ a - b
mod_once a b B h k = mod_high a b B (subst (λ (z : ℕ). b ≤ z) (sym e) h) ∙ ap (λ (z : ℕ). z - b) e
  where
    e : a % (b + b) ≡ a
    e = mod-eq_of_lt k

-- how often b goes into a
fewer : (a b : ℕ) → 0 < b → b ≤ a → a / (b + b) < a / b
fewer a b B h =
    (div-lt_iff_lt-mul (more b B)).1
    (bound (a / b) b a (lt-div-mul-add B) (once (a / b) (lt-div-mul-add B)))
  where
    more : (b : ℕ) → 0 < b → 0 < b + b
    more b h = omega arith

    once : (q : ℕ) → a < q * b + b → 0 < q
    once zero k = absurd (low b a h k)
      where
        low : (b a : ℕ) → b ≤ a → a < 0 * b + b → ⊥
        low b a h k = omega arith
    once (suc q) k = zero-lt-suc q

    bound : (q b a : ℕ) → a < q * b + b → 0 < q → a < q * (b + b)
    bound q b a k z = let one_le : 1 * b ≤ q * b = mul-le-mul_right b z in omega arith

-- ---- a float in units of the smallest value

-- 0 of what is not finite
unfoldable pub units_in : Float → ℕ
units_in nan = 0
units_in (inf s) = 0
units_in (fin s m e) = m * up e * 2 ^ low binary64 / down e

units_of : (x : Float) (s : Bool) (a : ℕ) → HasValue x s a (2 ^ low binary64) → units_in x ≡ a
unfolding units_in
units_of nan s a v = absurd v
units_of (inf t) s a v = absurd v
units_of (fin t m e) s a v = ap (λ (z : ℕ). z / down e) v.1 ∙ mul-div_cancel a (down_pos e)

-- x is m * 2 ^ j units, with the sign s, and m has no more digits than the format keeps
record Units (f : Format) (x : Float) (s : Bool) (m j : ℕ) : Type 0 where
  pub value : HasValue x s (m * 2 ^ j) (2 ^ low f)
  pub digits : m < 2 ^ prec f
  pub under : m * 2 ^ j < overflow f

of_fits : (f : Format) (s : Bool) (m : ℕ) (e : ℤ) → T (fits f (fin s m e)) → (j : ℕ) × Units f (fin s m e) s m j
of_fits f s m e t =
    let h = fits_held f s m e t in
    let u = held_units f m e h in
    (u.0, record { value = (refl, u.2); digits = h.0; under = u.3 })

-- ---- a remainder is exact

abbrev Part : ℕ → ℕ → Type 0
Part p r = (q : ℕ) × (k : ℕ) × (r ≡ q * 2 ^ k) × (q < p)

lower : (n i j : ℕ) → i ≤ j → n * 2 ^ j ≡ n * 2 ^ (j - i) * 2 ^ i
lower n i j h = ap (λ (z : ℕ). n * 2 ^ z) (sym (sub-add_cancel h)) ∙ ap (λ (z : ℕ). n * z) (pow-add 2 (j - i) i) ∙ sym (mul_assoc n (2 ^ (j - i)) (2 ^ i))

part : (p m n i j : ℕ) → m < p → n < p → 0 < n → Part p (m * 2 ^ i % (n * 2 ^ j))
part p m n i j M N Z = go (cases_lt j i)
  where
    go : (j < i) ⊎ (i ≤ j) → Part p (m * 2 ^ i % (n * 2 ^ j))
    go (inl h) =
        let a = m * 2 ^ (i - j) in
        (a % n, j, ap (λ (z : ℕ). z % (n * 2 ^ j)) (lower m j i (le_of_lt h)) ∙ mod_scale a n (2 ^ j) Z (pow_pos j), lt_of_lt_of_le (mod-lt a Z) (le_of_lt N))
    go (inr h) =
        let b = n * 2 ^ (j - i) in
        (m % b, i, ap (λ (z : ℕ). m * 2 ^ i % z) (lower n i j h) ∙ mod_scale m b (2 ^ i) (mul-pos Z (pow_pos (j - i))) (pow_pos i), lt_of_le_of_lt (mod-le m b) M)

rem_units : (f : Format) (x y : Float) (s t : Bool) (a b : ℕ) → 0 < b → HasValue x s a (2 ^ low f) → HasValue y t b (2 ^ low f) → rem f x y ≡ round f s (a % b) (2 ^ low f)
rem_units f x y s t a b B v w =
    let l = 2 ^ low f in
    let L : 0 < l = pow_pos (low f) in
    rem_by_value f x y s t a l b l L B L v w
    ∙ ap (λ (z : ℕ). round f s z (l * l)) (mod_scale a b l B L)
    ∙ round_same f s (a % b * l) (l * l) (a % b) l (mul-pos L L) L (mul_assoc (a % b) l l)

rem_exact : (f : Format) (x y : Float) (s t : Bool) (m i n j : ℕ) → 0 < n → Units f x s m i → Units f y t n j → HasValue (rem f x y) s (m * 2 ^ i % (n * 2 ^ j)) (2 ^ low f)
rem_exact f x y s t m i n j Z u w =
    let l = 2 ^ low f in
    let r = m * 2 ^ i % (n * 2 ^ j) in
    let p = part (2 ^ prec f) m n i j u.digits w.digits Z in
    subst (λ (z : Float). HasValue z s r l) (sym (rem_units f x y s t (m * 2 ^ i) (n * 2 ^ j) (mul-pos Z (pow_pos j)) u.value w.value))
    (round_exact f s r l p.0 p.1 (pow_pos (low f)) p.3 (subst (λ (z : ℕ). z < overflow f) p.2 (lt_of_le_of_lt (mod-le (m * 2 ^ i) (n * 2 ^ j)) u.under)) (ap (λ (z : ℕ). z * l) p.2))

-- ---- twice a float

add_same : (f : Format) (y : Float) (b : ℕ) → HasValue y false b (2 ^ low f) → add f y y ≡ round f false (b + b) (2 ^ low f)
add_same f y b w =
    let l = 2 ^ low f in
    let L : 0 < l = pow_pos (low f) in
    add_by_value y y false false b l b l L L f w w
    ∙ sum_like f false (b * l) (b * l) (l * l)
    ∙ ap (λ (z : ℕ). round f false z (l * l)) (sym (add-mul b b l))
    ∙ round_same f false ((b + b) * l) (l * l) (b + b) l (mul-pos L L) L (mul_assoc (b + b) l l)

doubled : (n j : ℕ) → n * 2 ^ suc j ≡ n * 2 ^ j + n * 2 ^ j
doubled n j = ap (λ (z : ℕ). n * z) (pow-succ' 2 j) ∙ turn n (2 ^ j)
  where
    turn : (n k : ℕ) → n * (2 * k) ≡ n * k + n * k
    turn n k = omega arith

double_exact : (f : Format) (y : Float) (n j : ℕ) → Units f y false n j → n * 2 ^ j + n * 2 ^ j < overflow f → Units f (add f y y) false n (suc j)
double_exact f y n j w h =
    let l = 2 ^ low f in
    let b = n * 2 ^ j in
    let e : n * 2 ^ suc j ≡ b + b = doubled n j in
    let k : n * 2 ^ suc j < overflow f = subst (λ (z : ℕ). z < overflow f) (sym e) h in
    record {
      value = subst (λ (z : Float). HasValue z false (n * 2 ^ suc j) l) (sym (add_same f y b w.value ∙ ap (λ (z : ℕ). round f false z l) (sym e)))
          (round_exact f false (n * 2 ^ suc j) l n (suc j) (pow_pos (low f)) w.digits k refl);
      digits = w.digits;
      under = k;
    }

over_all : round binary64 false (overflow binary64) (2 ^ low binary64) ≡ inf false
unfolding round
over_all = refl

at_inf : (z : Float) → T (le (inf false) z) → z ≡ inf false
unfolding le lt eq
at_inf nan h = absurd h
at_inf (inf true) h = absurd h
at_inf (inf false) h = refl
at_inf (fin s m e) h = absurd h

double_over : (y : Float) (b : ℕ) → HasValue y false b (2 ^ low binary64) → overflow binary64 ≤ b + b → add binary64 y y ≡ inf false
double_over y b w h =
    let f = binary64 in
    let l = 2 ^ low f in
    let L : 0 < l = pow_pos (low f) in
    add_same f y b w
    ∙ at_inf (round f false (b + b) l) (subst (λ (z : Float). T (le z (round f false (b + b) l))) over_all (round_mono f (overflow f) l (b + b) l L L (mul-le-mul_right l h)))

-- ---- x left by y, from x left by 2y

pick_no : {A : Type 0} (c : Bool) (x y : A) → c ≡ false → cond c x y ≡ y
pick_no c x y h = ap (λ (z : Bool). cond z x y) h

less : (a b k : ℕ) → a * k - b * k ≡ (a - b) * k
less a b k = ap (λ (z : ℕ). z - b * k) (mul_comm a k) ∙ ap (λ (z : ℕ). k * a - z) (mul_comm b k) ∙ sym (mul-sub k a b) ∙ mul_comm k (a - b)

sub_opened : (f : Format) (x y : Float) → sub f x y ≡ add f x (neg y)
unfolding sub
sub_opened f x y = refl

rem_inf : (f : Format) (s t : Bool) (m : ℕ) (e : ℤ) → rem f (fin s m e) (inf t) ≡ fin s m e
unfolding rem
rem_inf f s t m e = refl

no_units : units_in (inf false) ≡ 0
unfolding units_in
no_units = refl

above_inf : T (lt plus_zero (inf false))
unfolding lt
above_inf = tt

module _ (m : ℕ) (e : ℤ) (n : ℕ) (g : ℤ) (tx : T (fits binary64 (fin false m e))) (ty : T (fits binary64 (fin false n g))) (N : 0 < n) where
  abbrev f : Format
  f = binary64

  abbrev l : ℕ
  l = 2 ^ low binary64

  L : 0 < l
  L = pow_pos (low binary64)

  abbrev x : Float
  x = fin false m e

  abbrev y : Float
  y = fin false n g

  abbrev z : Float
  z = add f y y

  abbrev r : Float
  r = rem f x z

  abbrev i : ℕ
  i = (of_fits f false m e tx).0

  abbrev j : ℕ
  j = (of_fits f false n g ty).0

  abbrev a : ℕ
  a = m * 2 ^ i

  abbrev b : ℕ
  b = n * 2 ^ j

  U : Units f x false m i
  U = (of_fits f false m e tx).1

  W : Units f y false n j
  W = (of_fits f false n g ty).1

  B : 0 < b
  B = mul-pos N (pow_pos j)

  rem_value : HasValue (rem f x y) false (a % b) l
  rem_value = rem_exact f x y false false m i n j N U W

  rem_held : T (fits f (rem f x y))
  rem_held = rem-fits f x y tx

  -- x below y
  pub below_all : lt x y ≡ true → x ≡ rem f x y
  below_all h =
      let k : a < b = lt_of_mul-lt-mul_right l (ltb→lt (a * l) (b * l) (yes_so (sym (lt_by_value x y false false a l b l L L U.value W.value) ∙ h))) in
      value_unique f x (rem f x y) false a l L tx rem_held U.value (subst (λ (q : ℕ). HasValue (rem f x y) false q l) (mod-eq_of_lt k) rem_value)

  module _ (h : lt x y ≡ false) where
    at_most : b ≤ a
    at_most = go (cases_lt a b)
      where
        go : (a < b) ⊎ (b ≤ a) → b ≤ a
        go (inl k) = absurd (T_not (lt x y) (not_so h) (subst T (sym (lt_by_value x y false false a l b l L L U.value W.value)) (lt→ltb (a * l) (b * l) (mul-lt-mul_of_pos_right k L))))
        go (inr k) = k

    -- 2y, and what it leaves of x
    abbrev Both : Type 0
    Both = HasValue r false (a % (b + b)) l × (units_in x / units_in z < units_in x / units_in y) × T (lt plus_zero z)

    x_units : units_in x ≡ a
    x_units = units_of x false a U.value

    y_units : units_in y ≡ b
    y_units = units_of y false b W.value

    positive_sum : (b : ℕ) → 0 < b → 0 < b + b
    positive_sum b h = omega arith

    in_range : b + b < overflow f → Both
    in_range k =
        let D = double_exact f y n j W k in
        let e2 : n * 2 ^ suc j ≡ b + b = doubled n j in
        let v : HasValue z false (b + b) l = subst (λ (q : ℕ). HasValue z false q l) e2 D.value in (
          subst (λ (q : ℕ). HasValue r false (a % q) l) e2 (rem_exact f x z false false m i n (suc j) N U D),
          subst (λ (q : ℕ). units_in x / units_in z < units_in x / q) (sym y_units)
              (subst (λ (q : ℕ). units_in x / q < units_in x / b) (sym (units_of z false (b + b) v)) (subst (λ (q : ℕ). q / (b + b) < q / b) (sym x_units) (fewer a b B at_most))),
          subst T (sym (lt_by_value plus_zero z false false 0 1 (b + b) l (pow_pos 0) L (refl, refl) v)) (lt→ltb (0 * l) ((b + b) * 1) (low_end l (b + b) (positive_sum b B))),
        )
      where
        low_end : (l c : ℕ) → 0 < c → 0 * l < c * 1
        low_end l c h = omega arith

    beyond : overflow f ≤ b + b → Both
    beyond k =
        let ez : z ≡ inf false = double_over y b W.value k in
        let er : r ≡ x = ap (λ (q : Float). rem f x q) ez ∙ rem_inf f false false m e in (
          subst (λ (q : Float). HasValue q false (a % (b + b)) l) (sym er) (subst (λ (q : ℕ). HasValue x false q l) (sym (mod-eq_of_lt (lt_of_lt_of_le U.under k))) U.value),
          subst (λ (q : ℕ). q < units_in x / units_in y) (sym (ap (λ (q : Float). units_in x / units_in q) ez ∙ ap (λ (q : ℕ). units_in x / q) no_units ∙ div-zero (units_in x)))
              (subst (λ (q : ℕ). 0 < units_in x / q) (sym y_units) (subst (λ (q : ℕ). 0 < q / b) (sym x_units) (lt_of_le_of_lt zero-le (fewer a b B at_most)))),
          subst (λ (q : Float). T (lt plus_zero q)) (sym ez) above_inf,
        )

    both : Both
    both = elim (cases_lt (b + b) (overflow f)) [ inl k ↦ in_range k | inr k ↦ beyond k ]

    pub fewer_turns : units_in x / units_in z < units_in x / units_in y
    fewer_turns = both.1

    pub above_zero : T (lt plus_zero z)
    above_zero = both.2

    r_held : T (fits f r)
    r_held = rem-fits f x z tx

    test : lt r y ≡ ltb (a % (b + b) * l) (b * l)
    test = lt_by_value r y false false (a % (b + b)) l b l L L both.0 W.value

    pub left_low : lt r y ≡ true → r ≡ rem f x y
    left_low k =
        let p : a % (b + b) < b = lt_of_mul-lt-mul_right l (ltb→lt (a % (b + b) * l) (b * l) (yes_so (sym test ∙ k))) in
        value_unique f r (rem f x y) false (a % (b + b)) l L r_held rem_held both.0 (subst (λ (q : ℕ). HasValue (rem f x y) false q l) (mod_low a b p) rem_value)

    pub left_high : lt r y ≡ false → sub f r y ≡ rem f x y
    left_high k =
        let q = a % (b + b) in
        let c : ltb (q * l) (b * l) ≡ false = sym test ∙ k in
        let p : b ≤ q = elim (cases_lt q b) [ inl w ↦ absurd (T_not (ltb (q * l) (b * l)) (not_so c) (lt→ltb (q * l) (b * l) (mul-lt-mul_of_pos_right w L))) | inr w ↦ w ] in
        sub_opened f r y
        ∙ add_by_value r (neg y) false true q l b l L L f both.0 (neg_value y false b l W.value)
        ∙ sum_unlike f false (q * l) (b * l) (l * l)
        ∙ pick_no (ltb (q * l) (b * l)) (round f true (b * l - q * l) (l * l)) (round f false (q * l - b * l) (l * l)) c
        ∙ ap (λ (w : ℕ). round f false w (l * l)) (less q b l)
        ∙ round_same f false ((q - b) * l) (l * l) (q - b) l (mul-pos L L) L (mul_assoc (q - b) l l)
        ∙ ap (λ (w : ℕ). round f false w l) (sym (mod_high a b B p))
        ∙ sym (rem_units f x y false false a b B U.value W.value)

-- ---- the same of any two that are above zero

true_false : (b : Bool) → b ≡ true → b ≡ false → ⊥
true_false b h k = true≢false (sym h ∙ k)

under_inf : (s : Bool) (m : ℕ) (e : ℤ) → lt (fin s m e) (inf false) ≡ true
unfolding lt
under_inf s m e = refl

size_above : (n : ℕ) (g : ℤ) → T (lt plus_zero (fin false n g)) → 0 < n
unfolding lt
size_above zero g h = absurd (none (down g) (up g) (ltb→lt (0 * 1 * down g) (0 * up g * 1) h))
  where
    none : (d u : ℕ) → 0 * 1 * d < 0 * u * 1 → ⊥
    none d u h = omega arith
size_above (suc n) g h = zero-lt-suc n

pub record Step (x y : Float) : Type 0 where
  pub small : lt x y ≡ true → x ≡ rem binary64 x y
  pub fewer_turns : lt x y ≡ false → units_in x / units_in (add binary64 y y) < units_in x / units_in y
  pub above_zero : lt x y ≡ false → T (lt plus_zero (add binary64 y y))
  pub low : lt x y ≡ false → lt (rem binary64 x (add binary64 y y)) y ≡ true → rem binary64 x (add binary64 y y) ≡ rem binary64 x y
  pub high : lt x y ≡ false → lt (rem binary64 x (add binary64 y y)) y ≡ false → sub binary64 (rem binary64 x (add binary64 y y)) y ≡ rem binary64 x y

step_finite : (m : ℕ) (e : ℤ) (y : Float) → T (fits binary64 (fin false m e)) → T (fits binary64 y) → T (lt plus_zero y) → Step (fin false m e) y
step_finite m e nan tx ty h = absurd (unfold lt in h)
step_finite m e (inf true) tx ty h = absurd (unfold lt in h)
step_finite m e (inf false) tx ty h =
    let none : (A : Type 0) → lt (fin false m e) (inf false) ≡ false → A = λ A k. absurd (true_false (lt (fin false m e) (inf false)) (under_inf false m e) k) in
    record {
      small = λ k. sym (rem_inf binary64 false false m e);
      fewer_turns = λ k. none _ k;
      above_zero = λ k. none _ k;
      low = λ k p. none _ k;
      high = λ k p. none _ k;
    }
step_finite m e (fin true n g) tx ty h = absurd (unfold lt in h)
step_finite m e (fin false n g) tx ty h =
    let N = size_above n g h in
    record {
      small = below_all m e n g tx ty N;
      fewer_turns = fewer_turns m e n g tx ty N;
      above_zero = above_zero m e n g tx ty N;
      low = left_low m e n g tx ty N;
      high = left_high m e n g tx ty N;
    }

pub step : (x y : Float) → T (fits binary64 x) → T (fits binary64 y) → T (positive x) → T (lt plus_zero y) → Step x y
step nan y tx ty p h = absurd p
step (inf s) y tx ty p h = absurd p
step (fin true m e) y tx ty p h = absurd p
step (fin false m e) y tx ty p h = step_finite m e y tx ty h

-- ---- of any two

-- x - x of a finite x is zero
itself : (s : Bool) (m : ℕ) (e : ℤ) → T (eq (sub binary64 (fin s m e) (fin s m e)) plus_zero)
itself s m e =
    let l = down e in
    let a = m * up e in
    let v : HasValue (fin s m e) s a l = (refl, refl) in
    let D = down_pos e in
    subst (λ (q : Float). T (eq q plus_zero)) (sym (sub_opened binary64 (fin s m e) (fin s m e)
    ∙ add_by_value (fin s m e) (neg (fin s m e)) s (not s) a l a l D D binary64 v (neg_value (fin s m e) s a l v)
    ∙ sum_unlike binary64 s (a * l) (a * l) (l * l)
    ∙ pick_no (ltb (a * l) (a * l)) (round binary64 (not s) (a * l - a * l) (l * l)) (round binary64 (s && ltb (a * l) (a * l)) (a * l - a * l) (l * l)) (same (a * l))
    ∙ ap (λ (q : Bool). round binary64 (s && q) (a * l - a * l) (l * l)) (same (a * l))
    ∙ ap (λ (q : ℕ). round binary64 (s && false) q (l * l)) (nothing (a * l))
    ∙ round_same binary64 (s && false) 0 (l * l) 0 1 (mul-pos D D) (pow_pos 0) (flat (l * l))
    ∙ round_zero binary64 (s && false)))
    (zero_eq (s && false))
  where
    same : (k : ℕ) → ltb k k ≡ false
    same k = no (ltb k k) (λ (h : T (ltb k k)). lt_irrefl k (ltb→lt k k h))
      where
        no : (b : Bool) → (T b → ⊥) → b ≡ false
        no true h = absurd (h tt)
        no false h = refl

    nothing : (k : ℕ) → k - k ≡ 0
    nothing k = omega arith

    flat : (k : ℕ) → 0 * 1 ≡ 0 * k
    flat k = omega arith

    zero_eq : (s : Bool) → T (eq (fin s 0 (pos 0)) plus_zero)
    zero_eq true = unfold eq in tt
    zero_eq false = unfold eq in tt

pub none_left : (x y : Float) → ne (sub binary64 x x) plus_zero ≡ true → sub binary64 x x ≡ rem binary64 x y
unfolding sub add neg rem
none_left nan y h = refl
none_left (inf true) y h = refl
none_left (inf false) y h = refl
none_left (fin s m e) y h = absurd (T_not (eq (sub binary64 (fin s m e) (fin s m e)) plus_zero) (unfold ne in yes_so h) (itself s m e))

size_below : (m : ℕ) (e : ℤ) → T (lt (fin true m e) plus_zero) → 0 < m
unfolding lt
size_below zero e h = absurd (none (up e) (down e) (ltb→lt 0 (0 * up e * 1 + 0 * 1 * down e) h))
  where
    none : (u d : ℕ) → 0 < 0 * u * 1 + 0 * 1 * d → ⊥
    none u d h = omega arith
size_below (suc m) e h = zero-lt-suc m

not_below : (m : ℕ) (e : ℤ) → T (lt (fin false m e) plus_zero) → ⊥
unfolding lt
not_below m e h = none (m * up e * 1) (down e) (ltb→lt (m * up e * 1) (0 * 1 * down e) h)
  where
    none : (a d : ℕ) → a < 0 * 1 * d → ⊥
    none a d h = omega arith

above_size : (m : ℕ) (e : ℤ) → T (lt plus_zero (fin false (suc m) e))
unfolding lt
above_size m e = lt→ltb (0 * 1 * down e) (suc m * up e * 1) (go (suc m * up e) (down e) (mul-pos (zero-lt-suc m) (up_pos e)))
  where
    go : (a d : ℕ) → 0 < a → 0 * 1 * d < a * 1
    go a d h = omega arith

below_size : (m : ℕ) (e : ℤ) → T (lt (fin true (suc m) e) plus_zero)
unfolding lt
below_size m e = lt→ltb 0 (suc m * up e * 1 + 0 * 1 * down e) (go (suc m * up e) (down e) (mul-pos (zero-lt-suc m) (up_pos e)))
  where
    go : (a d : ℕ) → 0 < a → 0 < a * 1 + 0 * 1 * d
    go a d h = omega arith

not_yes : (b : Bool) → b ≡ false → T b → ⊥
not_yes b h k = T_not b (not_so h) k

pub is_positive : (x : Float) → ne (sub binary64 x x) plus_zero ≡ false → lt plus_zero x ≡ true → T (positive x)
is_positive nan h k = absurd (unfold lt in yes_so k)
is_positive (inf true) h k = absurd (unfold lt in yes_so k)
is_positive (inf false) h k = absurd (true≢false (unfold ne eq sub add neg in h))
is_positive (fin true m e) h k = absurd (unfold lt in yes_so k)
is_positive (fin false m e) h k = lt→ltb 0 m (size_above m e (yes_so k))

pub is_negative : (x : Float) → ne (sub binary64 x x) plus_zero ≡ false → lt x plus_zero ≡ true → T (positive (neg x))
is_negative nan h k = absurd (unfold lt in yes_so k)
is_negative (inf true) h k = absurd (true≢false (unfold ne eq sub add neg in h))
is_negative (inf false) h k = absurd (unfold lt in yes_so k)
is_negative (fin true m e) h k = unfold neg in lt→ltb 0 m (size_below m e (yes_so k))
is_negative (fin false m e) h k = absurd (not_below m e (yes_so k))

-- x below zero
rem_parts : (s : Bool) (m : ℕ) (e : ℤ) (n : ℕ) (g : ℤ) → 0 < n
    → rem binary64 (fin s m e) (fin false n g) ≡ round binary64 s (m * up e * down g % (n * up g * down e)) (down e * down g)
rem_parts s m e n g N =
    rem_by_value binary64 (fin s m e) (fin false n g) s false (m * up e) (down e) (n * up g) (down g) (down_pos e) (mul-pos N (up_pos g)) (down_pos g) (refl, refl) (refl, refl)

turned : (s : Bool) (m : ℕ) (e : ℤ) → neg (fin s m e) ≡ fin (not s) m e
unfolding neg
turned s m e = refl

neg_rem : (m : ℕ) (e : ℤ) (y : Float) → T (lt plus_zero y) → neg (rem binary64 (fin false m e) y) ≡ rem binary64 (fin true m e) y
neg_rem m e nan h = absurd (unfold lt in h)
neg_rem m e (inf true) h = absurd (unfold lt in h)
neg_rem m e (inf false) h = ap neg (rem_inf binary64 false false m e) ∙ turned false m e ∙ sym (rem_inf binary64 true false m e)
neg_rem m e (fin true n g) h = absurd (unfold lt in h)
neg_rem m e (fin false n g) h =
    let N = size_above n g h in
    ap neg (rem_parts false m e n g N) ∙ neg_round binary64 (m * up e * down g % (n * up g * down e)) (down e * down g) ∙ sym (rem_parts true m e n g N)

pub negative_left : (x y : Float) → ne (sub binary64 x x) plus_zero ≡ false → lt x plus_zero ≡ true → T (lt plus_zero y) → neg (rem binary64 (neg x) y) ≡ rem binary64 x y
negative_left nan y h k p = absurd (unfold lt in yes_so k)
negative_left (inf true) y h k p = absurd (true≢false (unfold ne eq sub add neg in h))
negative_left (inf false) y h k p = absurd (unfold lt in yes_so k)
negative_left (fin false m e) y h k p = absurd (not_below m e (yes_so k))
negative_left (fin true m e) y h k p = ap (λ (z : Float). neg (rem binary64 z y)) (turned true m e) ∙ neg_rem m e y p

-- x zero
zero_rem : (s : Bool) (y : Float) → T (lt plus_zero y) → fin s 0 (pos 0) ≡ rem binary64 (fin s 0 (pos 0)) y
zero_rem s nan h = absurd (unfold lt in h)
zero_rem s (inf true) h = absurd (unfold lt in h)
zero_rem s (inf false) h = sym (rem_inf binary64 s false 0 (pos 0))
zero_rem s (fin true n g) h = absurd (unfold lt in h)
zero_rem s (fin false n g) h =
    let d = down g in
    let b = n * up g * 1 in
    sym (rem_parts s 0 (pos 0) n g (size_above n g h)
    ∙ ap (λ (z : ℕ). round binary64 s (z % b) (1 * d)) (zero-mul d)
    ∙ ap (λ (z : ℕ). round binary64 s z (1 * d)) (zero-mod b)
    ∙ round_same binary64 s 0 (1 * d) 0 1 (mul-pos (pow_pos 0) (down_pos g)) (pow_pos 0) (flat (1 * d))
    ∙ round_zero binary64 s)
  where
    flat : (k : ℕ) → 0 * 1 ≡ 0 * k
    flat k = omega arith

pub zero_left : (x y : Float) → T (fits binary64 x) → ne (sub binary64 x x) plus_zero ≡ false → lt plus_zero x ≡ false → lt x plus_zero ≡ false → T (lt plus_zero y) → x ≡ rem binary64 x y
zero_left nan y t h k n p = absurd (true≢false (unfold ne eq sub add neg in h))
zero_left (inf true) y t h k n p = absurd (true≢false (unfold lt in n))
zero_left (inf false) y t h k n p = absurd (true≢false (unfold lt in k))
zero_left (fin s zero e) y t h k n p = subst (λ (q : ℤ). fin s 0 q ≡ rem binary64 (fin s 0 q) y) (sym (fits_zero binary64 s e t)) (zero_rem s y p)
zero_left (fin true (suc m) e) y t h k n p = absurd (not_yes (lt (fin true (suc m) e) plus_zero) n (below_size m e))
zero_left (fin false (suc m) e) y t h k n p = absurd (not_yes (lt plus_zero (fin false (suc m) e)) k (above_size m e))

-- ---- y below zero, and y zero or a NaN

pub neg_above : (y : Float) → lt y plus_zero ≡ true → T (lt plus_zero (neg y))
neg_above nan h = absurd (unfold lt in yes_so h)
neg_above (inf true) h = unfold lt neg in tt
neg_above (inf false) h = absurd (unfold lt in yes_so h)
neg_above (fin false m e) h = absurd (not_below m e (yes_so h))
neg_above (fin true zero e) h = absurd (lt_irrefl 0 (size_below zero e (yes_so h)))
neg_above (fin true (suc m) e) h = subst (λ (z : Float). T (lt plus_zero z)) (sym (turned true (suc m) e)) (above_size m e)

pub rem_neg : (x y : Float) → rem binary64 x (neg y) ≡ rem binary64 x y
unfolding rem neg
rem_neg nan y = refl
rem_neg (inf s) y = refl
rem_neg (fin s m e) nan = refl
rem_neg (fin s m e) (inf t) = refl
rem_neg (fin s m e) (fin t n g) = refl

pub rem_none : (x y : Float) → lt y plus_zero ≡ false → lt plus_zero y ≡ false → nan ≡ rem binary64 x y
rem_none nan y h k = unfold rem in refl
rem_none (inf s) y h k = unfold rem in refl
rem_none (fin s m e) nan h k = unfold rem in refl
rem_none (fin s m e) (inf true) h k = absurd (true≢false (unfold lt in h))
rem_none (fin s m e) (inf false) h k = absurd (true≢false (unfold lt in k))
rem_none (fin s m e) (fin t zero g) h k = unfold rem in refl
rem_none (fin s m e) (fin true (suc n) g) h k = absurd (not_yes (lt (fin true (suc n) g) plus_zero) h (below_size n g))
rem_none (fin s m e) (fin false (suc n) g) h k = absurd (not_yes (lt plus_zero (fin false (suc n) g)) k (above_size n g))
