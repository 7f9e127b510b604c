-- A loop does not come to rest: in one of 2^−q or more, of three counts just above 2^(50 − q) two have different positions, so one has another than any count given. Assumes nothing.
use Rattle.std.specs.Prelude.{None, Some}
use mathlib.Core.Path.{◌≡◌, refl, sym, ap, ◌∙◌, subst}
use mathlib.Core.Logic.{◌⊎◌, inl, inr}
use mathlib.Core.Bool.{Bool, true, false, not, false≢true}
use Prim.Native.Nat.{ℕ, suc, ◌+◌, ◌-◌, ◌*◌, ◌%◌, ◌^◌, ◌≤◌, ◌<◌}
use native.Mathlib.Nat.{le_trans, le_of_eq, le_of_lt, lt_of_le_of_lt, zero-lt-suc, mul-pos, mul-one, mul_comm, mul_assoc, mul_right_comm, add-mul, mul-le-mul_right, mul-le-mul_left, mod-lt, mod-eq_of_lt, mod-add-mod, add-mul-mod_self_left}
use native.Mathlib.Omega.{arith}
use lib.Dec.{T, ltb, ltb→lt, lt→ltb, nltb→le, lit≤, lit<}
use lib.Pow.{pow-add, pow_pos, pow_mono}
use lib.IntN.{ℤ}
use lib.Ieee.{Float, nan, inf, fin, binary64, up, down, round, of_bits, add, sub, mul, lt, le, fits}
use lib.Ieee.Bits.{is_true, is_false}
use lib.Ieee.Exact.{HasValue}
use lib.Ieee.Order.{le_of_values}
use lib.Ieee.Fits.{down_pos, round-fits, sub-fits, mul-fits}
use lib.Ieee.Positive.{num, den, den_pos, own_value, value_pos, values_of_le, positive, positive-finite, positive_of_value}
use lib.Ieee.Scale.{finite}
use Rattle.floatlaws.specs.Euclid.{rem_euclid}
use Rattle.floatlaws.specs.Numbers.{f64, f64_eps, f64_1}
use Rattle.floatlaws.proofs.Tests.{decide, yes_so}
use Rattle.floatlaws.proofs.Same.{same_or_not}
use Rattle.floatlaws.proofs.Order.{le_trans_at, le_not_lt, lt→le, lt_of_le_of_lt_at, not_lt→le, between_finite}
use Rattle.floatlaws.proofs.NoNan.{finite_number}
use Rattle.floatlaws.proofs.Range.{at_least_zero}
use Rattle.floatlaws.proofs.Euclid.{euclid_plain, euclid_within, rem_by_value}
use Rattle.floatlaws.proofs.Unit.{zero_float, one_float, two_float, complement, less_is}
use Rattle.floatlaws.proofs.Values.{value_finite, lt_by_value}
use Rattle.floatlaws.proofs.Spread.{Spread, Fine, step, step_value, spread_round, spread_apart, spread_add, spread_less, spread_from}
use Rattle.settings.specs.declared.choices.LfoType.TheVariants.{Drawn, Path, Lorenz, Rossler, SampleAndHold}
use Rattle.settings.specs.declared.choices.Mode.TheVariants.{OneShot}
use Rattle.settings.specs.declared.choices.Direction.{Direction}
use Rattle.settings.specs.declared.choices.Direction.TheVariants.{Forward, Reverse, PingPong}
use Rattle.position.specs.Position.{loop_length, loops, bounced, looped, position_of}
use Rattle.position.specs.Rest.{loopback_in_force}
use Rattle.position.specs.Laws.{Moves}
use Rattle.position.proofs.Resting.{position_loops}
use Rattle.reach.specs.Bounds.{LoopIn}
use Rattle.reach.specs.Laws.{LoopMoves, InForceMoves}
use Rattle.reach.proofs.Range.{above_eps, turn_value, turn_size, back_within}

-- ---- a remainder of z, and of e more: they are e or more apart

gap : (Y z e : ℕ) → 0 < Y → 2 * e ≤ Y → (z % Y + e ≤ (z + e) % Y) ⊎ ((z + e) % Y + e ≤ z % Y)
gap Y z e P h = go (z % Y) (mod-lt z P) (mod-add-mod z Y e) (decide (ltb (z % Y + e) Y))
  where
    go : (r : ℕ) → r < Y → (r + e) % Y ≡ (z + e) % Y → T (ltb (r + e) Y) ⊎ T (not (ltb (r + e) Y)) → (r + e ≤ (z + e) % Y) ⊎ ((z + e) % Y + e ≤ r)
    go r l m (inl u) = inl (le_of_eq (sym (mod-eq_of_lt (ltb→lt (r + e) Y u)) ∙ m))
    go r l m (inr u) =
        let over = nltb→le (r + e) Y u in
        let k : r + e - Y + Y * 1 ≡ r + e = back (r + e) over in
        let q : (r + e) % Y ≡ r + e - Y = ap (λ (x : ℕ). x % Y) (sym k) ∙ add-mul-mod_self_left (r + e - Y) Y 1 ∙ mod-eq_of_lt (under r l) in
        inr (least r ((z + e) % Y) over (sym m ∙ q))
      where
        back : (a : ℕ) → Y ≤ a → a - Y + Y * 1 ≡ a
        back a g = rw mul-one (omega arith)

        under : (r : ℕ) → r < Y → r + e - Y < Y
        under r l = omega arith

        least : (r x : ℕ) → Y ≤ r + e → x ≡ r + e - Y → x + e ≤ r
        least r x o q = omega arith

-- ---- two of a few

-- of three answers two that are the same
two_alike : (a b c : Bool) → (a ≡ b) ⊎ ((b ≡ c) ⊎ (a ≡ c))
two_alike true true c = inl refl
two_alike true false true = inr (inr refl)
two_alike true false false = inr (inl refl)
two_alike false false c = inl refl
two_alike false true true = inr (inl refl)
two_alike false true false = inr (inr refl)

-- of five places two that differ
record Differ (place : ℕ → Float) : Type 0 where
  first : ℕ
  second : ℕ
  first_in : first ≤ 4
  second_in : second ≤ 4
  apart : place first ≡ place second → ⊥

-- finite, and at most t
abbrev In : Float → Float → Type 0
In t x = T (finite x) × T (le x t)

module _ (q : ℕ) (Q : q ≤ 30) where
  -- ---- counts above 2^(50 − q), in steps of a fourth of 2^−q

  abbrev p : ℕ
  p = q + 2

  abbrev count : ℕ → Float
  count k = step p (2 ^ 52 + suc k)

  -- each less 1, and how many steps that is
  abbrev more : ℕ → Float
  more k = sub binary64 (count k) one_float

  abbrev steps : ℕ → ℕ
  steps k = 2 ^ 52 + suc k - 2 ^ p

  unit_small : 2 ^ p ≤ 2 ^ 32
  unit_small = pow_mono few
    where
      few : p ≤ 32
      few = omega arith

  -- the grids that are used are fine enough
  fine : (r B : ℕ) → r ≤ 34 → B ≤ 3 → Fine r B
  fine r B h k = (le_trans h (lit≤ tt), lt_of_le_of_lt (le_trans (mul-le-mul_left B (pow_mono h)) (mul-le-mul_right (2 ^ 34) k)) (lit< tt))

  fine_0 : Fine p 2
  fine_0 = fine p 2 (omega arith) (lit≤ tt)

  fine_1 : (B : ℕ) → B ≤ 3 → Fine (suc p) B
  fine_1 B h = fine (suc p) B (omega arith) h

  fine_2 : Fine (suc (suc p)) 3
  fine_2 = fine (suc (suc p)) 3 (omega arith) (lit≤ tt)

  module _ (k : ℕ) (K : k ≤ 4) where
    count_value : HasValue (count k) false (2 ^ 52 + suc k) (2 ^ p)
    count_value = step_value p (2 ^ 52 + suc k) fine_0.0 (omega arith)

    count_finite : T (finite (count k))
    count_finite = value_finite (count k) false (2 ^ 52 + suc k) (2 ^ p) count_value

    one_within : 1 * 2 ^ p ≤ (2 ^ 52 + suc k) * 1
    one_within = within (2 ^ p) unit_small
      where
        within : (u : ℕ) → u ≤ 2 ^ 32 → 1 * u ≤ (2 ^ 52 + suc k) * 1
        within u h = omega arith

    from_one : T (le one_float (count k))
    from_one = le_of_values one_float (count k) 1 1 (2 ^ 52 + suc k) (2 ^ p) (zero-lt-suc 0) (pow_pos p) (refl, refl) count_value one_within

    past : T (lt (f64 (2 ^ (50 - q)) 1) (count k))
    past =
        subst T (sym (lt_by_value (f64 (2 ^ (50 - q)) 1) (count k) false false (2 ^ (50 - q)) 1 (2 ^ 52 + suc k) (2 ^ p) (zero-lt-suc 0) (pow_pos p) whole count_value))
        (lt→ltb (2 ^ (50 - q) * 2 ^ p) ((2 ^ 52 + suc k) * 1) (lt_of_le_of_lt (le_of_eq (sym (pow-add 2 (50 - q) p) ∙ ap (λ (z : ℕ). 2 ^ z) together)) room))
      where
        whole : HasValue (f64 (2 ^ (50 - q)) 1) false (2 ^ (50 - q)) 1
        whole = step_value 0 (2 ^ (50 - q)) (lit≤ tt) (lt_of_le_of_lt (pow_mono small) (lit< tt))
          where
            small : 50 - q ≤ 50
            small = omega arith

        together : 50 - q + (q + 2) ≡ 52
        together = omega arith

        room : 2 ^ 52 < (2 ^ 52 + suc k) * 1
        room = omega arith

    more_value : HasValue (more k) false (steps k) (2 ^ p)
    more_value =
        subst (λ (z : Float). HasValue z false (steps k) (2 ^ p))
        (sym (less_is (count k) one_float (2 ^ 52 + suc k) (2 ^ p) 1 1 (pow_pos p) (zero-lt-suc 0) count_value (refl, refl) one_within
        ∙ ap (λ (z : ℕ). round binary64 false z (2 ^ p * 1)) (tidy (2 ^ p))
        ∙ ap (λ (z : ℕ). round binary64 false (steps k) z) (mul-one (2 ^ p))))
        (step_value p (steps k) fine_0.0 (under (2 ^ p)))
      where
        tidy : (u : ℕ) → (2 ^ 52 + suc k) * 1 - 1 * u ≡ 2 ^ 52 + suc k - u
        tidy u = omega arith

        under : (u : ℕ) → 2 ^ 52 + suc k - u < 2 ^ 53
        under u = omega arith

  steps_on : (k j : ℕ) → steps (k + j) ≡ steps k + j
  steps_on k j = on (2 ^ p) unit_small
    where
      on : (u : ℕ) → u ≤ 2 ^ 32 → 2 ^ 52 + suc (k + j) - u ≡ 2 ^ 52 + suc k - u + j
      on u h = omega arith

  -- ---- what is left of them by a turn t of size / unit, which has room for n steps in each half

  module _ (t : Float) (size unit : ℕ) (S : 0 < size) (U : 0 < unit) (v : HasValue t false size unit) (f : T (fits binary64 t)) (small : size ≤ 2 * unit)
      (n : ℕ) (long : 2 * (n * unit) ≤ size * 2 ^ p) where
    abbrev left : ℕ → ℕ
    left k = steps k * unit % (size * 2 ^ p)

    abbrev rest : ℕ → Float
    rest k = rem_euclid binary64 (more k) t

    turn_pos : 0 < size * 2 ^ p
    turn_pos = mul-pos S (pow_pos p)

    unit_pos : 0 < 2 ^ p * unit
    unit_pos = mul-pos (pow_pos p) U

    rest_in : (k : ℕ) → k ≤ 4 → In t (rest k)
    rest_in k K =
        let u = positive_of_value t size unit v S in
        let r = euclid_within binary64 (more k) t (value_finite (more k) false (steps k) (2 ^ p) (more_value k K)) u f in
        (between_finite zero_float (rest k) t tt (positive-finite t u) r.0 r.1, r.1)

    rest_is : (k : ℕ) → k ≤ 4 → rest k ≡ round binary64 false (left k) (2 ^ p * unit)
    rest_is k K =
        let r = round binary64 false (left k) (2 ^ p * unit) in
        let e = rem_by_value binary64 (more k) t false false (steps k) (2 ^ p) size unit (pow_pos p) S U (more_value k K) v in
        sym (euclid_plain binary64 (more k) t (rw e (le_not_lt r zero_float (at_least_zero binary64 (left k) (2 ^ p * unit) unit_pos)))) ∙ e

    -- two of them, the first the smaller one
    rests_spread : (k j e : ℕ) → k ≤ 4 → j ≤ 4 → 2 * unit ≤ e → left k + e ≤ left j → Spread p 2 (rest k) (rest j)
    rests_spread k j e K J far h =
        rw (rest_is k K, rest_is j J)
        (spread_round p 2 (left k) (2 ^ p * unit) (left j) (2 ^ p * unit) unit_pos unit_pos
        (mul-le-mul_right (2 ^ p * unit)
        (le_trans (le_of_eq (sym (add-mul (left k) (2 * unit) (2 ^ p) ∙ ap (λ (z : ℕ). left k * 2 ^ p + z) twice))) (mul-le-mul_right (2 ^ p) (le_trans (add_left (left k) far) h))))
        (le_trans (le_of_lt (mod-lt (steps j * unit) turn_pos)) (le_trans (mul-le-mul_right (2 ^ p) small) (le_of_eq twice))))
      where
        twice : 2 * unit * 2 ^ p ≡ 2 * (2 ^ p * unit)
        twice = mul_assoc 2 unit (2 ^ p) ∙ ap (λ (z : ℕ). 2 * z) (mul_comm unit (2 ^ p))

        add_left : (a : ℕ) {b c : ℕ} → b ≤ c → a + b ≤ a + c
        add_left a h = omega arith

    -- two of them j steps apart, under an F that tells what lies apart
    rests_differ : {A : Type 0} (F : Float → A) → ((x y : Float) → Spread p 2 x y → In t x → In t y → F x ≡ F y → ⊥)
        → (k j : ℕ) → k + j ≤ 4 → 2 ≤ j → j ≤ n → F (rest k) ≡ F (rest (k + j)) → ⊥
    rests_differ F tells k j K two most e =
        elim (subst (λ (z : ℕ). (left k + j * unit ≤ z % (size * 2 ^ p)) ⊎ (z % (size * 2 ^ p) + j * unit ≤ left k)) (sym (ap (λ (z : ℕ). z * unit) (steps_on k j) ∙ add-mul (steps k) j unit))
        (gap (size * 2 ^ p) (steps k * unit) (j * unit) turn_pos (le_trans (mul-le-mul_left 2 (mul-le-mul_right unit most)) long))) [
          | inl h ↦ tells (rest k) (rest (k + j)) (rests_spread k (k + j) (j * unit) first K (mul-le-mul_right unit two) h) (rest_in k first) (rest_in (k + j) K) e
          | inr h ↦ tells (rest (k + j)) (rest k) (rests_spread (k + j) k (j * unit) K first (mul-le-mul_right unit two) h) (rest_in (k + j) K) (rest_in k first) (sym e)
        ]
      where
        first : k ≤ 4
        first = omega arith

  -- ---- a loop of length w, from 2^−q to 1

  module _ (w : Float) (f : T (fits binary64 w)) (u : T (positive w)) (h : T (le (f64 1 (2 ^ q)) w)) (k : T (le w one_float)) where
    at_most : num w ≤ den w
    at_most = plain (num w) (den w) (values_of_le w one_float (num w) (den w) 1 1 u tt (own_value w u) (refl, refl) k)
      where
        plain : (a d : ℕ) → a * 1 ≤ 1 * d → a ≤ d
        plain a d h = omega arith

    -- two steps are at most half of it
    two_steps : 2 * (2 * den w) ≤ num w * 2 ^ p
    two_steps =
        let least = f64 1 (2 ^ q) in
        let v = step_value q 1 (le_trans Q (lit≤ tt)) (lit< tt) in
        le_trans (four (den w) (num w * 2 ^ q) (values_of_le least w 1 (2 ^ q) (num w) (den w) (positive_of_value least 1 (2 ^ q) v (zero-lt-suc 0)) u v (own_value w u) h))
        (le_of_eq (mul_assoc (num w) (2 ^ q) 4 ∙ ap (λ (z : ℕ). num w * z) (sym (pow-add 2 q 2))))
      where
        four : (d x : ℕ) → 1 * d ≤ x → 2 * (2 * d) ≤ x * 4
        four d x h = omega arith

    -- one way through it
    once_differ : (F : Float → Float) → ((x y : Float) → Spread p 2 x y → In w x → In w y → F x ≡ F y → ⊥) → Differ (λ k. F (rem_euclid binary64 (more k) w))
    once_differ F tells =
        record {
          first = 0;
          second = 2;
          first_in = lit≤ tt;
          second_in = lit≤ tt;
          apart =
              rests_differ w (num w) (den w) (value_pos w (num w) (den w) u (den_pos w) (own_value w u)) (den_pos w) (own_value w u) f (twice at_most) 2 two_steps F tells
              0 2 (lit≤ tt) (lit≤ tt) (lit≤ tt);
        }
      where
        twice : {a d : ℕ} → a ≤ d → a ≤ 2 * d
        twice h = omega arith

  forward_differ : (l w : Float) → LoopIn (Some l) → T (fits binary64 w) → T (positive w) → T (le (f64 1 (2 ^ q)) w) → T (le w one_float)
      → Differ (λ k. add binary64 l (rem_euclid binary64 (more k) w))
  forward_differ l w i f u h k =
      once_differ w f u h k (add binary64 l)
      (λ (x y : Float) (s : Spread p 2 x y) (X : In w x) (Y : In w y).
      spread_apart (suc p) 3 (add binary64 l x) (add binary64 l y) (fine_1 3 (lit≤ tt)) (spread_add p 2 x y fine_0 s l i.0 i.1 X.0 Y.0))

  reverse_differ : (l : Float) → LoopIn (Some l) → T (positive l) → T (le (f64 1 (2 ^ q)) l) → Differ (λ k. sub binary64 l (rem_euclid binary64 (more k) l))
  reverse_differ l i u h =
      let k = i.1.1 in
      once_differ l i.0 u h k (sub binary64 l)
      (λ (x y : Float) (s : Spread p 2 x y) (X : In l x) (Y : In l y) (e : sub binary64 l x ≡ sub binary64 l y).
      spread_apart (suc p) 1 (sub binary64 l y) (sub binary64 l x) (fine_1 1 (lit≤ tt))
      (spread_less p 2 x y fine_0 s l (num l) (den l) (den_pos l) (own_value l u) (at_most l i.0 u h k) X.0 Y.0 Y.1) (sym e))

  -- there and back, each way w
  module _ (l : Float) (i : LoopIn (Some l)) (m : ℕ) (g : ℤ) (f : T (fits binary64 (fin false m g))) (u : T (positive (fin false m g))) (h : T (le (f64 1 (2 ^ q)) (fin false m g)))
      (k : T (le (fin false m g) one_float)) where
    abbrev w : Float
    w = fin false m g

    abbrev t : Float
    t = mul binary64 two_float w

    -- which way, and the place
    abbrev on : Float → Bool × Float
    on x = (lt x w, bounced l w x)

    bounce_tells : (x y : Float) → Spread p 2 x y → In t x → In t y → on x ≡ on y → ⊥
    unfolding bounced of_bits
    bounce_tells x y s X Y e =
        let same : lt x w ≡ lt y w = ap (λ z. z.0) e in
        let there = ap (λ z. z.1) e in
        elim (decide (lt x w)) [
          | inl a ↦
              let b = subst T same a in
              spread_apart (suc p) 1 (sub binary64 one_float y) (sub binary64 one_float x) (fine_1 1 (lit≤ tt))
              (spread_less p 2 x y fine_0 s one_float 1 1 (lit≤ tt) (refl, refl) (lit≤ tt) X.0 Y.0 (le_trans_at y w one_float (lt→le y w b) k))
              (sym (rw (is_true (lt x w) a, is_true (lt y w) b) at there))
          | inr a ↦
              let b = subst (λ (z : Bool). T (not z)) same a in
              let away = spread_from p 2 x y fine_0 s w (m * up g) (down g) (down_pos g) (refl, refl) X.0 Y.0 (not_lt→le x w (finite_number x X.0) (finite_number w tt) a) in
              spread_apart (suc (suc p)) 3 (add binary64 l (sub binary64 x w)) (add binary64 l (sub binary64 y w)) fine_2
              (spread_add (suc p) 2 (sub binary64 x w) (sub binary64 y w) (fine_1 2 (lit≤ tt)) away l i.0 i.1 (back x X a) (back y Y b))
              (rw (is_false (lt x w) a, is_false (lt y w) b) at there)
        ]
      where
        back : (x : Float) → In t x → T (not (lt x w)) → T (finite (sub binary64 x w))
        back x X a = let r = back_within m g f u k x X.0 X.1 a in between_finite zero_float (sub binary64 x w) w tt tt r.0 r.1

    -- two counts on the same way
    pair : (j r : ℕ) → j + r ≤ 4 → 2 ≤ r → r ≤ 4 → lt (rem_euclid binary64 (more j) t) w ≡ lt (rem_euclid binary64 (more (j + r)) t) w → Differ (λ k. bounced l w (rem_euclid binary64 (more k) t))
    pair j r in_both two most same =
        record {
          first = j;
          second = j + r;
          first_in = omega arith;
          second_in = in_both;
          apart =
              λ e.
              rests_differ t (m * up g * 2) (down g) (turn_size m g f u k) (down_pos g) (turn_value m g f u k) (mul-fits binary64 two_float w) (double (at_most w f u h k)) 4 four_steps on bounce_tells
              j r in_both two most (λ i. (same i, e i));
        }
      where
        double : {a d : ℕ} → a ≤ d → a * 2 ≤ 2 * d
        double h = omega arith

        four_steps : 2 * (4 * down g) ≤ m * up g * 2 * 2 ^ p
        four_steps = le_trans (eight (down g) (m * up g * 2 ^ p) (two_steps w f u h k)) (le_of_eq (mul_right_comm (m * up g) (2 ^ p) 2))
          where
            eight : (d x : ℕ) → 2 * (2 * d) ≤ x → 2 * (4 * d) ≤ x * 2
            eight d x h = omega arith

    bounce_differ : Differ (λ k. bounced l w (rem_euclid binary64 (more k) t))
    bounce_differ =
        elim (two_alike (side 0) (side 2) (side 4)) [
          | inl s ↦ pair 0 2 (lit≤ tt) (lit≤ tt) (lit≤ tt) s
          | inr r ↦ elim r [
            | inl s ↦ pair 2 2 (lit≤ tt) (lit≤ tt) (lit≤ tt) s
            | inr s ↦ pair 0 4 (lit≤ tt) (lit≤ tt) (lit≤ tt) s
          ]
        ]
      where
        side : ℕ → Bool
        side k = lt (rem_euclid binary64 (more k) t) w

  ping_pong_differ : (l w : Float) → LoopIn (Some l) → T (fits binary64 w) → T (positive w) → T (le (f64 1 (2 ^ q)) w) → T (le w one_float)
      → Differ (λ k. bounced l w (rem_euclid binary64 (more k) (mul binary64 two_float w)))
  ping_pong_differ l nan i f u h k = absurd u
  ping_pong_differ l (inf s) i f u h k = absurd u
  ping_pong_differ l (fin true m g) i f u h k = absurd u
  ping_pong_differ l (fin false m g) i f u h k = bounce_differ l i m g f u h k

  -- ---- of two counts with different positions one has another than c

  module _ (d : Direction) (l c : Float) (k : T (loops d l)) (h : T (le c (f64 (2 ^ (50 - q)) 1))) where
    placed : (j : ℕ) → j ≤ 4 → position_of OneShot d (count j) (Some l) ≡ looped d (count j) l
    unfolding loopback_in_force of_bits
    placed j J = position_loops d (count j) l ∙ rw (is_true (le f64_1 (count j)) (from_one j J), is_true (loops d l) k)

    moves_to : (j : ℕ) → j ≤ 4 → (looped d (count j) l ≡ position_of OneShot d c (Some l) → ⊥) → Moves OneShot d (Some l) c
    moves_to j J n =
        record {
          later = count j;
          is_f64 = round-fits binary64 false (2 ^ 52 + suc j) (2 ^ p);
          is_finite = count_finite j J;
          greater = lt_of_le_of_lt_at c (f64 (2 ^ (50 - q)) 1) (count j) h (past j J);
          elsewhere = λ e. n (sym (placed j J) ∙ e);
        }

    one_moves : Differ (λ j. looped d (count j) l) → Moves OneShot d (Some l) c
    one_moves s =
        elim (same_or_not (looped d (count s.first) l) (position_of OneShot d c (Some l))) [
          | inl e ↦ moves_to s.second s.second_in (λ n. s.apart (e ∙ sym n))
          | inr n ↦ moves_to s.first s.first_in n
        ]

-- ---- the laws

pub loop_moves : LoopMoves
unfolding of_bits
loop_moves Forward l c q Q i k g h =
    let w = sub binary64 one_float l in
    let u = complement l i.1 in
    one_moves q Q Forward l c k h (forward_differ q Q l w i (sub-fits binary64 one_float l) (above_eps w k u.1) g u.1)
loop_moves Reverse l c q Q i k g h = one_moves q Q Reverse l c k h (reverse_differ q Q l i (above_eps l k i.1.1) g)
loop_moves PingPong l c q Q i k g h =
    let w = sub binary64 one_float l in
    let u = complement l i.1 in
    one_moves q Q PingPong l c k h (ping_pong_differ q Q l w i (sub-fits binary64 one_float l) (above_eps w k u.1) g u.1)

-- 10^−9 is more than 2^−30
eps_long : T (le (f64 1 (2 ^ 30)) f64_eps)
unfolding le round of_bits
eps_long = tt

pub in_force_moves : InForceMoves
unfolding loopback_in_force
in_force_moves Drawn d None c i e h = absurd (false≢true e)
in_force_moves Drawn d (Some l) c i e h =
    let k = yes_so e in loop_moves d l c 30 (lit≤ tt) i k (le_trans_at (f64 1 (2 ^ 30)) f64_eps (loop_length d l) eps_long (lt→le f64_eps (loop_length d l) k)) h
in_force_moves Path d l c i e h = absurd (false≢true e)
in_force_moves Lorenz d l c i e h = absurd (false≢true e)
in_force_moves Rossler d l c i e h = absurd (false≢true e)
in_force_moves SampleAndHold d l c i e h = absurd (false≢true e)
