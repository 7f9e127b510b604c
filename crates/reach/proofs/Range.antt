-- Position lies from 0 to 1, both included: for every finite count, every mode and direction, and every loopback from 0 to 1. Assumes nothing.
use Rattle.std.specs.Prelude.{None, Option, Some}
use mathlib.Core.Path.{subst}
use mathlib.Core.Bool.{Bool, true, false, not, ◌&&◌, ◌||◌, cond}
use Prim.Native.Nat.{ℕ, ◌*◌, ◌<◌}
use lib.Dec.{T, ltb→lt}
use lib.IntN.{ℤ}
use lib.Ieee.{Float, nan, inf, fin, binary32, binary64, round, up, down, of_bits, add, sub, mul, lt, eq, le, fits, is_nan}
use lib.Ieee.Exact.{HasValue}
use lib.Ieee.Fits.{up_pos, sub-fits, mul-fits}
use lib.Ieee.Positive.{positive, positive-finite, positive_of_value, between}
use lib.Ieee.Scale.{finite}
use native.Mathlib.Nat.{mul-pos, zero-lt-suc}
use Rattle.floatlaws.specs.Extrema.{max_of, signed}
use Rattle.floatlaws.specs.Whole.{InUnit}
use Rattle.floatlaws.specs.Euclid.{rem_euclid}
use Rattle.floatlaws.specs.Narrow.{narrowed}
use Rattle.floatlaws.proofs.Order.{le_trans_at, lt→le, not_lt→le, le_refl_at, between_finite}
use Rattle.floatlaws.proofs.Extrema.{max_bounds}
use Rattle.floatlaws.proofs.Range.{Within}
use Rattle.floatlaws.proofs.Whole.{floor_rest}
use Rattle.floatlaws.proofs.Euclid.{euclid_within}
use Rattle.floatlaws.proofs.Mono.{add_mono, sub_mono, narrowed_mono}
use Rattle.floatlaws.specs.Numbers.{f64_0, f64_eps}
use Rattle.settings.specs.declared.choices.Mode.TheVariants.{Free, Restart, OneShot}
use Rattle.settings.specs.declared.choices.Direction.{Direction}
use Rattle.settings.specs.declared.choices.Direction.TheVariants.{Forward, Reverse, PingPong}
use Rattle.position.specs.Position.{odd_cycle, cyclic_of, into_cycle, floor_of, forward_loop, forward_once, reverse_loop, reverse_once, back_once, bounced, ping_pong_loop, ping_pong_once}
use Rattle.reach.specs.Bounds.{LoopIn}
use Rattle.reach.specs.Laws.{PositionIn, NarrowedIn}
use Rattle.floatlaws.proofs.NoNan.{finite_number}
use Rattle.floatlaws.proofs.Unit.{zero_float, one_float, two_float, unit_finite, complement, at_most_one, from_one, less_self, less_one, twice_value, twice_less}

either : (b : Bool) (x y : Float) → (T b → InUnit x) → (T (not b) → InUnit y) → InUnit (cond b x y)
either true x y h k = h tt
either false x y h k = k tt

unit_zero : InUnit zero_float
unit_zero = unfold le in (tt, tt)

unit_one : InUnit one_float
unit_one = unfold le in (tt, tt)

-- ---- a cycle after the other

cyclic_in : (d : Direction) (c : Float) → T (fits binary64 c) → T (finite c) → InUnit (cyclic_of d c)
unfolding cyclic_of of_bits
cyclic_in Forward c t p = floor_rest binary64 c t p
cyclic_in Reverse c t p = complement (into_cycle c) (floor_rest binary64 c t p)
cyclic_in PingPong c t p = either (odd_cycle (floor_of c)) (sub binary64 one_float (into_cycle c)) (into_cycle c) (λ h. complement (into_cycle c) (floor_rest binary64 c t p)) (λ h. floor_rest binary64 c t p)

-- ---- a One-shot's count: a float of the format, finite, and 0 or more
record Count (c : Float) : Type 0 where
  held : T (fits binary64 c)
  bounded : T (finite c)
  from_zero : T (le zero_float c)

count_of : (c : Float) → T (fits binary64 c) → T (finite c) → Count (max_of c f64_0)
count_of c t p =
    record {
      held = pick (λ x. T (fits binary64 x)) t (unfold fits of_bits in tt);
      bounded = pick (λ x. T (finite x)) p (unfold of_bits in tt);
      from_zero = unfold of_bits in (max_bounds c zero_float (finite_number c p) (unfold is_nan in tt)).1;
    }
  where
    one_of : (P : Float → Type 0) (a b : Bool) → P c → P f64_0 → P (cond a f64_0 (cond b f64_0 c))
    one_of P true b h k = k
    one_of P false true h k = k
    one_of P false false h k = h

    pick : (P : Float → Type 0) → P c → P f64_0 → P (max_of c f64_0)
    pick P h k = unfold max_of in one_of P (is_nan c) (lt c f64_0 || (eq c f64_0 && signed c)) h k

-- ---- sums and differences

-- l and r, which is at most w, where l and w do not pass 1
beside : (l r w : Float) → InUnit l → T (le zero_float r) → T (le r w) → T (finite w) → T (le (add binary64 l w) one_float) → InUnit (add binary64 l r)
beside l r w u a b p s =
    let q = between_finite zero_float r w tt p a b in
    let L = unit_finite l u in (
      le_trans_at zero_float (add binary64 zero_float zero_float) (add binary64 l r) (unfold le add in tt) (add_mono binary64 zero_float l zero_float r tt L tt q u.0 a),
      le_trans_at (add binary64 l r) (add binary64 l w) one_float (add_mono binary64 l l r w L L q p (le_refl_at l (finite_number l L)) b) s,
    )

-- l less r, which is at most l
under : (l r : Float) → InUnit l → T (le zero_float r) → T (le r l) → InUnit (sub binary64 l r)
under l r u a b =
    let L = unit_finite l u in
    let q = between_finite zero_float r l tt L a b in (
      le_trans_at zero_float (sub binary64 l l) (sub binary64 l r) (less_self l L) (sub_mono binary64 l l l r L L L q (le_refl_at l (finite_number l L)) b),
      le_trans_at (sub binary64 l r) (sub binary64 one_float zero_float) one_float (sub_mono binary64 l one_float r zero_float L tt q tt u.1 a) (unfold le sub in tt),
    )

-- a loop's length above `f64_eps` is above zero
pub above_eps : (w : Float) → T (lt f64_eps w) → T (le w one_float) → T (positive w)
above_eps w h k = between f64_eps w one_float (unfold of_bits in tt) tt (lt→le f64_eps w h) k

-- ---- one cycle and a loop, from 1 on

-- there and back, each way m · 2^e long: above zero, and at most 1
module _ (m : ℕ) (e : ℤ) (t : T (fits binary64 (fin false m e))) (p : T (positive (fin false m e))) (k : T (le (fin false m e) one_float)) where
  abbrev way : Float
  way = fin false m e

  abbrev turn : Float
  turn = mul binary64 two_float way

  pub turn_value : HasValue turn false (m * up e * 2) (down e)
  turn_value = twice_value m e t (at_most_one m e k)

  pub turn_size : 0 < m * up e * 2
  turn_size = mul-pos (mul-pos (ltb→lt 0 m p) (up_pos e)) (zero-lt-suc 1)

  turn_positive : T (positive turn)
  turn_positive = positive_of_value turn (m * up e * 2) (down e) turn_value turn_size

  -- d of at most a turn, on the way back
  pub back_within : (d : Float) → T (finite d) → T (le d turn) → T (not (lt d way)) → Within (sub binary64 d way) way
  back_within d D b h = (
    le_trans_at zero_float (sub binary64 way way) (sub binary64 d way) (less_self way tt)
        (sub_mono binary64 way d way way tt D tt tt (not_lt→le d way (finite_number d D) (finite_number way tt) h) (le_refl_at way (finite_number way tt))),
    subst (λ (z : Float). T (le (sub binary64 d way) z)) (twice_less m e t (at_most_one m e k))
        (sub_mono binary64 d turn way way D (positive-finite turn turn_positive) tt tt b (le_refl_at way (finite_number way tt))),
  )

-- d into a bounce over w, which is at most 1 and with l does not pass 1
bounce_in : (l w x : Float) → InUnit l → T (fits binary64 w) → T (positive w) → T (le w one_float) → T (le (add binary64 l w) one_float) → T (finite x)
    → InUnit (bounced l w (rem_euclid binary64 x (mul binary64 two_float w)))
unfolding bounced of_bits
bounce_in l nan x u t p k s q = absurd p
bounce_in l (inf n) x u t p k s q = absurd p
bounce_in l (fin true m e) x u t p k s q = absurd p
bounce_in l (fin false m e) x u t p k s q =
    let w = fin false m e in
    let double = mul binary64 two_float w in
    let d = rem_euclid binary64 x double in
    let r = euclid_within binary64 x double q (turn_positive m e t p k) (mul-fits binary64 two_float w) in
    let D = between_finite zero_float d double tt (positive-finite double (turn_positive m e t p k)) r.0 r.1 in
    either (lt d w) (sub binary64 one_float d) (add binary64 l (sub binary64 d w))
    (λ (h : T (lt d w)). complement d (r.0, le_trans_at d w one_float (lt→le d w h) k))
    (λ (h : T (not (lt d w))). let b = back_within m e t p k d D r.1 h in beside l (sub binary64 d w) w u b.0 b.1 tt s)

module _ (c : Float) (C : Count c) (from : T (le one_float c)) where
  -- the count from 1 on
  abbrev more : Float
  more = sub binary64 c one_float

  more_finite : T (finite more)
  more_finite = (less_one c C.held C.bounded from).0

  forward_loop_in : (l : Option Float) → LoopIn l → InUnit (forward_loop c l)
  unfolding forward_loop of_bits
  forward_loop_in None i = unit_one
  forward_loop_in (Some l) i =
      let w = sub binary64 one_float l in
      let u = complement l i.1 in
      either (lt f64_eps w) (add binary64 l (rem_euclid binary64 more w)) one_float
      (λ (h : T (lt f64_eps w)).
      let r = euclid_within binary64 more w more_finite (above_eps w h u.1) (sub-fits binary64 one_float l) in
      beside l (rem_euclid binary64 more w) w i.1 r.0 r.1 (unit_finite w u) (from_one l i.0 i.1))
      (λ (h : T (not (lt f64_eps w))). unit_one)

  reverse_loop_in : (l : Option Float) → LoopIn l → InUnit (reverse_loop c l)
  unfolding reverse_loop of_bits
  reverse_loop_in None i = unit_zero
  reverse_loop_in (Some l) i =
      either (lt f64_eps l) (sub binary64 l (rem_euclid binary64 more l)) zero_float
      (λ (h : T (lt f64_eps l)).
      let r = euclid_within binary64 more l more_finite (above_eps l h i.1.1) i.0 in
      under l (rem_euclid binary64 more l) i.1 r.0 r.1)
      (λ (h : T (not (lt f64_eps l))). unit_zero)

  back_in : InUnit (back_once c)
  unfolding back_once of_bits
  back_in =
      let p = C.bounded in
      either (lt c two_float) (sub binary64 two_float c) zero_float
      (λ (h : T (lt c two_float)). (
        le_trans_at zero_float (sub binary64 two_float two_float) (sub binary64 two_float c) (unfold le sub in tt) (sub_mono binary64 two_float two_float two_float c tt tt tt p (unfold le in tt) (lt→le c two_float h)),
        le_trans_at (sub binary64 two_float c) (sub binary64 two_float one_float) one_float (sub_mono binary64 two_float two_float c one_float tt tt p tt (unfold le in tt) from) (unfold le sub in tt),
      ))
      (λ (h : T (not (lt c two_float))). unit_zero)

  ping_pong_loop_in : (l : Option Float) → LoopIn l → InUnit (ping_pong_loop c l)
  unfolding ping_pong_loop of_bits
  ping_pong_loop_in None i = back_in
  ping_pong_loop_in (Some l) i =
      let w = sub binary64 one_float l in
      let u = complement l i.1 in
      either (lt f64_eps w) (bounced l w (rem_euclid binary64 more (mul binary64 two_float w))) (back_once c)
      (λ (h : T (lt f64_eps w)). bounce_in l w more i.1 (sub-fits binary64 one_float l) (above_eps w h u.1) u.1 (from_one l i.0 i.1) more_finite)
      (λ (h : T (not (lt f64_eps w))). back_in)

-- ---- a One-shot

module _ (c : Float) (C : Count c) (l : Option Float) (i : LoopIn l) where
  below_one : T (lt c one_float) → InUnit c
  below_one h = (C.from_zero, lt→le c one_float h)

  from_one_on : T (not (lt c one_float)) → T (le one_float c)
  from_one_on h = not_lt→le c one_float (finite_number c C.bounded) (finite_number one_float tt) h

  forward_in : InUnit (forward_once c l)
  unfolding forward_once of_bits
  forward_in = either (lt c one_float) c (forward_loop c l) below_one (λ (h : T (not (lt c one_float))). forward_loop_in c C (from_one_on h) l i)

  reverse_in : InUnit (reverse_once c l)
  unfolding reverse_once of_bits
  reverse_in = either (lt c one_float) (sub binary64 one_float c) (reverse_loop c l) (λ (h : T (lt c one_float)). complement c (below_one h)) (λ (h : T (not (lt c one_float))). reverse_loop_in c C (from_one_on h) l i)

  ping_pong_in : InUnit (ping_pong_once c l)
  unfolding ping_pong_once of_bits
  ping_pong_in = either (lt c one_float) c (ping_pong_loop c l) below_one (λ (h : T (not (lt c one_float))). ping_pong_loop_in c C (from_one_on h) l i)

-- ---- the law

pub position_in : PositionIn
position_in Free d c l t p i = cyclic_in d c t p
position_in Restart d c l t p i = cyclic_in d c t p
position_in OneShot Forward c l t p i = forward_in (max_of c f64_0) (count_of c t p) l i
position_in OneShot Reverse c l t p i = reverse_in (max_of c f64_0) (count_of c t p) l i
position_in OneShot PingPong c l t p i = ping_pong_in (max_of c f64_0) (count_of c t p) l i

-- ---- to the nearest f32

pub narrowed_in : NarrowedIn
unfolding narrowed round
narrowed_in x h = (narrowed_mono binary32 zero_float x h.0, narrowed_mono binary32 x one_float h.1)
