-- A One-shot's position loops where a loopback is in force, and with none in force it is at rest exactly where it has finished. Assumes nothing.
use Rattle.std.specs.Prelude.{None, Option, Some}
use mathlib.Core.Path.{◌≡◌, refl, sym, ap, ◌∙◌, subst}
use mathlib.Core.Logic.{inl, inr}
use mathlib.Core.Bool.{Bool, true, false, not, ◌&&◌, cond}
use lib.Dec.{T}
use lib.IntN.{pos}
use lib.Ieee.{Float, nan, inf, fin, binary64, of_bits, sub, lt, eq, le, fits, is_nan}
use lib.Ieee.Bits.{is_true, is_false}
use lib.Ieee.Fits.{and_l, and_r}
use lib.Ieee.Scale.{finite}
use Rattle.floatlaws.specs.Extrema.{max_of}
use Rattle.floatlaws.specs.Numbers.{f64_0, f64_1, f64_2}
use Rattle.floatlaws.proofs.Tests.{decide, yes_so}
use Rattle.floatlaws.proofs.Order.{le_trans_at, le_refl_at, le_not_lt, lt_irrefl_at, lt_of_lt_of_le_at, not_le→lt}
use Rattle.floatlaws.proofs.Extrema.{max_more, max_bounds, max_either, max_of_nan}
use Rattle.floatlaws.proofs.Unit.{zero_float, one_float}
use Rattle.floatlaws.proofs.Less.{less_above, one_less_above}
use Rattle.settings.specs.declared.choices.LfoType.{LfoType}
use Rattle.settings.specs.declared.choices.LfoType.TheVariants.{Drawn, Path, Lorenz, Rossler, SampleAndHold}
use Rattle.settings.specs.declared.choices.Mode.TheVariants.{Free, Restart, OneShot}
use Rattle.settings.specs.declared.choices.Direction.{Direction}
use Rattle.settings.specs.declared.choices.Direction.TheVariants.{Forward, Reverse, PingPong}
use Rattle.position.specs.Position.{loops, looped, forward_once, forward_loop, reverse_once, reverse_loop, back_once, ping_pong_once, ping_pong_loop, position_of}
use Rattle.position.specs.Rest.{loops_back, loopback_in_force, rest_from, finished_from, finished_of}
use Rattle.position.specs.Laws.{PositionLoops, Moves, ReadsAt, rest_at, FinishedRests, UnfinishedMoves}

-- ---- a One-shot's count, brought to 0 or more

zero_below_one : T (lt f64_0 f64_1)
unfolding lt of_bits
zero_below_one = tt

one_number : T (not (is_nan f64_1))
unfolding is_nan of_bits
one_number = tt

two_number : T (not (is_nan f64_2))
unfolding is_nan of_bits
two_number = tt

-- from 1 on it stays
count_stays : (c : Float) → T (le f64_1 c) → max_of c f64_0 ≡ c
count_stays c h = sym (max_more c f64_0 (is_true (lt f64_0 c) (lt_of_lt_of_le_at f64_0 f64_1 c zero_below_one h)))

from_one : (c : Float) → T (le f64_1 c) → lt (max_of c f64_0) f64_1 ≡ false
from_one c h = ap (λ (z : Float). lt z f64_1) (count_stays c h) ∙ le_not_lt c f64_1 h

-- below 1 it stays below 1
below_one : (c : Float) → T (not (le f64_1 c)) → lt (max_of c f64_0) f64_1 ≡ true
below_one c h =
    is_true (lt (max_of c f64_0) f64_1)
    (elim (decide (is_nan c)) [
      | inl n ↦ subst (λ (z : Float). T (lt z f64_1)) (sym (max_of_nan c f64_0 n)) zero_below_one
      | inr n ↦ max_either (λ (z : Float). T (lt z f64_1)) c f64_0 (not_le→lt f64_1 c one_number n h) zero_below_one
    ])

-- ---- position loops where a loopback is in force

loops_from_one : (d : Direction) (c l : Float) → T (le f64_1 c) → position_of OneShot d c (Some l) ≡ cond (loops d l) (looped d c l) (position_of OneShot d c None)
unfolding forward_once forward_loop reverse_once reverse_loop ping_pong_once ping_pong_loop
loops_from_one Forward c l h = rw (from_one c h, count_stays c h)
loops_from_one Reverse c l h = rw (from_one c h, count_stays c h)
loops_from_one PingPong c l h = rw (from_one c h, count_stays c h)

plain_below_one : (d : Direction) (c : Float) (l : Option Float) → T (not (le f64_1 c)) → position_of OneShot d c l ≡ position_of OneShot d c None
unfolding forward_once reverse_once ping_pong_once
plain_below_one Forward c l h = rw (below_one c h)
plain_below_one Reverse c l h = rw (below_one c h)
plain_below_one PingPong c l h = rw (below_one c h)

pub position_loops : PositionLoops
unfolding loopback_in_force
position_loops d c l =
    elim (decide (le f64_1 c)) [
      | inl h ↦ loops_from_one d c l h ∙ rw (is_true (le f64_1 c) h)
      | inr h ↦ plain_below_one d c (Some l) h ∙ rw (is_false (le f64_1 c) h)
    ]

-- with none in force, position is that without a loopback
no_loop : (d : Direction) (c : Float) (l : Option Float) → loops_back d l ≡ false → position_of OneShot d c l ≡ position_of OneShot d c None
no_loop d c None h = refl
no_loop d c (Some l) h =
    elim (decide (le f64_1 c)) [
      | inl k ↦ loops_from_one d c l k ∙ rw h
      | inr k ↦ plain_below_one d c (Some l) k
    ]

-- ---- where finished is said

one_le_two : T (le f64_1 f64_2)
unfolding le of_bits
one_le_two = tt

rests : (d : Direction) (c : Float) → T (le (rest_from d) c) → position_of OneShot d c None ≡ rest_at d
unfolding forward_once forward_loop reverse_once reverse_loop ping_pong_once ping_pong_loop back_once
rests Forward c h = rw (from_one c h)
rests Reverse c h = rw (from_one c h)
rests PingPong c h =
    let k = le_trans_at f64_1 f64_2 c one_le_two h in
    rw (from_one c k, count_stays c k, le_not_lt c f64_2 h)

-- of a type that reads its position: whether it loops, and from where on it rests
in_force : (kind : LfoType) (d : Direction) (l : Option Float) → ReadsAt kind l → loopback_in_force kind d l ≡ loops_back d l
unfolding loopback_in_force
in_force Drawn d l r = refl
in_force Path d l r = sym (ap (loops_back d) r)
in_force Lorenz d l r = absurd r
in_force Rossler d l r = absurd r
in_force SampleAndHold d l r = absurd r

rest_count : (kind : LfoType) (d : Direction) (l : Option Float) → ReadsAt kind l → finished_from kind d ≡ rest_from d
unfolding finished_from
rest_count Drawn d l r = refl
rest_count Path d l r = refl
rest_count Lorenz d l r = absurd r
rest_count Rossler d l r = absurd r
rest_count SampleAndHold d l r = absurd r

says : (kind : LfoType) (d : Direction) (l : Option Float) (c : Float) → ReadsAt kind l → finished_of kind OneShot d l c ≡ not (loops_back d l) && le (rest_from d) c
unfolding finished_of
says kind d l c r = rw (in_force kind d l r, rest_count kind d l r)

pub finished_rests : FinishedRests
finished_rests kind Free d l c r h = absurd (unfold finished_of in h)
finished_rests kind Restart d l c r h = absurd (unfold finished_of in h)
finished_rests kind OneShot d l c r h =
    let s = subst T (says kind d l c r) h in
    let n = and_l (not (loops_back d l)) (le (rest_from d) c) s in
    let e = and_r (not (loops_back d l)) (le (rest_from d) c) s in
    λ (later : Float) (k : T (le c later)). no_loop d later l (is_false (loops_back d l) n) ∙ rests d later (le_trans_at (rest_from d) c later e k)

-- ---- where it is not said

-- below 1
forward_at : (c : Float) → T (not (le f64_1 c)) → position_of OneShot Forward c None ≡ max_of c f64_0
unfolding forward_once
forward_at c h = rw (below_one c h)

reverse_at : (c : Float) → T (not (le f64_1 c)) → position_of OneShot Reverse c None ≡ sub binary64 f64_1 (max_of c f64_0)
unfolding reverse_once
reverse_at c h = rw (below_one c h)

ping_pong_at : (c : Float) → T (not (le f64_1 c)) → position_of OneShot PingPong c None ≡ max_of c f64_0
unfolding ping_pong_once
ping_pong_at c h = rw (below_one c h)

-- from 1 to below 2
back_at : (c : Float) → T (le f64_1 c) → T (lt c f64_2) → position_of OneShot PingPong c None ≡ sub binary64 f64_2 c
unfolding ping_pong_once ping_pong_loop back_once
back_at c h k = rw (from_one c h, count_stays c h, is_true (lt c f64_2) k)

-- at the turn
turned : position_of OneShot PingPong f64_1 None ≡ f64_1
unfolding ping_pong_once ping_pong_loop back_once max_of lt eq is_nan sub of_bits
turned = refl

not_one : (c : Float) → T (not (le f64_1 c)) → max_of c f64_0 ≡ f64_1 → ⊥
not_one c h e = lt_irrefl_at f64_1 (subst (λ (z : Float). T (lt z f64_1)) e (yes_so (below_one c h)))

not_zero : (x : Float) → T (lt f64_0 x) → x ≡ f64_0 → ⊥
not_zero x h e = lt_irrefl_at f64_0 (subst (λ (z : Float). T (lt f64_0 z)) e h)

reverse_above : (c : Float) → T (fits binary64 c) → T (not (is_nan c)) → T (not (le f64_1 c)) → T (lt f64_0 (sub binary64 f64_1 (max_of c f64_0)))
unfolding of_bits
reverse_above c t n h =
    one_less_above (max_of c f64_0) (max_either (λ (z : Float). T (fits binary64 z)) c f64_0 t (unfold fits in tt)) (max_bounds c f64_0 n (unfold is_nan in tt)).1 (yes_so (below_one c h))

back_above : (c : Float) → T (fits binary64 c) → T (le f64_1 c) → T (lt c f64_2) → T (lt f64_0 (sub binary64 f64_2 c))
unfolding of_bits
back_above nan t h k = absurd (unfold lt in k)
back_above (inf true) t h k = absurd (unfold le in h)
back_above (inf false) t h k = absurd (unfold lt in k)
back_above (fin true m e) t h k = absurd (unfold lt in lt_of_lt_of_le_at zero_float one_float (fin true m e) zero_below_one h)
back_above (fin false m e) t h k = less_above m e 1 (pos 1) t (unfold fits in tt) k

-- with no loop, a greater count where the position without a loopback is another
moves_to : (d : Direction) (c later : Float) (l : Option Float) → loops_back d l ≡ false → T (fits binary64 later) → T (finite later) → T (lt c later)
    → (position_of OneShot d later None ≡ position_of OneShot d c None → ⊥) → Moves OneShot d l c
moves_to d c later l n t k g e =
    record { later = later; is_f64 = t; is_finite = k; greater = g; elsewhere = λ h. e (sym (no_loop d later l n) ∙ h ∙ no_loop d c l n) }

to_one : (d : Direction) (c : Float) (l : Option Float) → loops_back d l ≡ false → T (not (is_nan c)) → T (not (le f64_1 c))
    → (position_of OneShot d f64_1 None ≡ position_of OneShot d c None → ⊥) → Moves OneShot d l c
to_one d c l n k h e = moves_to d c f64_1 l n (unfold fits of_bits in tt) (unfold of_bits in tt) (not_le→lt f64_1 c one_number k h) e

moves : (d : Direction) (c : Float) (l : Option Float) → loops_back d l ≡ false → T (fits binary64 c) → T (not (is_nan c)) → T (not (le (rest_from d) c)) → Moves OneShot d l c
moves Forward c l n t k h = to_one Forward c l n k h (λ e. not_one c h (sym (forward_at c h) ∙ sym e ∙ rests Forward f64_1 (le_refl_at f64_1 one_number)))
moves Reverse c l n t k h =
    to_one Reverse c l n k h
    (λ e. not_zero (sub binary64 f64_1 (max_of c f64_0)) (reverse_above c t k h) (sym (reverse_at c h) ∙ sym e ∙ rests Reverse f64_1 (le_refl_at f64_1 one_number)))
moves PingPong c l n t k h =
    let g = not_le→lt f64_2 c two_number k h in
    elim (decide (le f64_1 c)) [
      | inl u ↦
          moves_to PingPong c f64_2 l n (unfold fits of_bits in tt) (unfold of_bits in tt) g
          (λ e. not_zero (sub binary64 f64_2 c) (back_above c t u g) (sym (back_at c u g) ∙ sym e ∙ rests PingPong f64_2 (le_refl_at f64_2 two_number)))
      | inr u ↦ to_one PingPong c l n k u (λ e. not_one c u (sym (ping_pong_at c u) ∙ sym e ∙ turned))
    ]

pub unfinished_moves : UnfinishedMoves
unfinished_moves kind d l c r n t k h =
    let f = sym (in_force kind d l r) ∙ n in
    let e : le (rest_from d) c ≡ false = ap (λ (b : Bool). not b && le (rest_from d) c) (sym f) ∙ sym (says kind d l c r) ∙ h in
    moves d c l f t k (subst (λ (b : Bool). T (not b)) (sym e) tt)
