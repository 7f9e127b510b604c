-- Where a loopback at an f32 is in force. Assumes nothing.
use mathlib.Core.Path.{◌≡◌}
use mathlib.Core.Logic.{inl, inr}
use mathlib.Core.Bool.{false}
use Prim.Native.Nat.{◌-◌, ◌^◌}
use lib.Dec.{T, lit≤}
use lib.IntN.{negsuc}
use lib.Ieee.{Float, fin, binary32, binary64, of_bits, sub, lt, le, fits}
use lib.Ieee.Scale.{finite}
use Rattle.floatlaws.specs.Whole.{InUnit}
use Rattle.floatlaws.specs.Numbers.{f64_eps}
use Rattle.floatlaws.proofs.Tests.{iff_same}
use Rattle.floatlaws.proofs.Order.{lt_of_lt_of_le_at, lt_or_le}
use Rattle.floatlaws.proofs.NoNan.{finite_number}
use Rattle.floatlaws.proofs.Mono.{sub_mono}
use Rattle.floatlaws.proofs.Unit.{one_float, unit_finite}
use Rattle.floatlaws.proofs.Before.{before}
use Rattle.position.specs.Rest.{loopback_in_force}
use Rattle.position.specs.Laws.{InForceLaw}

-- ---- below 1, which is 2^24 / 2^24

abbrev before_one : Float
before_one = fin false (2 ^ 24 - 1) (negsuc 23)

below_one : (l : Float) → T (fits binary32 l) → InUnit l → T (lt l one_float) → T (le l before_one)
below_one l t i h = before (2 ^ 24) 23 l (lit≤ tt) t i (lt_of_lt_of_le_at l one_float (fin false (2 ^ 24) (negsuc 23)) h (unfold le in tt))

enough : T (lt f64_eps (sub binary64 one_float before_one))
unfolding lt sub of_bits
enough = tt

nothing : T (lt f64_eps (sub binary64 one_float one_float)) → ⊥
unfolding lt sub of_bits
nothing h = h

below : (l : Float) → T (fits binary32 l) → InUnit l → lt f64_eps (sub binary64 one_float l) ≡ lt l one_float
below l t i =
    let L = unit_finite l i in
    let less : (a b : Float) → T (finite a) → T (finite b) → T (le a b) → T (le (sub binary64 one_float b) (sub binary64 one_float a)) =
    λ (a b : Float) (A : T (finite a)) (B : T (finite b)) (h : T (le a b)). sub_mono binary64 one_float one_float b a tt tt B A (unfold le in tt) h in
    iff_same (lt f64_eps (sub binary64 one_float l)) (lt l one_float)
    (λ (h : T (lt f64_eps (sub binary64 one_float l))).
    elim (lt_or_le l one_float (finite_number l L) (finite_number one_float tt)) [
      | inl k ↦ k
      | inr k ↦ absurd (nothing (lt_of_lt_of_le_at f64_eps (sub binary64 one_float l) (sub binary64 one_float one_float) h (less one_float l tt L k)))
    ])
    (λ (h : T (lt l one_float)). lt_of_lt_of_le_at f64_eps (sub binary64 one_float before_one) (sub binary64 one_float l) enough (less l before_one L tt (below_one l t i h)))

-- ---- above 10^−9: from 0x89_7060 / 2^53 on

abbrev next : Float
next = of_bits binary32 0x3089_7060

abbrev near : Float
near = fin false (0x89_7060 - 1) (negsuc 52)

next_above : T (lt f64_eps next)
unfolding lt of_bits
next_above = tt

near_not : T (lt f64_eps near) → ⊥
unfolding lt of_bits
near_not h = h

below_next : (l : Float) → T (fits binary32 l) → InUnit l → T (lt l next) → T (le l near)
below_next l t i h = before 0x89_7060 52 l (lit≤ tt) t i (lt_of_lt_of_le_at l next (fin false 0x89_7060 (negsuc 52)) h (unfold le of_bits in tt))

above : (l : Float) → T (fits binary32 l) → InUnit l → lt f64_eps l ≡ le next l
above l t i =
    iff_same (lt f64_eps l) (le next l)
    (λ (h : T (lt f64_eps l)).
    elim (lt_or_le l next (finite_number l (unit_finite l i)) (finite_number next (unfold of_bits in tt))) [
      | inl k ↦ absurd (near_not (lt_of_lt_of_le_at f64_eps l near h (below_next l t i k)))
      | inr k ↦ k
    ])
    (λ (h : T (le next l)). lt_of_lt_of_le_at f64_eps next l next_above h)

pub in_force_law : InForceLaw
unfolding loopback_in_force of_bits
in_force_law l t i = record { forward = below l t i; reverse = above l t i; ping_pong = below l t i }
