-- `chaos::start_at` meets its contract: what its calls ensure is put in a row, and its test is that of `start_at`. Assumes nothing.
use mathlib.Core.Path.{◌≡◌}
use mathlib.Core.Bool.{true, false}
use Prim.Native.Nat.{ℕ}
use lib.Ieee.{Float, binary32, binary64, mul, div, lt, to_unsigned, of_bits, round}
use Rattle.floatlaws.specs.Extrema.{max_of}
use Rattle.floatlaws.specs.Whole.{whole_of, to_ceil}
use Rattle.floatlaws.specs.Narrow.{narrowed}
use Rattle.chaos.specs.declared.law.State.{State}
use Rattle.chaos.specs.declared.law.Attractor.{Attractor}
use Rattle.chaos.specs.declared.law.Law.{Law}
use Rattle.floatlaws.specs.Numbers.{f64}
use Rattle.chaos.specs.Law.{law_of}
use Rattle.chaos.specs.Advance.{boxed, advanced}
use Rattle.chaos.specs.Start.{start_time, start_steps, step_count, start_at}
use Rattle.chaos.proofs.Slopes.{after}
use Rattle.chaos.proofs.Start.{with_laws}
use Rattle.chaos.proofs.start_at.Goals as goal

module _ (attractor : Attractor) (cycles : Float) {law : Law} {whole steps : Float} (which : law ≡ law_of attractor)
    (ceil : whole ≡ whole_of binary64 to_ceil (div binary64 (mul binary64 cycles law.per_cycle) law.max_step))
    (max : steps ≡ max_of whole (f64 0 1)) where
  time_is : mul binary64 cycles law.per_cycle ≡ start_time attractor cycles
  unfolding start_time
  time_is = rw which

  steps_is : steps ≡ start_steps attractor cycles
  unfolding start_steps start_time
  steps_is = rw (max, ceil, which)

  stays : lt steps (f64 1 1) ≡ true → law.start ≡ start_at attractor cycles
  unfolding start_at
  stays few = rw (which, ← steps_is, few)

  goes : {h : Float} {n : ℕ} {at r : State} → lt steps (f64 1 1) ≡ false
      → h ≡ narrowed binary32 (div binary64 (mul binary64 cycles law.per_cycle) steps) → n ≡ to_unsigned 32 steps
      → at ≡ after attractor h law.start n → r ≡ boxed attractor at → r ≡ start_at attractor cycles
  unfolding start_at step_count advanced
  goes many narrow count there held = rw (held, there, narrow, count, time_is, which, ← steps_is, many)

pub returns-then-steps : goal.returns-then-steps
unfolding of_bits round
returns-then-steps c = let k_ = let args = c.args in
    with_laws args.attractor args.cycles
    (stays args.attractor args.cycles c.of-law.ensures c.ceil.ensures c.max-steps.ensures c.if-steps.true) in record { value = k_.0; started_at = k_.1 }

pub returns : goal.returns
unfolding of_bits round
returns c = let k_ = let args = c.args in
    with_laws args.attractor args.cycles
    (goes args.attractor args.cycles c.of-law.ensures c.ceil.ensures c.max-steps.ensures c.if-steps.false
    c.f64_to_f32-h.ensures c.f64_to_u32.ensures c.run_up-at.ensures c.in_box.ensures) in record { value = k_.0; started_at = k_.1 }
