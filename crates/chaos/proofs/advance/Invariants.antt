-- `chaos::advance` meets its contract. As many steps are taken as the counter says, and the box comes after the last.
-- Assumes nothing.
use mathlib.Core.Path.{◌≡◌, sym, ap, ◌∙◌, subst}
use Prim.Native.Nat.{ℕ, ◌-◌, ◌≤◌}
use lib.Ieee.{Float}
use Rattle.chaos.specs.declared.law.Attractor.{Attractor}
use Rattle.chaos.specs.declared.law.State.{State}
use Rattle.chaos.specs.Advance.{boxed, advanced, InBox}
use Rattle.chaos.proofs.Box.{advanced_in}
use Rattle.chaos.proofs.Slopes.{after}
use Rattle.chaos.proofs.advance.Given as goal

pub arrived : (attractor : Attractor) (h : Float) (s : State) (n : ℕ) {at r : State} → at ≡ after attractor h s n → r ≡ boxed attractor at → (r ≡ advanced attractor s h n) × InBox attractor r
arrived attractor h s n {r = r} here held =
    let is : r ≡ advanced attractor s h n = unfold advanced in (held ∙ ap (boxed attractor) here) in
    (is, subst (InBox attractor) (sym is) (advanced_in attractor s h n))

abbrev pub invariant-loop : goal.invariant-loop
invariant-loop l = (l.counter ≤ l.steps) × (l.at ≡ after l.attractor l.h l.initial.at l.counter)

abbrev pub decreases-loop : goal.decreases-loop
decreases-loop l = l.steps - l.counter
