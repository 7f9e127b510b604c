-- `chaos::in_box` meets its contract: what its four calls ensure is put in a row. Assumes nothing.
use borrow.Author.Rules.{rules}
use mathlib.Core.Path.{◌≡◌}
use lib.Ieee.{Float}
use Rattle.chaos.specs.declared.law.State.{State}
use Rattle.chaos.specs.declared.law.Attractor.{Attractor}
use Rattle.chaos.specs.declared.law.Law.{Law}
use Rattle.chaos.specs.Law.{law_of}
use Rattle.floatlaws.specs.Extrema.{held_in}
use Rattle.chaos.specs.Advance.{boxed}
use Rattle.chaos.proofs.Box.{sides_of}
use Rattle.chaos.proofs.in_box.Goals as goal

module _ (attractor : Attractor) (s : State) {law : Law} {a b c : Float} where
  in_a_row : law ≡ law_of attractor → a ≡ held_in law.lo.x law.hi.x s.x → b ≡ held_in law.lo.y law.hi.y s.y
      → c ≡ held_in law.lo.z law.hi.z s.z → ◌≡◌ {A = State} (record { x = a; y = b; z = c }) (boxed attractor s)
  unfolding boxed
  in_a_row which x y z = rw (x, y, z, which)

pub held-requires : goal.held-requires
held-requires c = let s = sides_of c.args.attractor c.of-law.ensures in search rules

pub held-requires-2 : goal.held-requires-2
held-requires-2 c = let s = sides_of c.args.attractor c.of-law.ensures in search rules

pub held-requires-3 : goal.held-requires-3
held-requires-3 c = let s = sides_of c.args.attractor c.of-law.ensures in search rules

pub returns : goal.returns
returns c =
    let args = c.args in
    in_a_row args.attractor args.s c.of-law.ensures c.held.ensures c.held-2.ensures c.held-3.ensures
