-- `new_members` meets its contract. The loop's invariant: the first v voices are there. Assumes nothing.
use Rattle.std.proofs.Common.{◌≡◌, refl, ◌∙◌, add-one, arith}
use Rattle.listlaws.specs.Tables.{tabulate}
use Rattle.listlaws.proofs.Tabulation.{fill_more}
use Rattle.ensemble_player.specs.Ensembles.{new_member}
use Rattle.ensemble_player.proofs.making.new_members.Invariants.{full}
use Rattle.ensemble_player.proofs.making.new_members.Goals as goal

pub loop-v-init : goal.loop-v-init
unfolding tabulate
loop-v-init c = rw c.new_member-members.ensures refl

pub loop-v-preserved : goal.loop-v-preserved
loop-v-preserved c = rw (c.new_member.ensures, c.seed_of.ensures, c.loop-v.invariant, add-one) (fill_more _ 16 (new_member 0) _ (omega arith))

pub returns : goal.returns
returns c =
    let e : c.loop-v.v ≡ 16 = omega (arith, c.loop-v.auto.v-end) in
    c.loop-v.invariant ∙ rw e (full _)
