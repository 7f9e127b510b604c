-- `idle_members` meets its contract. The loop's invariant: those before the index are idle. Assumes nothing.
use Rattle.std.proofs.Common.{◌≡◌, refl, ◌∙◌, add-one, arith}
use Rattle.ensemble.proofs.Mapped.{mapped}
use Rattle.ensemble_player.proofs.playing.idle_members.Invariants.{set_mapped, all_mapped}
use Rattle.ensemble_player.proofs.playing.idle_members.Goals as goal

pub loop-m-init : goal.loop-m-init
unfolding mapped
loop-m-init c = refl

pub loop-m-preserved : goal.loop-m-preserved
loop-m-preserved c = rw (c.idle_member.ensures, c.loop-m.invariant, add-one) (set_mapped _ _ _ _)

pub returns : goal.returns
returns c =
    let e : c.loop-m.m-index ≡ 16 = omega (arith, c.loop-m.auto.m-index-end) in
    c.loop-m.invariant ∙ rw e (all_mapped _ _ c.requires)
