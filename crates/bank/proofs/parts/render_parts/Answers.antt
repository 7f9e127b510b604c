-- `render_parts` meets its contract. The invariant says where the block stands; `one_more` is one turn. Assumes nothing.
use mathlib.Core.Path.{sym}
use native.Mathlib.Omega.{arith}
use Rattle.bank.proofs.Stages.{opens, in_order, next_stretch, all_played, one_more}
use Rattle.bank.proofs.parts.render_parts.Goals as goal

pub overflow_sub-end : goal.overflow_sub-end
overflow_sub-end c = in_order _ _ _ _ _ _ _ _ _ _ (opens _ _ _ _ _ _ _ _ _ _ c.args.at c.first_end-end.ensures c.stretches-left.ensures c.requires) c.loop-left.invariant
    c.loop-left-test.true

pub begin_stretch-r-requires : goal.begin_stretch-r-requires
begin_stretch-r-requires c = next_stretch _ _ _ _ _ _ _ _ _ _ (opens _ _ _ _ _ _ _ _ _ _ c.args.at c.first_end-end.ensures c.stretches-left.ensures c.requires) c.loop-left.invariant
    c.loop-left-test.true

pub loop-left-preserved : goal.loop-left-preserved
loop-left-preserved c =
    one_more _ _ _ _ _ _ _ _ _ _ (opens _ _ _ _ _ _ _ _ _ _ c.args.at c.first_end-end.ensures c.stretches-left.ensures c.requires) c.loop-left.invariant
    c.loop-left-test.true c.begin_stretch-r.result _ _ c.begin_stretch-r.ensures _ c.between-r.ensures

pub returns : goal.returns
returns c = all_played _ _ _ _ _ _ _ _ _ _ (opens _ _ _ _ _ _ _ _ _ _ c.args.at c.first_end-end.ensures c.stretches-left.ensures c.requires) c.loop-left.invariant
    (omega (arith, c.loop-left-test.false)) c.args.at (sym c.stretches-left.ensures) (sym c.first_end-end.ensures)
