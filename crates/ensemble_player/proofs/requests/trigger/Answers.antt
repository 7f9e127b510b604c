-- `trigger` meets its contract. Assumes nothing.
use Rattle.std.proofs.Common.{arith}
use Rattle.questions.proofs.Results.{passed_on}
use Rattle.ensemble_player.proofs.Triggers.{trigger_refused, below, trigger_done}
use Rattle.ensemble_player.proofs.requests.trigger.Goals as goal

pub returns-in_err-trigger_answer : goal.returns-in_err-trigger_answer
returns-in_err-trigger_answer c = rw (passed_on _ c.from_residual.ensures) (trigger_refused _ c.requires _ _ _ c.in_err-trigger_answer.ensures)

pub offset_bounds-members-k : goal.offset_bounds-members-k
offset_bounds-members-k c =
    record { fits = omega (arith, below c.args.e c.requires c.args.v c.args.at c.in_ok-trigger_answer.ensures, c.requires.few) }

pub bounds-members-k : goal.bounds-members-k
bounds-members-k c =
    omega (arith, below c.args.e c.requires c.args.v c.args.at c.in_ok-trigger_answer.ensures, c.requires.few)

pub offset_bounds-members-k-2 : goal.offset_bounds-members-k-2
offset_bounds-members-k-2 c =
    record { fits = omega (arith, below c.args.e c.requires c.args.v c.args.at c.in_ok-trigger_answer.ensures, c.requires.few) }

pub bounds-members-k-2 : goal.bounds-members-k-2
bounds-members-k-2 c =
    omega (arith, below c.args.e c.requires c.args.v c.args.at c.in_ok-trigger_answer.ensures, c.requires.few)

pub returns : goal.returns
returns c =
    trigger_done _ c.requires _ _ c.in_ok-trigger_answer.ensures _ _ _ c.asked_member.ensures c.greater.ensures
