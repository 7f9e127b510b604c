-- `make` meets its contract. Assumes nothing.
use mathlib.Core.Path.{sym}
use Rattle.questions.proofs.Numbers.{number_not_zero}
use Rattle.fields.specs.Parser.{after}
use Rattle.ensemble_player.specs.Ensembles.{state_of, Valid}
use Rattle.run_calls.proofs.Turning.{begins_made, begins_refused}
use Rattle.ensemble_runner.specs.Asked.{make}
use Rattle.ensemble_runner.specs.Output.{ensembles}
use Rattle.ensemble_runner.proofs.calling.EnsemblesCallsInPlace.make.Goals as goal

pub returns-in-Ok : goal.returns-in-Ok
unfolding make after
returns-in-Ok c =
    let w = rw c.in-Ok.is at c.make.ensures in
    rw c.turn.ensures
    (begins_made ensembles state_of Valid c.args.run.now {m = (c.in_ok-codes.codes, c.in_ok-shared.shared, c.in_ok-count.count, c.in_ok-seed.seed)} (record { at = c.in_ok-seed.at; player = c.in-Ok.player })
    (rw (← c.in_ok-codes.ensures, ← c.in_ok-shared.ensures, ← c.in_ok-count.ensures, ← c.in_ok-seed.ensures)) (sym w.answer_is) (sym w.state_is) w.valid c.say_number.ensures)

pub returns-in-Err : goal.returns-in-Err
unfolding make after
returns-in-Err c =
    let w = rw c.in-Err.is at c.make.ensures in
    rw c.turn-in-Err.ensures
    (begins_refused ensembles state_of Valid c.args.run.now {m = (c.in_ok-codes.codes, c.in_ok-shared.shared, c.in_ok-count.count, c.in_ok-seed.seed)}
    {at = c.in_ok-seed.at} (rw (← c.in_ok-codes.ensures, ← c.in_ok-shared.ensures, ← c.in_ok-count.ensures, ← c.in_ok-seed.ensures)) w.answer_is (number_not_zero c.in-Err.q)
    (rw c.number.ensures at c.say_number-in-Err.ensures))
