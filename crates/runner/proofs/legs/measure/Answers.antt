-- `measure` meets its contract. Assumes nothing.
use Rattle.runner.proofs.Measuring.{few, measured_numbers, refused_numbers}
use Rattle.runner.proofs.legs.measure.Goals as goal

pub shared_ref_as_front-say : goal.shared_ref_as_front-say
shared_ref_as_front-say c = few c.args.c (rw c.in-Ok.is at c.evaluate_legs.ensures)

pub returns-in-Ok : goal.returns-in-Ok
returns-in-Ok c = rw (measured_numbers c.args.c (rw c.in-Ok.is at c.evaluate_legs.ensures)) c.say.ensures

pub returns-in-Err : goal.returns-in-Err
returns-in-Err c =
    rw (refused_numbers c.args.c c.in-Err.q (rw c.in-Err.is at c.evaluate_legs.ensures)) (rw c.number.ensures at c.say_number.ensures)
