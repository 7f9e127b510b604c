-- `by_tag` meets its contract. Assumes nothing.
use mathlib.Core.Path.{refl}
use Rattle.std.proofs.lemmas.Result.{err_from_is_err_and}
use Rattle.outputs.proofs.Tags.{tag_ill}
use Rattle.run_calls.proofs.Turning.{behind_tag}
use Rattle.run_calls.proofs.by_tag.Goals as goal

pub returns-in_err-tag : goal.returns-in_err-tag
returns-in_err-tag g c =
    let x = err_from_is_err_and c.from_residual.result c.from_residual.ensures.1 in
    rw (x.1, x.2, g.met.C.CallsInPlace.asked_is) (tag_ill g.C.CallsInPlace.by_tag c.args.run.now c.args.from.now.at c.in_err-tag.ensures, refl, refl)

pub returns : goal.returns
returns g c =
    let m = g.C.CallsInPlace in
    behind_tag m.calling m.state_of m.Valid m.by_tag g.met.C.CallsInPlace.asked_is c.args.run.now c.args.from.now c.in_ok-tag.ensures _ _ _ _ _ c.call.ensures
