-- `moved_on` meets its contract. Assumes nothing.
use mathlib.Core.Path.{sym, ◌∙◌}
use Rattle.sittings.specs.Courses.{moved_on}
use Rattle.sittings.proofs.transports.moved_on.Goals as goal

pub returns-in_default : goal.returns-in_default
unfolding moved_on
returns-in_default c =
    let unknown = sym c.from_codes.ensures ∙ c.in_default.is in
    rw unknown

pub returns : goal.returns
unfolding moved_on
returns c =
    let known = sym c.from_codes.ensures ∙ c.in-Some.is in
    let next = c.advance-next.ensures in
    rw (known, next)
