-- `reduced` meets its contract. Assumes nothing.
use Rattle.std.proofs.Common.{ℕ, ◌/◌, ◌<◌, T, sym, subst, ap, ◌∙◌, ◌≡◌, true, false}
use lib.Ieee.{Float, binary64, add, sub, lt}
use Rattle.euclid.proofs.Doublings.{units_in, Step, step}
use Rattle.euclid.proofs.+reduced.Goals as goal
use Rattle.euclid.proofs.+reduced.Goals.{Start}

-- what holds of the two arguments
steps : (t : ℕ) (c : Start t) → Step c.args.x c.args.y
steps t c = step c.args.x c.args.y (subst T (sym c.well_formed.0.1) tt) (subst T (sym c.well_formed.1.0.1) tt) c.requires.x_above c.requires.y_above

pub returns-then-x-y : goal.returns-then-x-y
returns-then-x-y t c = (steps t (goal.at.returns-then-x-y t c).Start).small c.if-x-y.true

pub reduced-r-requires : goal.reduced-r-requires
reduced-r-requires t c =
    let s = steps t (goal.at.reduced-r-requires t c).Start in
    let x = c.args.x in
    let y = c.args.y in
    (subst (λ (n : ℕ). units_in x / units_in (add binary64 y y) < n) c.decreases (s.fewer_turns c.if-x-y.false), (c.requires.x_above, s.above_zero c.if-x-y.false))

pub returns-then-r-y : goal.returns-then-r-y
returns-then-r-y t c =
    let e = c.reduced-r.ensures in
    e ∙ (steps t (goal.at.returns-then-r-y t c).Start).low c.if-x-y.false (subst (λ (r : Float). lt r c.args.y ≡ true) e c.if-r-y.true)

pub returns-else-r-y : goal.returns-else-r-y
returns-else-r-y t c =
    let e = c.reduced-r.ensures in
    ap (λ (r : Float). sub binary64 r c.args.y) e ∙ (steps t (goal.at.returns-else-r-y t c).Start).high c.if-x-y.false (subst (λ (r : Float). lt r c.args.y ≡ false) e c.if-r-y.false)
