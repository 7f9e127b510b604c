-- `Cycles::swing` meets its contract. Assumes nothing.
use Rattle.std.proofs.Common.{◌≡◌, Bool, true, false, cond, Option, None, refl}
use Rattle.clock.specs.Pace.{swing_of}
use Rattle.clock.proofs.pace.Cycles.swing.Goals as goal

pub returns-in-PerBeat : goal.returns-in-PerBeat
unfolding swing_of
returns-in-PerBeat c = simp (c.f32_to_f64_with_nan.ensures, c.clamp-a.ensures, c.in-PerBeat.is, c.if-set.true)

pub returns-in_default : goal.returns-in_default
unfolding swing_of
returns-in_default c = simp c.if-set.false

pub returns-in_default-2 : goal.returns-in_default-2
unfolding swing_of
returns-in_default-2 c = rw c.in_default.is (neither c.args.set)
  where
    neither : {A : Type 0} (b : Bool) → ◌≡◌ {A = Option A} None (cond b None None)
    neither true = refl
    neither false = refl
