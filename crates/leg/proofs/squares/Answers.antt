-- `leg::squares` meets its contract, by the laws of proofs/Coordinates.antt. Assumes nothing.
use Rattle.std.proofs.Common.{T, sym, subst, le_trans, le_of_eq}
use lib.Ieee.{binary32, fits}
use Rattle.leg.proofs.Coordinates.{squares_read}
use Rattle.leg.proofs.squares.Goals as goal
use Rattle.leg.proofs.squares.Goals.{Start}

held : (c : Start) → T (fits binary32 c.args.c)
held c = subst T (sym c.well_formed.0.1) tt

pub returns : goal.returns
returns c =
    let k = squares_read c.args.c (held (goal.at.returns c).Start) in
    rw (c.f64_to_u64.ensures, c.f32_to_f64_with_nan-y.ensures, c.clamp.ensures) (k.0, le_trans (le_of_eq k.0) k.1)
