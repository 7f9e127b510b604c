-- Every leg of a path lies within 0 to 2, whatever its points, so that its times ascend; where its points are on the paper, each is the leg between two of them. Assumes nothing.
use Prim.Native.Nat.{◌+◌, ◌%◌}
use mathlib.Core.Path.{sym, subst}
use native.Mathlib.Nat.{lt_of_lt_of_le, mod-lt}
use native.Mathlib.Omega.{arith}
use lib.Ieee.{Float, nan}
use Rattle.floatlaws.specs.Numbers.{Between, f32_0, f32_2}
use Rattle.listlaws.proofs.Tabulation.{get_or_padded}
use Rattle.leg.proofs.Range.{leg_between, leg_in}
use Rattle.path_segments.specs.Times.{segments_of}
use Rattle.path_segments.proofs.AcceptedPath.{segments_le}
use Rattle.path.specs.Paths.{leg_at, legs_of, path_legs}
use Rattle.path.specs.Laws.{LegsWithin, PathLegsBetween}

pub legs_in : LegsWithin
unfolding legs_of leg_at
legs_in points len n k h = subst (λ (x : Float). Between f32_0 x f32_2) (sym (get_or_padded (leg_at points len) 64 f32_0 n k nan h)) (leg_in _ _ _ _)

pub legs_between : PathLegsBetween
unfolding path_legs legs_of leg_at
legs_between a on j h =
    let p = on j (lt_of_lt_of_le h (segments_le a.len a.closed)) in
    let q = on ((j + 1) % a.len) (mod-lt (j + 1) (omega (arith, segments_le a.len a.closed))) in
    rw (get_or_padded (leg_at a.points a.len) 64 f32_0 (segments_of a.len a.closed) j nan h) (leg_between _ _ _ _ p.0 p.1 q.0 q.1)
