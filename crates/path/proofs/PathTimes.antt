-- The times of every path that a call makes, and what a search among them finds. Assumes nothing.
use Prim.Native.Nat.{ℕ, ◌≤◌, min}
use mathlib.Core.Bool.{Bool}
use mathlib.Core.List.{List}
use native.Mathlib.Nat.{le_trans, min-le_right}
use Rattle.path_segments.specs.Times.{segments_of}
use Rattle.path_segments.specs.Laws.{LegTimes}
use Rattle.path_segments.proofs.Ascent.{times_rule}
use Rattle.path_segments.proofs.AcceptedPath.{segments_le}
use Rattle.path_segments.proofs.KeptPath.{found_holds, kept_path}
use Rattle.path_segments.proofs.RustPath.{rust_path}
use Rattle.path.specs.declared.PathPoint.{PathPoint}
use Rattle.path.specs.Paths.{clamped_path, legs_of, path_of}
use Rattle.path.specs.Laws.{PathTimesRule, PathSearch}
use Rattle.path.proofs.PathLegs.{legs_in}

module _ (points : List PathPoint) (n : ℕ) (closed : Bool) where
  room : segments_of (min n 64) closed ≤ 64
  room = le_trans (segments_le (min n 64) closed) (min-le_right n 64)

  times : LegTimes (legs_of (clamped_path points (min n 64)) (min n 64) (segments_of (min n 64) closed)) (segments_of (min n 64) closed)
  times = times_rule _ (segments_of (min n 64) closed) (legs_in _ _ _) room

pub path_times_rule : PathTimesRule
unfolding path_of
path_times_rule points n closed = let t = times points n closed in record { ascend = t.ascend; start = t.start; end = t.end }

pub path_search : PathSearch
unfolding path_of
path_search points n closed xs ys bends =
    let t = times points n closed in (
      found_holds xs ys bends _ (min n 64) closed t.ascend,
      kept_path xs ys bends _ (min n 64) closed t.ascend,
      rust_path xs ys bends _ (min n 64) closed t.ascend t.start,
    )
