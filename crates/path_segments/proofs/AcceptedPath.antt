-- A path has no more segments than points, so the times of each path that an accepted call makes ascend. Assumes nothing.
use mathlib.Core.Bool.{Bool, true, false, cond}
use mathlib.Core.List.{List}
use Prim.Native.Nat.{ℕ, suc, ◌-◌, ◌≤◌}
use native.Mathlib.Nat.{le_refl, le_trans}
use native.Mathlib.Omega.{arith}
use lib.Dec.{ltb}
use lib.Ieee.{Float}
use Rattle.points.specs.Arrays.{Ascends}
use Rattle.path_segments.specs.Times.{segments_of, times_of, LegsIn}
use Rattle.path_segments.proofs.Ascent.{times_rule}

pub segments_le : (len : ℕ) (closed : Bool) → segments_of len closed ≤ len
unfolding segments_of
segments_le len closed = go (ltb len 2) closed
  where
    go : (a b : Bool) → cond a 0 (cond b len (len - 1)) ≤ len
    go true b = omega arith
    go false true = le_refl len
    go false false = omega arith

pub accepted_ascends : (len : ℕ) (closed : Bool) → len ≤ 64 → (legs : List Float) → LegsIn legs (segments_of len closed) → Ascends (times_of legs (segments_of len closed)) (suc (segments_of len closed))
accepted_ascends len closed kept legs accepted = (times_rule legs (segments_of len closed) accepted (le_trans (segments_le len closed) kept)).ascend
