-- Of the first of more points, as many as are kept, legs and path are the same. Assumes nothing.
use mathlib.Core.Path.{◌≡◌}
use mathlib.Core.List.{List}
use Prim.Native.Nat.{ℕ, ◌+◌, ◌%◌, ◌<◌, min}
use native.Mathlib.Nat.{mod-lt, lt_of_lt_of_le}
use native.Mathlib.Omega.{arith}
use lib.ListN.{take, get_or}
use Rattle.std.proofs.lemmas.List.{get_or-take, length-take-le}
use Rattle.points.proofs.First.{tabulate_same}
use Rattle.path_segments.specs.Times.{segments_of}
use Rattle.path_segments.proofs.AcceptedPath.{segments_le}
use Rattle.path.specs.declared.PathPoint.{PathPoint}
use Rattle.path.specs.Paths.{no_path_point, clamped_path_point, clamped_path, leg_at, legs_of, path_of}
use Rattle.path.specs.Laws.{LegsOfFirst, PathOfFirstPoints}

leg_first : (points : List PathPoint) (len j : ℕ) → j < len → leg_at (take len points) len j ≡ leg_at points len j
unfolding leg_at
leg_first points len j h = rw (get_or-take len points j no_path_point h, get_or-take len points ((j + 1) % len) no_path_point (mod-lt (j + 1) (omega arith)))

pub legs_first : LegsOfFirst
unfolding legs_of
legs_first points n closed h =
    let m = segments_of n closed in
    rw (length-take-le n points h, tabulate_same (leg_at (take n points) n) (leg_at points n) m (λ (j : ℕ) (q : j < m). leg_first points n j (lt_of_lt_of_le q (segments_le n closed))))

clamped_first : (points : List PathPoint) (n : ℕ) → clamped_path (take n points) n ≡ clamped_path points n
unfolding clamped_path
clamped_first points n =
    rw (tabulate_same (λ i. clamped_path_point (get_or (take n points) i no_path_point)) (λ i. clamped_path_point (get_or points i no_path_point)) n
    (λ (j : ℕ) (q : j < n). rw (get_or-take n points j no_path_point q)))

pub path_first : PathOfFirstPoints
unfolding path_of
path_first points n closed h =
    let m = min n 64 in
    let kept : min m 64 ≡ m = omega arith in
    rw (length-take-le m points h, kept, clamped_first points m)
