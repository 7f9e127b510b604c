-- The sort, list by list: where a point goes, the lengths, and a point put into an array that begins with the list. Assumes nothing.
use mathlib.Core.Path.{◌≡◌, refl, ap, ◌∙◌, subst}
use mathlib.Core.Bool.{Bool, not}
use mathlib.Core.List.{List, ◌++◌}
use Prim.Native.Nat.{ℕ, zero, suc, ◌-◌, ◌≤◌, ◌<◌, min}
use native.Mathlib.Nat.{le_refl}
use native.Mathlib.Omega.{arith}
use lib.ListN.{length, get_or, replicate, take, get_or-append}
use Rattle.std.proofs.lemmas.List.{get_or-take, length-take-le}
use lib.Ieee.{lt}
use Rattle.listlaws.specs.Tables.{padded}
use Rattle.listlaws.proofs.LastWhere.{last_le, last_same}
use Rattle.listlaws.proofs.Inserted.{length_inserted, opened_padded}
use Rattle.shape.specs.declared.Shape.{Shape}
use Rattle.shape.specs.declared.sorting.Point.{Point}
use Rattle.shape.specs.Shapes.{shape_of}
use Rattle.shape.specs.Laws.{ShapeOfFirst}
use Rattle.shape.specs.Points.{blank, no_point, clamped_point, slot_of, insert_point, sorted_points, inserted_at, sorted_array}

abbrev pub stops : List Point → Point → ℕ → Bool
stops l p k = not (lt p.x (get_or l k no_point).x)

pub slot_le : (l : List Point) (n : ℕ) (p : Point) → slot_of l n p ≤ n
unfolding slot_of
slot_le l n p = last_le (stops l p) n

slot_append : (l r : List Point) (n : ℕ) (p : Point) → n ≤ length l → slot_of (l ++ r) n p ≡ slot_of l n p
unfolding slot_of
slot_append l r n p h = last_same (stops (l ++ r) p) (stops l p) n (λ (k : ℕ) (i : k < n). rw (get_or-append l r no_point k (omega arith)))

pub length_sorted : (points : List Point) (n : ℕ) → length (sorted_points points n) ≡ n
unfolding sorted_points insert_point
length_sorted points zero = refl
length_sorted points (suc n) =
    let l = sorted_points points n in
    let p = clamped_point (get_or points n no_point) in
    length_inserted l (slot_of l (length l) p) p (slot_le l (length l) p) ∙ ap suc (length_sorted points n)

insert_padded : (l : List Point) (p : Point) → inserted_at (padded 64 blank l) (length l) p ≡ padded 64 blank (insert_point l p)
unfolding inserted_at insert_point
insert_padded l p =
    rw (slot_append l (replicate (64 - length l) blank) (length l) p (le_refl (length l)))
    (opened_padded l (slot_of l (length l) p) p (slot_le l (length l) p) 64 blank)

-- one turn of the sort
pub sort_more : (points : List Point) (n : ℕ) → inserted_at (sorted_array points n) n (clamped_point (get_or points n no_point)) ≡ sorted_array points (suc n)
unfolding sorted_array sorted_points
sort_more points n =
    let p = clamped_point (get_or points n no_point) in
    let l = sorted_points points n in
    subst (λ (k : ℕ). inserted_at (padded 64 blank l) k p ≡ padded 64 blank (insert_point l p)) (length_sorted points n) (insert_padded l p)

-- the first n points are sorted alike whether others follow them or not
first_sorted : (points : List Point) (m n : ℕ) → n ≤ m → sorted_points (take m points) n ≡ sorted_points points n
unfolding sorted_points
first_sorted points m zero h = refl
first_sorted points m (suc n) h = rw (first_sorted points m n (omega arith), get_or-take m points n no_point h)

pub sort_first : (points : List Point) (n : ℕ) → n ≤ length points → sorted_array (take n points) (length (take n points)) ≡ sorted_array points n
unfolding sorted_array
sort_first points n h = rw (length-take-le n points h, first_sorted points n n (le_refl n))

pub shape_first : ShapeOfFirst
unfolding shape_of
shape_first points n h =
    let m = min n 64 in
    let l = length-take-le m points h in
    let kept : min m 64 ≡ m = omega arith in
    let e = rw l at (sort_first points m h) in (rw (l, kept, e), λ (s : Shape). rw (l, kept, e))
