-- A stored curve is told by the points that are kept: its arrays hold blanks after those, and a path's times are those of the legs between them. Assumes nothing.
use Prim.Native.Nat.{ℕ, ◌-◌, min}
use mathlib.Core.Path.{◌≡◌, refl, sym, ap, ◌∙◌}
use mathlib.Core.Bool.{Bool}
use mathlib.Core.List.{List}
use lib.ListN.{length, get_or, take, replicate}
use lib.Seq.{take_at}
use lib.Ieee.{Float}
use Rattle.listlaws.specs.Tables.{tabulate, padded}
use Rattle.listlaws.proofs.Tabulation.{length_tabulate}
use Rattle.shape.specs.declared.Shape.{Shape}
use Rattle.shape.specs.Points.{blank, sorted_points, sorted_array}
use Rattle.shape.specs.Shapes.{shape_of, default_shape}
use Rattle.shape.proofs.Slots.{length_sorted}
use Rattle.path_segments.specs.Times.{segments_of, times_of}
use Rattle.path.specs.declared.Path.{Path}
use Rattle.path.specs.declared.PathPoint.{PathPoint}
use Rattle.path.specs.Paths.{blank_path_point, no_path_point, clamped_path_point, clamped_path, legs_of, path_of, default_path}
use Rattle.codes.specs.declared.ShapeCodes.{ShapeCodes}
use Rattle.codes.specs.declared.PathCodes.{PathCodes}
use Rattle.curves.specs.Given.{given_points, given_shape, given_path}
use Rattle.restart.specs.Rule.{SameShape, SamePath}

module _ {A : Type 0} (z : A) where
  -- after the first n of an array nothing but z
  abbrev Blanked : List A → ℕ → Type 0
  Blanked l n = l ≡ padded 64 z (take n l)

  blanked : (l : List A) (n : ℕ) → length l ≡ n → Blanked (padded 64 z l) n
  blanked l n e = ap (λ (k : List A). padded 64 z k) (sym (take_at l (replicate (64 - length l) z) n e))

  same_array : (l k : List A) (m n : ℕ) → Blanked l m → Blanked k n → take m l ≡ take n k → l ≡ k
  same_array l k m n a b e = a ∙ ap (λ (z' : List A). padded 64 z z') e ∙ sym b

-- ---- stored curves

pub record KeptShape (a : Shape) : Type 0 where
  pub blanks : Blanked blank a.points a.len

abbrev times_between : List PathPoint → ℕ → Bool → List Float
times_between points len closed = let n = segments_of len closed in times_of (legs_of points len n) n

pub record KeptPath (a : Path) : Type 0 where
  pub blanks : Blanked blank_path_point a.points a.len
  pub times_are : a.times ≡ times_between a.points a.len a.closed

pub default_shape_lem : KeptShape default_shape
unfolding default_shape
default_shape_lem = record { blanks = refl }

pub given_shape_lem : (c : ShapeCodes) → KeptShape (given_shape c)
unfolding given_shape shape_of sorted_array
given_shape_lem c =
    let n = min c.count 64 in
    let l = given_points c.points n in
    record { blanks = blanked blank (sorted_points l n) n (length_sorted l n) }

path_of_lem : (points : List PathPoint) (count : ℕ) (closed : Bool) → KeptPath (path_of points count closed)
unfolding path_of clamped_path
path_of_lem points count closed =
    let f : ℕ → PathPoint = λ i. clamped_path_point (get_or points i no_path_point) in
    record { blanks = blanked blank_path_point (tabulate f (min count 64)) (min count 64) (length_tabulate f (min count 64)); times_are = refl }

pub default_path_lem : KeptPath default_path
unfolding default_path
default_path_lem = path_of_lem _ 4 _

pub given_path_lem : (c : PathCodes) → KeptPath (given_path c)
unfolding given_path
given_path_lem c = path_of_lem _ c.count _

-- ---- equal ones are one

pub same_shape : (a b : Shape) → KeptShape a → KeptShape b → SameShape a b → a ≡ b
same_shape a b h k e = go (same_array blank a.points b.points a.len b.len h.blanks k.blanks e.points) e.count e.loopback
  where
    go : a.points ≡ b.points → a.len ≡ b.len → a.loopback ≡ b.loopback → a ≡ b
    go p n l = λ i. record { points = p i; len = n i; loopback = l i }

pub same_path : (a b : Path) → KeptPath a → KeptPath b → SamePath a b → a ≡ b
same_path a b h k e = go (same_array blank_path_point a.points b.points a.len b.len h.blanks k.blanks e.points) e.count e.closed
  where
    go : a.points ≡ b.points → a.len ≡ b.len → a.closed ≡ b.closed → a ≡ b
    go p n c =
        let t : a.times ≡ b.times = h.times_are ∙ (λ i. times_between (p i) (n i) (c i)) ∙ sym k.times_are in
        λ i. record { points = p i; len = n i; closed = c i; times = t i }
