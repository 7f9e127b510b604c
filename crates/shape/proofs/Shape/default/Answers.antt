-- `Shape::default` meets its contract: antt computes the sort. Assumes nothing.
use Rattle.std.proofs.Common.{◌≡◌, refl, [], ◌∷◌}
use Rattle.std.specs.Float.Ieee.{lt, neg, of_bits}
use Rattle.floatlaws.specs.Numbers.{f32_0, f32_½, f32_1}
use Rattle.floatlaws.specs.Extrema.{clamp_of}
use Rattle.listlaws.specs.Tables.{last_where, inserted}
use Rattle.shape.specs.declared.Shape.{Shape}
use Rattle.shape.specs.declared.sorting.Point.{Point}
use Rattle.shape.specs.Points.{new_point, clamped_point, slot_of, insert_point, sorted_points, sorted_array}
use Rattle.shape.specs.Shapes.{shape_of, new_shape, default_shape}
use Rattle.shape.proofs.Shape.default.Goals as goal

sorted : new_shape (new_point f32_0 f32_0 ∷ new_point f32_½ f32_1 ∷ new_point f32_1 f32_0 ∷ []) 3 ≡ default_shape
unfolding shape_of default_shape sorted_array sorted_points insert_point slot_of last_where inserted clamped_point clamp_of lt neg of_bits
sorted = refl

together : (p q r : Point) (s : Shape) → p ≡ new_point f32_0 f32_0 → q ≡ new_point f32_½ f32_1 → r ≡ new_point f32_1 f32_0 → s ≡ new_shape (p ∷ q ∷ r ∷ []) 3 → s ≡ default_shape
together p q r s a h d e = rw (e, d, h, a) sorted

pub returns : goal.returns
returns c = (together _ _ _ _ c.new.ensures c.new-2.ensures c.new-3.ensures c.new-4.ensures.0, c.new-4.ensures.1)
