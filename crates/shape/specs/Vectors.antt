-- The default shape, by computation. Assumes nothing.
use Rattle.std.specs.Prelude.{◌≡◌, refl, false, [], ◌∷◌, replicate}
use Rattle.std.specs.Float.Ieee.{neg, lt, of_bits, round}
use Rattle.floatlaws.specs.Numbers.{f32_0, f32_1}
use Rattle.floatlaws.specs.Extrema.{clamp_of}
use Rattle.floatlaws.specs.Multiples.{multiples_in}
use Rattle.listlaws.specs.Tables.{tabulate, padded}
use Rattle.bend.specs.Entries.{entries, entry_of}
use Rattle.bend.specs.Grid.{grid_index}
use Rattle.bend.specs.Strengths.{strength_at, strength_of}
use Rattle.shape.specs.Shapes.{default_shape, curves_of}

-- "with strengths 1", and no step
default_curves : curves_of default_shape.points default_shape.len ≡ record { es = padded 64 f32_0 (f32_1 ∷ f32_1 ∷ f32_1 ∷ []); steps = replicate 64 false }
unfolding curves_of default_shape tabulate strength_of strength_at entry_of entries grid_index multiples_in clamp_of lt neg of_bits round
default_curves = refl
