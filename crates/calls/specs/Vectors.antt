-- Values that are equal, which the definitions meet by computation. Assumes nothing.
use Rattle.std.specs.Prelude.{◌≡◌, refl, true, [], ◌∷◌}
use Rattle.std.specs.Float.Ieee.{eq, neg, of_bits}
use Rattle.floatlaws.specs.Numbers.{f32_0}

-- "0 and −0 included": a bus set to one of them where the other is stored
zeros : eq f32_0 (neg f32_0) ∷ eq (neg f32_0) f32_0 ∷ [] ≡ true ∷ true ∷ []
unfolding eq neg of_bits
zeros = refl
