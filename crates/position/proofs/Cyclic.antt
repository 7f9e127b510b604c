-- A `match` arm of two modes knows that the mode is one of two, Free and Restart, which go through the cycles alike. Assumes nothing.
use Rattle.std.specs.Prelude.{Option}
use mathlib.Core.Path.{◌≡◌, refl}
use mathlib.Core.Logic.{◌⊎◌, inl, inr}
use lib.Ieee.{Float}
use Rattle.settings.specs.declared.choices.Mode.{Mode}
use Rattle.settings.specs.declared.choices.Mode.TheVariants.{Free, Restart, OneShot}
use Rattle.settings.specs.declared.choices.Direction.{Direction}
use Rattle.position.specs.Position.{cyclic_of, position_of}

pub goes_round : (mode : Mode) (d : Direction) (c : Float) (l : Option Float) → (mode ≡ Free) ⊎ (mode ≡ Restart) → cyclic_of d c ≡ position_of mode d c l
goes_round Free d c l h = refl
goes_round Restart d c l h = refl
goes_round OneShot d c l (inl e) = cc
goes_round OneShot d c l (inr e) = cc
