-- The second output and its value, by whether the type is Path. Assumes nothing.
use Rattle.std.proofs.Common.{◌≡◌, Bool, cond, refl, Option}
use lib.Ieee.{Float}
use Rattle.settings.specs.declared.choices.LfoType.{LfoType}
use Rattle.settings.specs.declared.choices.LfoType.TheVariants.{Drawn, Path, Lorenz, Rossler, SampleAndHold}
use Rattle.voice.specs.declared.output.Channel.{Channel}
use Rattle.voice.specs.Source.{is_path}
use Rattle.voice.specs.Output.{post_of, second_of, second_value}

pub second_by : (kind : LfoType) (smooth : Option Float) (g : Float) (capture : Bool) (raw : Float) (c : Channel)
    → cond (is_path kind) (post_of smooth g capture raw c) c ≡ second_of kind smooth g capture raw c
unfolding second_of
second_by Drawn smooth g capture raw c = refl
second_by Path smooth g capture raw c = refl
second_by Lorenz smooth g capture raw c = refl
second_by Rossler smooth g capture raw c = refl
second_by SampleAndHold smooth g capture raw c = refl

pub value_by : (kind : LfoType) (raw : Float) (c : Channel) → cond (is_path kind) c.smoothed raw ≡ second_value kind raw c
unfolding second_value
value_by Drawn raw c = refl
value_by Path raw c = refl
value_by Lorenz raw c = refl
value_by Rossler raw c = refl
value_by SampleAndHold raw c = refl
