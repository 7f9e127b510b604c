-- What a voice puts out: the start value, fade in and smoothing, as `post` of lfo/mod.rs has them. Assumes nothing.
use Rattle.std.specs.Prelude.{ℕ, ◌+◌, ◌-◌, ◌^◌, Bool, false, cond, nat_le, nat_lt, Float, None, Option, Some}
use Rattle.std.specs.Float.Ieee.{eq}
use Rattle.floatlaws.specs.Numbers.{f32_0, f32_1}
use Rattle.floatlaws.specs.Rounded.{◌+₃₂◌, ◌-₃₂◌, ◌×₃₂◌, to_f32}
use Rattle.settings.specs.declared.choices.LfoType.{LfoType}
use Rattle.settings.specs.declared.choices.LfoType.TheVariants.{Drawn, Path, Lorenz, Rossler, SampleAndHold}
use Rattle.voice.specs.declared.output.Channel.{Channel}
use Rattle.voice.specs.declared.output.Output.{Output}
use Rattle.voice.specs.declared.output.Posted.{Posted}

abbrev pub new_channel : Channel
new_channel = record { start = f32_0; smoothed = f32_0 }

-- a voice never restarted is past every delay and fade
abbrev pub new_output : Output
new_output = record { t = 2 ^ 64 - 1; delay = 0; fade = 0; inv_fade = f32_0; capture = false; x = new_channel; y = new_channel }

-- the weight at sample t since the restart: 0 up to the delay, then the samples since the delay as a share of the fade, then 1
unfoldable pub gain_of : ℕ → ℕ → ℕ → Float → Float
gain_of t delay fade inv = cond (nat_lt t delay) f32_0 (cond (nat_le fade (t - delay)) f32_1 (to_f32 (t - delay) ×₃₂ inv))

-- one sample later; the largest number stays
unfoldable pub later_of : ℕ → ℕ
later_of t = cond (nat_lt t (2 ^ 64 - 1)) (t + 1) t

-- the first sample after a restart sets the start value, and smoothing starts there
unfoldable pub captured_of : Bool → Float → Channel → Channel
captured_of capture raw c = cond capture (record { start = raw; smoothed = raw }) c

unfoldable pub faded_of : Float → Float → Float → Float
faded_of g raw start = cond (eq g f32_1) raw (raw ×₃₂ g +₃₂ start ×₃₂ (f32_1 -₃₂ g))

unfoldable pub smoothed_of : Option Float → Float → Float → Float
smoothed_of None state value = value
smoothed_of (Some a) state value = state +₃₂ (value -₃₂ state) ×₃₂ a

-- an output after a sample, of its state there and its faded value
abbrev pub put_out : Option Float → Channel → Float → Channel
put_out smooth from value = record { start = from.start; smoothed = smoothed_of smooth from.smoothed value }

-- one output after a sample: its last value is what it puts out
unfoldable pub post_of : Option Float → Float → Bool → Float → Channel → Channel
post_of smooth g capture raw c =
    let from = captured_of capture raw c in
    record { start = from.start; smoothed = smoothed_of smooth from.smoothed (faded_of g raw from.start) }

-- only a path has a second output; of another type the second value is what was generated, 0
unfoldable pub second_of : LfoType → Option Float → Float → Bool → Float → Channel → Channel
second_of Path smooth g capture raw c = post_of smooth g capture raw c
second_of Drawn smooth g capture raw c = c
second_of Lorenz smooth g capture raw c = c
second_of Rossler smooth g capture raw c = c
second_of SampleAndHold smooth g capture raw c = c

unfoldable pub second_value : LfoType → Float → Channel → Float
second_value Path raw c = c.smoothed
second_value Drawn raw c = raw
second_value Lorenz raw c = raw
second_value Rossler raw c = raw
second_value SampleAndHold raw c = raw

unfoldable pub posted : LfoType → Option Float → Output → Float → Float → Posted
posted kind smooth o x y =
    let g = gain_of o.t o.delay o.fade o.inv_fade in
    let after_x = post_of smooth g o.capture x o.x in
    let after_y = second_of kind smooth g o.capture y o.y in
    record {
      output =
          record { t = later_of o.t; delay = o.delay; fade = o.fade; inv_fade = o.inv_fade; capture = false; x = after_x; y = after_y };
      x = after_x.smoothed;
      y = second_value kind y after_y;
    }
