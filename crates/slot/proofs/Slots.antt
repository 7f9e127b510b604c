-- What holds of a new slot, and of stored settings. Assumes nothing.
use Rattle.std.proofs.Common.{ℕ, Bool, true, false, T, replicate, sym, subst}
use lib.ListN.{get_or-replicate, length-replicate}
use lib.Ieee.{Float, nan, le, of_bits}
use lib.Ieee.Scale.{finite}
use Rattle.floatlaws.specs.Numbers.{f32_0, f32_360}
use Rattle.floatlaws.specs.Extrema.{clamp_of}
use Rattle.floatlaws.proofs.NoNan.{Number}
use Rattle.floatlaws.proofs.Order.{le_right}
use Rattle.floatlaws.proofs.Extrema.{clamp_bounds}
use Rattle.points.specs.Modulation.{FiniteBuses}
use Rattle.settings.specs.declared.record.Settings.{Settings}
use Rattle.settings.specs.declared.times.Rate.{Rate}
use Rattle.settings.specs.declared.times.Rate.TheVariants as Rate
use Rattle.settings.specs.Times.{top_hz, clamped_rate}
use Rattle.settings.specs.Records.{clamped_settings}
use Rattle.reach.specs.Bounds.{AnchorIn, RateNumber, SettingsIn}
use Rattle.reach.proofs.Reach.{new_clock_in, new_anchor_in}
use Rattle.voice.specs.Voice.{new_voice}
use Rattle.slot.specs.Slot.{new_lfo, LfoIn}
use Rattle.slot.proofs.Curves.{default_shape_lem, default_path_lem}

-- ---- settings with no NaN stay so as they are stored

tops : (x10 : Bool) → T (le f32_0 (top_hz x10))
unfolding le of_bits
tops true = tt
tops false = tt

turn : T (le f32_0 f32_360)
unfolding le of_bits
turn = tt

clamped_number : (x hi : Float) → Number x → T (le f32_0 hi) → Number (clamp_of x f32_0 hi)
clamped_number x hi number h = le_right f32_0 (clamp_of x f32_0 hi) (clamp_bounds x f32_0 hi number h).0

rate_number : (r : Rate) → RateNumber r → RateNumber (clamped_rate r)
unfolding clamped_rate
rate_number (Rate.Synced d f) h = tt
rate_number (Rate.Hz hz x10) h = clamped_number hz (top_hz x10) h (tops x10)

pub stored_in : (s : Settings) → SettingsIn s → SettingsIn (clamped_settings s)
unfolding clamped_settings
stored_in s i =
    record { rate_number = rate_number s.rate i.rate_number; phase_number = clamped_number s.phase f32_360 i.phase_number turn; grid_in = i.grid_in }

-- ---- a new slot, and its voice

zero_finite : T (finite f32_0)
unfolding of_bits
zero_finite = tt

zeros_finite : FiniteBuses (replicate 16 f32_0)
zeros_finite k h = subst (λ (x : Float). T (finite x)) (sym (get_or-replicate 16 k f32_0 nan h)) zero_finite

pub new_lfo_in : (s : Settings) → SettingsIn s → LfoIn 0 (new_lfo s)
new_lfo_in s i =
    record {
      settings_in = stored_in s i;
      shape_in = default_shape_lem;
      path_in = default_path_lem;
      buses_in = record { long = length-replicate 16 f32_0; finite_all = zeros_finite };
      clock_in = new_clock_in;
    }

pub new_voice_in : (seed : ℕ) → AnchorIn 0 (new_voice seed).anchor
unfolding new_voice
new_voice_in seed = new_anchor_in
