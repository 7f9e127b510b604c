-- What holds of the settings of every player: no number in them is a NaN. Nothing is asked of the grid. Assumes nothing.
use Rattle.std.specs.Prelude.{None, Option, Some}
use mathlib.Core.Path.{◌≡◌, refl}
use mathlib.Core.Bool.{true}
use lib.Dec.{lit<}
use lib.Ieee.{is_nan, of_bits}
use Rattle.settings.specs.declared.record.Settings.{Settings}
use Rattle.codes.specs.declared.SettingsCodes.{SettingsCodes}
use Rattle.settings.specs.Codes.{settings_at}
use Rattle.settings.specs.Records.{default_settings, clamped_settings}
use Rattle.reach.specs.Bounds.{SettingsIn}
use Rattle.slot.proofs.Slots.{stored_in}
use Rattle.questions.proofs.Facts.{settings_numbers}
use Rattle.questions.specs.Tests.{settings_finite}

-- the settings without their grid
abbrev pub ungridded : Settings → Settings
ungridded s =
    record {
      kind = s.kind;
      mode = s.mode;
      direction = s.direction;
      rate = s.rate;
      song_lock = s.song_lock;
      swing = s.swing;
      fade_in = s.fade_in;
      delay = s.delay;
      smooth = s.smooth;
      phase = s.phase;
      phase_snap = s.phase_snap;
      grid_x = 0;
    }

abbrev pub Settled : Settings → Type 0
Settled s = SettingsIn (ungridded s)

pub settled_stored : (s : Settings) → Settled s → Settled (clamped_settings s)
unfolding clamped_settings
settled_stored s i = stored_in (ungridded s) i

pub settled_default : Settled default_settings
unfolding is_nan of_bits
settled_default = record { rate_number = tt; phase_number = tt; grid_in = lit< tt }

-- ---- settings from their codes

abbrev pub Fine : Option Settings → Type 0
Fine (Some s) = Settled s
Fine None = Unit

pub settings_fine : (c : SettingsCodes) → settings_finite c ≡ true → Fine (settings_at c)
settings_fine c h = go (settings_at c) refl
  where
    go : (z : Option Settings) → settings_at c ≡ z → Fine z
    go (Some s) e = let n = settings_numbers c s h e in record { rate_number = n.0; phase_number = n.1; grid_in = lit< tt }
    go None e = tt
