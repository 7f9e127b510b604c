-- Settings and a transport from their codes: known where every code is. Assumes nothing.
use Rattle.std.specs.Prelude.{◌≡◌, Bool, cond, ◌&&◌, List, [], ◌∷◌, ◌==◌, nat_lt, slice_get, Float, None, Option, Some}
use Rattle.std.specs.Option.{is_some}
use Rattle.settings.specs.Choices.{lfo_type_at, mode_at, direction_at, yes_no_at}
use Rattle.settings.specs.Times.{rate_at, span_at, scale_at}
use Rattle.codes.specs.declared.RateCodes.{RateCodes}
use Rattle.codes.specs.declared.SpanCodes.{SpanCodes}
use Rattle.codes.specs.declared.ScaleCodes.{ScaleCodes}
use Rattle.codes.specs.declared.SmoothCodes.{SmoothCodes}
use Rattle.codes.specs.declared.SettingsCodes.{SettingsCodes}
use Rattle.codes.specs.declared.TransportCodes.{TransportCodes}
use Rattle.settings.specs.declared.record.Settings.{Settings}
use Rattle.settings.specs.declared.record.Transport.{Transport}

-- ---- the coefficient: 0 is absent, and 1 present

abbrev pub smooths : SmoothCodes → List (Option Float)
smooths c = None ∷ Some c.coefficient ∷ []

unfoldable pub smooth_at : SmoothCodes → Option (Option Float)
smooth_at c = slice_get (smooths c) c.code

-- the rest, `f`, of a code that is known; and of one that is not `u`
abbrev pub with_known : {A B : Type 0} → A → Option B → (B → A) → A
with_known u (Some x) f = f x
with_known u None f = u

-- ---- whole records

unfoldable pub settings_at : SettingsCodes → Option Settings
settings_at c =
    with_known None (lfo_type_at c.kind) λ kind.
    with_known None (mode_at c.mode) λ mode.
    with_known None (direction_at c.direction) λ direction.
    with_known None (rate_at c.rate) λ rate.
    with_known None (yes_no_at c.song_lock) λ lock.
    with_known None (yes_no_at c.swing) λ swing.
    with_known None (yes_no_at c.phase_snap) λ snap.
    with_known None (span_at c.fade_in) λ fade.
    with_known None (span_at c.delay) λ delay.
    with_known None (smooth_at c.smooth) λ smooth.
    Some
    (record {
      kind = kind;
      mode = mode;
      direction = direction;
      rate = rate;
      song_lock = lock;
      swing = swing;
      fade_in = fade;
      delay = delay;
      smooth = smooth;
      phase = c.phase;
      phase_snap = snap;
      grid_x = c.grid_x;
    })

unfoldable pub transport_at : TransportCodes → Option Transport
transport_at c =
    with_known None (yes_no_at c.playing) λ playing.
    with_known None (scale_at c.scale) λ scale.
    Some
    (record {
      sample_rate = c.sample_rate;
      tempo = c.tempo;
      beats_per_bar = c.beats_per_bar;
      playing = playing;
      beats = c.beats;
      seconds = c.seconds;
      swing = c.swing;
      scale = scale;
    })

-- ---- the same as a test: "kind 0 to 4, mode, direction and feel 0 to 2, division 0 to 14, rate and scale 0 or 1, span 0 to 2, each yes or no 1 or 0"

abbrev pub rate_known : RateCodes → Bool
rate_known c = cond (c.code == 0) (nat_lt c.division 15 && nat_lt c.feel 3) (c.code == 1 && nat_lt c.x10 2)

abbrev pub span_known : SpanCodes → Bool
span_known c = cond (c.code == 1) (nat_lt c.division 15) (nat_lt c.code 3)

abbrev pub scale_known : ScaleCodes → Bool
scale_known c = nat_lt c.code 2

abbrev pub smooth_known : SmoothCodes → Bool
smooth_known c = nat_lt c.code 2

unfoldable pub settings_known : SettingsCodes → Bool
settings_known c =
    nat_lt c.kind 5
    && nat_lt c.mode 3
    && nat_lt c.direction 3
    && rate_known c.rate
    && nat_lt c.song_lock 2
    && nat_lt c.swing 2
    && nat_lt c.phase_snap 2
    && span_known c.fade_in
    && span_known c.delay
    && smooth_known c.smooth

unfoldable pub transport_known : TransportCodes → Bool
transport_known c = nat_lt c.playing 2 && scale_known c.scale

-- that the test says it, proved in proofs/Known.antt
abbrev pub SettingsKnownRule : Type 0
SettingsKnownRule = (c : SettingsCodes) → is_some (settings_at c) ≡ settings_known c

abbrev pub TransportKnownRule : Type 0
TransportKnownRule = (c : TransportCodes) → is_some (transport_at c) ≡ transport_known c
