-- Known settings and a known transport have what their codes stand for, field by field. Assumes nothing.
use Rattle.std.proofs.Common.{◌≡◌, T, sym, refl, subst, None, Option, Some}
use Rattle.std.specs.Option.{is_some}
use Rattle.settings.specs.Choices.{lfo_type_at, mode_at, direction_at, yes_no_at}
use Rattle.settings.specs.Times.{rate_at, span_at, scale_at}
use Rattle.settings.specs.Codes.{smooth_at, with_known, settings_at, transport_at, transport_known}
use Rattle.settings.specs.declared.record.Settings.{Settings}
use Rattle.codes.specs.declared.SettingsCodes.{SettingsCodes}
use Rattle.settings.specs.declared.record.Transport.{Transport}
use Rattle.codes.specs.declared.TransportCodes.{TransportCodes}
use Rattle.settings.proofs.Known.{transport_is_known}

-- what holds with a known choice, and of the answer where it is not known, holds of the answer
by_known : {A B : Type 0} (P : Option A → Type 0) → P None → (x : Option B) (f : B → Option A) → ((k : B) → x ≡ Some k → P (f k)) → P (with_known None x f)
by_known P unknown (Some k) f h = h k refl
by_known P unknown None f h = unknown

-- ---- settings

-- s is what the codes c stand for
pub record SettingsRead (c : SettingsCodes) (s : Settings) : Type 0 where
  pub kind : lfo_type_at c.kind ≡ Some s.kind
  pub mode : mode_at c.mode ≡ Some s.mode
  pub direction : direction_at c.direction ≡ Some s.direction
  pub rate : rate_at c.rate ≡ Some s.rate
  pub lock : yes_no_at c.song_lock ≡ Some s.song_lock
  pub swing : yes_no_at c.swing ≡ Some s.swing
  pub fade : span_at c.fade_in ≡ Some s.fade_in
  pub delay : span_at c.delay ≡ Some s.delay
  pub smooth : smooth_at c.smooth ≡ Some s.smooth
  pub phase : s.phase ≡ c.phase
  pub snap : yes_no_at c.phase_snap ≡ Some s.phase_snap
  pub grid : s.grid_x ≡ c.grid_x

abbrev Settings? : SettingsCodes → Option Settings → Type 0
Settings? c (Some s) = SettingsRead c s
Settings? c None = Unit

settings_by : (c : SettingsCodes) → Settings? c (settings_at c)
unfolding settings_at
settings_by c =
    by_known (Settings? c) tt (lfo_type_at c.kind) _ λ kind k.
    by_known (Settings? c) tt (mode_at c.mode) _ λ mode m.
    by_known (Settings? c) tt (direction_at c.direction) _ λ direction d.
    by_known (Settings? c) tt (rate_at c.rate) _ λ rate r.
    by_known (Settings? c) tt (yes_no_at c.song_lock) _ λ lock l.
    by_known (Settings? c) tt (yes_no_at c.swing) _ λ swing w.
    by_known (Settings? c) tt (yes_no_at c.phase_snap) _ λ snap n.
    by_known (Settings? c) tt (span_at c.fade_in) _ λ fade f.
    by_known (Settings? c) tt (span_at c.delay) _ λ delay e.
    by_known (Settings? c) tt (smooth_at c.smooth) _ λ smooth s.
    record { kind = k; mode = m; direction = d; rate = r; lock = l; swing = w; fade = f; delay = e; smooth = s; phase = refl; snap = n; grid = refl }

pub settings_read : (c : SettingsCodes) (s : Settings) → settings_at c ≡ Some s → SettingsRead c s
settings_read c s e = subst (Settings? c) e (settings_by c)

-- ---- a transport

-- t is what the codes c stand for
pub record TransportRead (c : TransportCodes) (t : Transport) : Type 0 where
  pub rate : t.sample_rate ≡ c.sample_rate
  pub tempo : t.tempo ≡ c.tempo
  pub bar : t.beats_per_bar ≡ c.beats_per_bar
  pub playing : yes_no_at c.playing ≡ Some t.playing
  pub beats : t.beats ≡ c.beats
  pub seconds : t.seconds ≡ c.seconds
  pub swing : t.swing ≡ c.swing
  pub scale : scale_at c.scale ≡ Some t.scale

abbrev Transport? : TransportCodes → Option Transport → Type 0
Transport? c (Some t) = TransportRead c t
Transport? c None = Unit

transport_by : (c : TransportCodes) → Transport? c (transport_at c)
unfolding transport_at
transport_by c =
    by_known (Transport? c) tt (yes_no_at c.playing) _ λ playing p.
    by_known (Transport? c) tt (scale_at c.scale) _ λ scale s.
    record { rate = refl; tempo = refl; bar = refl; playing = p; beats = refl; seconds = refl; swing = refl; scale = s }

pub transport_read : (c : TransportCodes) (t : Transport) → transport_at c ≡ Some t → TransportRead c t
transport_read c t e = subst (Transport? c) e (transport_by c)

-- known codes stand for one
pub transport_of : (c : TransportCodes) → T (transport_known c) → (t : Transport) × (transport_at c ≡ Some t)
transport_of c h = go (transport_at c) refl (subst T (sym (transport_is_known c)) h)
  where
    go : (z : Option Transport) → transport_at c ≡ z → T (is_some z) → (t : Transport) × (transport_at c ≡ Some t)
    go (Some t) e h = (t, e)
    go None e h = absurd h
