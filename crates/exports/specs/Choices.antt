-- Choices as numbers, and the transport of a song position. Assumes nothing.
use Rattle.std.specs.Prelude.{ℕ, ◌+◌, Bool, true, false, Float}
use Rattle.std.specs.Float.{nan}
use Rattle.floatlaws.specs.Numbers.{f32_0, f64_4}
use Rattle.settings.specs.Times.{default_scale}
use Rattle.settings.specs.declared.division.Division.{Division}
use Rattle.settings.specs.declared.times.Rate.{Rate}
use Rattle.settings.specs.declared.times.Rate.TheVariants.{Synced, Hz}
use Rattle.settings.specs.declared.times.Span.{Span}
use Rattle.settings.specs.declared.record.Transport.{Transport}

abbrev pub yes_number : Bool → ℕ
yes_number true = 1
yes_number false = 0

abbrev pub division_number : Division → ℕ
division_number d = d.0

abbrev pub hertz : Rate → Float
hertz (Synced d f) = nan
hertz (Hz hz x10) = hz

abbrev pub span_number : Span → ℕ
span_number Span.Off = 0
span_number (Span.Synced d) = 1 + division_number d
span_number (Span.Seconds s) = 255

-- a playing host at a song position, in beats and in seconds
abbrev pub song_at : Float → Float → Float → Float → Transport
song_at rate tempo beats seconds =
    record {
      sample_rate = rate;
      tempo = tempo;
      beats_per_bar = f64_4;
      playing = true;
      beats = beats;
      seconds = seconds;
      swing = f32_0;
      scale = default_scale;
    }
