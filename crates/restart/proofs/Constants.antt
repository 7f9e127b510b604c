-- What a restart and the frames after it read of a block: with song lock not in force it comes from the settings and five fields of the transport alone. Assumes nothing.
use Rattle.std.specs.Prelude.{Option, None}
use Prim.Native.Nat.{ℕ}
use mathlib.Core.Path.{◌≡◌, refl, sym, ap, ◌∙◌}
use mathlib.Core.Bool.{false, ◌&&◌}
use lib.Ieee.{Float}
use Rattle.floatlaws.specs.Numbers.{f64_0}
use Rattle.settings.specs.declared.times.Scale.{Scale}
use Rattle.settings.specs.declared.record.Settings.{Settings}
use Rattle.settings.specs.declared.record.Transport.{Transport}
use Rattle.clock.specs.declared.block.Block.{Block}
use Rattle.clock.specs.declared.free.Clock.{Clock}
use Rattle.clock.specs.Free.{new_clock}
use Rattle.clock.specs.Pace.{tempo_of, song_lock_of}
use Rattle.clock.specs.Ready.{pace_at, lock_at, block_of, prepared_of}

-- a block without its length, its place in the song and the free clock
pub record Constants : Type 0 where
  pub inc : Float
  pub phase : Float
  pub beat : Float
  pub rate : Float
  pub bar : Float
  pub swing : Option Float
  pub smooth : Option Float
  pub chaos_h : Float
  pub chaos_steps : ℕ

abbrev pub constants_of : Block → Constants
constants_of b =
    record {
      inc = b.inc;
      phase = b.phase;
      beat = b.beats_per_sample;
      rate = b.sample_rate;
      bar = b.beats_per_bar;
      swing = b.swing;
      smooth = b.smooth;
      chaos_h = b.chaos_h;
      chaos_steps = b.chaos_steps;
    }

-- these fields: a transport without its place in the song, and whether it plays
pub record Pace : Type 0 where
  pub rate : Float
  pub tempo : Float
  pub bar : Float
  pub swing : Float
  pub scale : Scale

abbrev pub pace_of : Transport → Pace
pace_of t = record { rate = t.sample_rate; tempo = t.tempo; bar = t.beats_per_bar; swing = t.swing; scale = t.scale }

-- a transport of it, stopped
abbrev stopped : Pace → Transport
stopped p =
    record {
      sample_rate = p.rate;
      tempo = p.tempo;
      beats_per_bar = p.bar;
      playing = false;
      beats = f64_0;
      seconds = f64_0;
      swing = p.swing;
      scale = p.scale;
    }

constants_by : (s : Settings) (k : Clock) (t : Transport) (n : ℕ) → constants_of (prepared_of s k t n).block ≡ constants_of (prepared_of s new_clock (stopped (pace_of t)) 0).block
unfolding prepared_of block_of pace_at tempo_of
constants_by s k t n = refl

pub same_constants : (s : Settings) (k k' : Clock) (t t' : Transport) (n n' : ℕ) → pace_of t ≡ pace_of t'
    → constants_of (prepared_of s k t n).block ≡ constants_of (prepared_of s k' t' n').block
same_constants s k k' t t' n n' e =
    constants_by s k t n ∙ ap (λ (p : Pace). constants_of (prepared_of s new_clock (stopped p) 0).block) e ∙ sym (constants_by s k' t' n')

pub not_locked : (s : Settings) (k : Clock) (t : Transport) (n : ℕ) → (s.song_lock && t.playing) ≡ false → (prepared_of s k t n).block.song_lock ≡ None
unfolding prepared_of block_of lock_at song_lock_of
not_locked s k t n e = rw e refl
