-- The limits of spans and of steps, for every player that calls have reached. Assumes nothing.
use Rattle.std.specs.Prelude.{ℕ, ◌^◌, ◌≤◌, ◌≡◌, T, Float, Option, Some}
use Rattle.std.specs.Float.Ieee.{eq}
use Rattle.floatlaws.specs.Numbers.{f64_0}
use Rattle.chaos.specs.Start.{step_count}
use Rattle.chaos.specs.declared.law.Attractor.{Attractor}
use Rattle.chaos.specs.Advance.{advanced}
use Rattle.settings.specs.declared.choices.LfoType.{LfoType}
use Rattle.settings.specs.declared.choices.LfoType.TheVariants.{Lorenz, Rossler}
use Rattle.settings.specs.declared.division.Division.{Division}
use Rattle.settings.specs.declared.times.Span.TheVariants as Span
use Rattle.settings.specs.declared.record.Settings.{Settings}
use Rattle.settings.specs.declared.record.Transport.{Transport}
use Rattle.clock.specs.Spans.{samples_of}
use Rattle.voice.specs.declared.output.Output.{Output}
use Rattle.calls.specs.Blocks.{prepared, played_state}
use Rattle.player.specs.declared.Player.{Player}
use Rattle.player.specs.Player.{state_of}
use Rattle.reached.specs.Traces.{History}
use Rattle.reached.specs.Players.{AcceptedBlock}
use Rattle.reached.specs.Frames.{nth_voice, nth_frame}

-- ---- spans

-- "At tempo 0 a synced span is 10^15", 0 or −0
abbrev pub StoppedSpans : Type 0
StoppedSpans =
    (p : Player) (t : Transport) (frames : ℕ) (at : Option ℕ) → AcceptedBlock p t frames at → T (eq t.tempo f64_0)
    → (d : Division) → samples_of (Span.Synced d) (prepared (state_of p) t frames at).block ≡ 10 ^ 15

-- and so are the delay and the fade that a restart stores, as the block leaves them
pub record Stores (s : Settings) (o : Output) : Type 0 where
  pub delay_is : (d : Division) → s.delay ≡ Span.Synced d → o.delay ≡ 10 ^ 15
  pub fade_is : (d : Division) → s.fade_in ≡ Span.Synced d → o.fade ≡ 10 ^ 15

abbrev pub StoppedRestarts : Type 0
StoppedRestarts =
    (p : Player) (t : Transport) (frames n : ℕ) → AcceptedBlock p t frames (Some n) → T (eq t.tempo f64_0)
    → Stores p.page.settings (played_state (state_of p) t frames (Some n)).voice.output

-- ---- steps

-- the type that plays an attractor
abbrev pub attractor : Attractor → LfoType
attractor Attractor.Lorenz = Lorenz
attractor Attractor.Rossler = Rossler

-- "Heun's method in f32, 1 to 16 steps a sample": every frame of a block takes an attractor's state on by so many steps, of a length h
pub record Advances (p : Player) (t : Transport) (frames : ℕ) (at : Option ℕ) (which : Attractor) : Type 0 where
  pub steps : ℕ
  pub at_least : 1 ≤ steps
  pub at_most : steps ≤ 16
  pub advances : (k : ℕ) → (h : Float)
      × ((nth_frame (state_of p) t frames at k).voice.source.chaos ≡ advanced which (nth_voice (state_of p) t frames at k).source.chaos h steps)

abbrev pub StepsASample : Type 0
StepsASample =
    (p : Player) (t : Transport) (frames : ℕ) (at : Option ℕ) → History p → AcceptedBlock p t frames at
    → (which : Attractor) → p.page.settings.kind ≡ attractor which → Advances p t frames at which

-- "start phase up to 117 steps": of either attractor, from the phase of any block of the player
abbrev pub StartSteps : Type 0
StartSteps =
    (p : Player) → History p → (t : Transport) (frames : ℕ) (at : Option ℕ) (which : Attractor) → step_count which (prepared (state_of p) t frames at).block.phase ≤ 117
