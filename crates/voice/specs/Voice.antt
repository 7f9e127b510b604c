-- A new voice, a voice as a stretch begins, and a voice restarted, as `LfoVoice::new`, `begin` and `trigger` of lfo/mod.rs have them. Assumes nothing.
use Rattle.std.specs.Prelude.{ℕ, true, cond, nat_lt, Float, None, Option, Some}
use Rattle.std.specs.Float.{binary32}
use Rattle.floatlaws.specs.Numbers.{f32_0, f64_1}
use Rattle.floatlaws.specs.Rounded.{◌÷₆₄◌, to_f64}
use Rattle.floatlaws.specs.Narrow.{narrowed}
use Rattle.clock.specs.declared.anchor.Anchor.{Anchor}
use Rattle.clock.specs.declared.block.Block.{Block}
use Rattle.clock.specs.Anchor.{new_anchor, begun_of, started_of}
use Rattle.clock.specs.Spans.{samples_of}
use Rattle.settings.specs.declared.choices.LfoType.{LfoType}
use Rattle.settings.specs.declared.choices.Mode.{Mode}
use Rattle.settings.specs.declared.choices.Mode.TheVariants.{Free, Restart, OneShot}
use Rattle.settings.specs.declared.record.Settings.{Settings}
use Rattle.voice.specs.declared.source.Source.{Source}
use Rattle.voice.specs.declared.output.Output.{Output}
use Rattle.voice.specs.declared.Voice.{Voice}
use Rattle.voice.specs.Source.{no_cycle, new_source, is_made_for, attractor_start, attractor_at, with_chaos}
use Rattle.voice.specs.Output.{new_output}

unfoldable pub new_voice : ℕ → Voice
new_voice seed = record { anchor = new_anchor; source = new_source seed; output = new_output; made_for = None }

-- ---- as a stretch begins at sample `from` of a block

-- an attractor that the voice did not last begin for starts at its start point
unfoldable pub begun_source : LfoType → Option LfoType → Source → Source
begun_source kind made s = cond (is_made_for made kind) s (with_chaos s (attractor_start kind s.chaos))

-- in Free mode the player's clock counts, and the anchor stays
unfoldable pub begun_anchor : Mode → Anchor → Block → ℕ → Anchor
begun_anchor Free a b from = a
begun_anchor Restart a b from = begun_of a b from
begun_anchor OneShot a b from = begun_of a b from

unfoldable pub begun_voice : Settings → Block → ℕ → Voice → Voice
begun_voice s b from v =
    record {
      anchor = begun_anchor s.mode v.anchor b from;
      source = begun_source s.kind v.made_for v.source;
      output = v.output;
      made_for = Some s.kind;
    }

-- ---- at a restart

-- from Phase, or where Song lock grounds it; in Free mode the anchor stays
unfoldable pub restarted_anchor : Mode → Anchor → Block → Anchor
restarted_anchor Free a b = a
restarted_anchor Restart a b = started_of b
restarted_anchor OneShot a b = started_of b

-- the random word and the held value stay, and the next sample draws; an attractor starts by Phase
abbrev pub fresh_source : LfoType → Float → Source → Source
fresh_source kind phase s = record { rng = s.rng; held = s.held; cycle = no_cycle; chaos = attractor_at kind phase s.chaos }

unfoldable pub restarted_source : Mode → LfoType → Float → Source → Source
restarted_source Free kind phase s = s
restarted_source Restart kind phase s = fresh_source kind phase s
restarted_source OneShot kind phase s = fresh_source kind phase s

unfoldable pub inverse_of : ℕ → Float
inverse_of fade = cond (nat_lt 0 fade) (narrowed binary32 (f64_1 ÷₆₄ to_f64 fade)) f32_0

-- Delay and Fade in start, in every mode, and the next sample sets the start values
unfoldable pub restarted_output : ℕ → ℕ → Output → Output
restarted_output delay fade o = record { t = 0; delay = delay; fade = fade; inv_fade = inverse_of fade; capture = true; x = o.x; y = o.y }

unfoldable pub triggered_voice : Settings → Block → Voice → Voice
triggered_voice s b v =
    record {
      anchor = restarted_anchor s.mode v.anchor b;
      source = restarted_source s.mode s.kind b.phase v.source;
      output = restarted_output (samples_of s.delay b) (samples_of s.fade_in b) v.output;
      made_for = v.made_for;
    }
