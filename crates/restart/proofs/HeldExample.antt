-- The hypotheses can be met in Sample and Hold: two lists from one seed, with one draw before each restart, in an earlier block and in the restart's own. The words are equal at the
-- restarts and not at the starts of their blocks. Assumes nothing.
use Prim.Native.Nat.{ℕ, ◌<◌}
use mathlib.Core.Path.{◌≡◌, refl}
use mathlib.Core.Logic.{inr}
use mathlib.Core.Bool.{true, false}
use mathlib.Core.List.{List, [], ◌∷◌}
use native.Mathlib.Omega.{arith}
use lib.Dec.{eqb}
use lib.ListN.{length, get_or}
use lib.Ieee.{nan, of_bits, eq, lt, le}
use Rattle.floatlaws.specs.Numbers.{f32_0, f32_1}
use Rattle.random.specs.Mix.{xor_shr, next_state, finalised, mixed}
use Rattle.random.specs.Draw.{xor_shl, stepped}
use Rattle.random.specs.Draw as random
use Rattle.codes.specs.declared.SettingsCodes.{SettingsCodes}
use Rattle.settings.specs.Times.{rate_at, span_at, scale_at, clamped_rate, clamped_span}
use Rattle.settings.specs.Codes.{smooth_at, settings_at, transport_at, settings_known, transport_known}
use Rattle.settings.specs.Records.{clamped_settings}
use Rattle.voice.specs.Source.{new_source, sampled_of, same_cycle, cycle_of}
use Rattle.voice.specs.Generate.{source_after}
use Rattle.voice.specs.Frame.{frame_of}
use Rattle.voice.specs.Voice.{new_voice, begun_source, begun_voice}
use Rattle.bank.specs.Render.{voice_after, outs}
use Rattle.bank.specs.Parts.{begun, parts_voice, parts_outs}
use Rattle.questions.specs.Tests.{settings_finite, transport_finite, transport_in}
use Rattle.questions.specs.Questions.{first_no, settings_questions, block_questions}
use Rattle.calls.specs.State.{State, new_state, with_settings}
use Rattle.calls.specs.Blocks.{pending_of, played_state, values}
use Rattle.calls.specs.Calls.{Call, settings, block, questions, answer, makes, made, accepted, step, after, played, buffer}
use Rattle.restart.specs.Heard.{Side, x_side, y_side, read, heard, window}
use Rattle.restart.specs.Rule.{RestartFrom, word_after, state_at, frames_from, throughout, at_restart, word_at, transport_fields, none, more, Hypotheses, JustMade}
use Rattle.restart.proofs.RestartRule.{restart_rule}
use Rattle.restart.proofs.Example.{hertz, off, unsmoothed, drawn, here, there, never, at, room, makes_drawn}

-- Sample and Hold in mode One-shot
abbrev held : SettingsCodes
held =
    record {
      kind = 4;
      mode = 2;
      direction = 0;
      rate = hertz f32_1;
      song_lock = 0;
      swing = 0;
      fade_in = off;
      delay = off;
      smooth = unsmoothed;
      phase = f32_0;
      phase_snap = 0;
      grid_x = 0;
    }

-- the draw in a block before the restart's
abbrev before₁ : List Call
before₁ = block here 3 never room room ∷ settings held ∷ block here 1 never room room ∷ []

pub restart₁ : RestartFrom (made drawn 7)
unfolding after step answer questions first_no settings_questions block_questions settings_known settings_finite transport_known transport_finite transport_in settings_at rate_at span_at smooth_at transport_at scale_at accepted played_state made new_state lib.Ieee.neg le lt eq of_bits with_settings pending_of
restart₁ = record { before = before₁; transport = here; frames = 2; restart = at 0; x = room; y = room; rest = []; accepted = refl; carried = refl }

-- the draw in the restart's block, before its frame
pub restart₂ : RestartFrom (made held 7)
unfolding after step answer questions first_no settings_questions block_questions settings_known settings_finite transport_known transport_finite transport_in settings_at rate_at span_at smooth_at transport_at scale_at accepted played_state made new_state lib.Ieee.neg le lt eq of_bits with_settings pending_of
restart₂ =
    record { before = []; transport = there; frames = 2; restart = at 1; x = room; y = room; rest = block there 1 never room room ∷ []; accepted = refl; carried = refl }

words : word_at restart₁ ≡ word_at restart₂
unfolding restart₁ restart₂ word_at begun begun_voice begun_source voice_after frame_of source_after sampled_of same_cycle cycle_of parts_voice new_voice new_source clamped_settings after step answer questions first_no settings_questions block_questions settings_known settings_finite transport_known transport_finite transport_in settings_at rate_at span_at smooth_at transport_at scale_at accepted played_state made new_state lib.Ieee.neg le lt eq of_bits with_settings pending_of
words = refl

-- of the player that a restart's block gets, the word at the block's start
abbrev word_at_start : {p : State} → RestartFrom p → ℕ
word_at_start r = word_after (state_at r) r.transport r.frames 0

pub words_at_starts : eqb (word_at_start restart₁) (word_at_start restart₂) ≡ false
unfolding restart₁ restart₂ begun begun_voice begun_source voice_after frame_of source_after sampled_of same_cycle cycle_of parts_voice new_voice new_source clamped_settings random.drawn stepped xor_shl xor_shr mixed finalised next_state after step answer questions first_no settings_questions block_questions settings_known settings_finite transport_known transport_finite transport_in settings_at rate_at span_at smooth_at transport_at scale_at accepted played_state made new_state lib.Ieee.neg le lt eq of_bits with_settings pending_of
words_at_starts = refl

makes_held : makes held ≡ true
unfolding first_no settings_questions settings_known settings_finite of_bits
makes_held = refl

abbrev player₁ : JustMade
player₁ = record { codes = drawn; seed = 7; accepted = makes_drawn }

abbrev player₂ : JustMade
player₂ = record { codes = held; seed = 7; accepted = makes_held }

met : Hypotheses (at_restart restart₁) (at_restart restart₂) (transport_fields here)
unfolding restart₁ restart₂ throughout window clamped_settings clamped_rate clamped_span after step answer questions first_no settings_questions block_questions settings_known settings_finite transport_known transport_finite transport_in settings_at rate_at span_at smooth_at transport_at scale_at accepted played_state made new_state lib.Ieee.neg le lt eq of_bits with_settings pending_of
met =
    record {
      mode = inr refl;
      equal = record {
        settings = refl;
        shape = record { count = refl; points = refl; loopback = refl };
        path = record { count = refl; points = refl; closed = refl };
        buses = refl;
      };
      gets₁ = more (record { same = refl; unlocked = refl }) none;
      gets₂ = more (record { same = refl; unlocked = refl }) (more (record { same = refl; unlocked = refl }) none);
      words = λ e. words;
    }

-- both play two frames
two₁ : (side : Side) → length (frames_from restart₁ side) ≡ 2
unfolding restart₁ frames_from heard read buffer played values parts_outs outs after step answer questions first_no settings_questions block_questions settings_known settings_finite transport_known transport_finite transport_in settings_at rate_at span_at smooth_at transport_at scale_at accepted played_state made new_state lib.Ieee.neg le lt eq of_bits with_settings pending_of
two₁ x_side = refl
two₁ y_side = refl

two₂ : (side : Side) → length (frames_from restart₂ side) ≡ 2
unfolding restart₂ frames_from heard read buffer played values parts_outs outs after step answer questions first_no settings_questions block_questions settings_known settings_finite transport_known transport_finite transport_in settings_at rate_at span_at smooth_at transport_at scale_at accepted played_state made new_state lib.Ieee.neg le lt eq of_bits with_settings pending_of
two₂ x_side = refl
two₂ y_side = refl

pub same_two : (side : Side) (n : ℕ) → n < 2
    → get_or (frames_from restart₁ side) n nan ≡ get_or (frames_from restart₂ side) n nan
same_two side n h =
    restart_rule player₁ player₂ restart₁ restart₂ (transport_fields here) met side n (omega (arith, two₁ side)) (omega (arith, two₂ side))
