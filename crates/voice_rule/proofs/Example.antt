-- The hypotheses can be met: voice 0 of two voices, and voice 2 of three, which starts with shared on. Assumes nothing.
use Prim.Native.Nat.{ℕ, ◌<◌}
use mathlib.Core.Path.{◌≡◌, refl}
use mathlib.Core.Logic.{inl}
use mathlib.Core.Bool.{true}
use mathlib.Core.List.{List, [], ◌∷◌}
use native.Mathlib.Omega.{arith}
use lib.ListN.{length, get_or, replicate}
use lib.Ieee.{Float, nan, of_bits, eq, lt, le}
use Rattle.floatlaws.specs.Numbers.{f32_½}
use Rattle.listlaws.specs.Tables.{tabulate}
use Rattle.settings.specs.declared.choices.LfoType.TheVariants.{Drawn, SampleAndHold}
use Rattle.settings.specs.Times.{rate_at, span_at, scale_at, clamped_rate, clamped_span}
use Rattle.settings.specs.Codes.{smooth_at, settings_at, transport_at, settings_known, transport_known}
use Rattle.settings.specs.Records.{clamped_settings}
use Rattle.questions.specs.Tests.{settings_finite, transport_finite, transport_in}
use Rattle.questions.specs.Questions.{first_no, settings_questions, bus_questions, phase_questions}
use Rattle.calls.specs.State.{new_state, with_settings, with_bus, moved_buses}
use Rattle.calls.specs.Calls as player
use Rattle.restart.specs.Heard.{Side, x_side, y_side}
use Rattle.restart.specs.Rule.{transport_fields, none, more, Hypotheses}
use Rattle.restart.proofs.Example.{drawn, here, there}
use Rattle.ensemble_calls.specs.Ensembles.{EnsembleState, new_ensemble, greatest, asked_ensemble}
use Rattle.ensemble_calls.specs.Blocks.{playing, played_record, played_ensemble}
use Rattle.ensemble_calls.specs.Questions.{make_questions, page_questions, trigger_questions, voice_phase_questions, play_questions}
use Rattle.ensemble_calls.specs.Calls.{Call, settings, bus, trigger, phase, block, questions, answer, makes, count_for, made, accepted, step, after}
use Rattle.ensemble_calls.specs.Heard.{column, heard_of}
use Rattle.voice_rule.specs.Rule.{RestartOf, heard, window, frames_from, throughout, at_restart, VoiceMade}
use Rattle.voice_rule.proofs.VoiceRule.{voice_restart_rule}

abbrev two : EnsembleState
two = made drawn 0 2 1

abbrev room : List Float
room = replicate 12 nan

abbrev served : EnsembleState
served = made drawn 1 3 2

abbrev before₁ : List Call
before₁ = bus 3 f32_½ ∷ block here 3 room room ∷ trigger 1 0 ∷ trigger 0 1 ∷ []

abbrev rest₁ : List Call
rest₁ = trigger 1 0 ∷ block there 2 room room ∷ []

-- a block with shared on, then shared off, a restart that a later one replaces, and a restart of another voice
abbrev before₂ : List Call
before₂ = bus 3 f32_½ ∷ trigger 0 1 ∷ block there 2 room room ∷ settings drawn 0 ∷ block here 1 room room ∷ trigger 2 0 ∷ trigger 1 1 ∷ trigger 2 7 ∷ []

-- a block of no frames, and one in which the voice restarts again after three
abbrev rest₂ : List Call
rest₂ = trigger 0 1 ∷ block here 0 room room ∷ block there 1 room room ∷ phase 1 here ∷ trigger 2 3 ∷ block here 4 room room ∷ settings drawn 1 ∷ []

pub restart₁ : RestartOf 0 two
unfolding after playing played_record step accepted answer questions page_questions trigger_questions voice_phase_questions play_questions made player.made new_state count_for make_questions new_ensemble played_ensemble asked_ensemble greatest tabulate player.accepted with_settings with_bus first_no settings_questions bus_questions phase_questions settings_known settings_finite transport_known transport_finite transport_in settings_at rate_at span_at smooth_at transport_at scale_at lib.Ieee.neg le lt eq of_bits
restart₁ = record { before = before₁; transport = here; frames = 4; x = room; y = room; rest = rest₁; accepted = refl; frame = 1; waits = refl }

-- beyond the block's end
pub restart₂ : RestartOf 2 served
unfolding after playing played_record step accepted answer questions page_questions trigger_questions voice_phase_questions play_questions made player.made new_state count_for make_questions new_ensemble played_ensemble asked_ensemble greatest tabulate player.accepted with_settings with_bus first_no settings_questions bus_questions phase_questions settings_known settings_finite transport_known transport_finite transport_in settings_at rate_at span_at smooth_at transport_at scale_at lib.Ieee.neg le lt eq of_bits
restart₂ = record { before = before₂; transport = there; frames = 0; x = room; y = room; rest = rest₂; accepted = refl; frame = 7; waits = refl }

not_held : Drawn ≡ SampleAndHold → ⊥
not_held e = let z : ◌≡◌ {A = ℕ} 0 1 = cc in omega arith

met : Hypotheses (at_restart restart₁) (at_restart restart₂) (transport_fields here)
unfolding restart₁ restart₂ throughout window after playing played_record clamped_settings clamped_rate clamped_span moved_buses step accepted answer questions page_questions trigger_questions voice_phase_questions play_questions made player.made new_state count_for make_questions new_ensemble played_ensemble asked_ensemble greatest tabulate player.accepted with_settings with_bus first_no settings_questions bus_questions phase_questions settings_known settings_finite transport_known transport_finite transport_in settings_at rate_at span_at smooth_at transport_at scale_at lib.Ieee.neg le lt eq of_bits
met =
    record {
      mode = inl refl;
      equal = record {
        settings = refl;
        shape = record { count = refl; points = refl; loopback = refl };
        path = record { count = refl; points = refl; closed = refl };
        buses = refl;
      };
      gets₁ = more (record { same = refl; unlocked = refl }) (more (record { same = refl; unlocked = refl }) none);
      gets₂ =
          more (record { same = refl; unlocked = refl })
          (more (record { same = refl; unlocked = refl }) (more (record { same = refl; unlocked = refl }) (more (record { same = refl; unlocked = refl }) none)));
      words = λ (e : Drawn ≡ SampleAndHold). absurd (not_held e);
    }

makes_drawn : (makes drawn 0 2 ≡ true) × (makes drawn 1 3 ≡ true)
unfolding make_questions page_questions first_no settings_questions settings_known settings_finite of_bits
makes_drawn = (refl, refl)

abbrev voice₁ : VoiceMade
voice₁ = record { codes = drawn; shared = 0; count = 2; seed = 1; accepted = makes_drawn.0; voice = 0; in_count = omega arith }

abbrev voice₂ : VoiceMade
voice₂ = record { codes = drawn; shared = 1; count = 3; seed = 2; accepted = makes_drawn.1; voice = 2; in_count = omega arith }

-- the first plays five frames from its restart, and the second four before its next restart
five : (side : Side) → length (frames_from restart₁ side) ≡ 5
unfolding restart₁ frames_from heard heard_of column after playing played_record step accepted answer questions page_questions trigger_questions voice_phase_questions play_questions made player.made new_state count_for make_questions new_ensemble played_ensemble asked_ensemble greatest tabulate player.accepted with_settings with_bus first_no settings_questions bus_questions phase_questions settings_known settings_finite transport_known transport_finite transport_in settings_at rate_at span_at smooth_at transport_at scale_at lib.Ieee.neg le lt eq of_bits
five x_side = refl
five y_side = refl

four : (side : Side) → length (frames_from restart₂ side) ≡ 4
unfolding restart₂ frames_from heard heard_of column after playing played_record step accepted answer questions page_questions trigger_questions voice_phase_questions play_questions made player.made new_state count_for make_questions new_ensemble played_ensemble asked_ensemble greatest tabulate player.accepted with_settings with_bus first_no settings_questions bus_questions phase_questions settings_known settings_finite transport_known transport_finite transport_in settings_at rate_at span_at smooth_at transport_at scale_at lib.Ieee.neg le lt eq of_bits
four x_side = refl
four y_side = refl

-- so the first four frames are the same
pub same_four : (side : Side) (n : ℕ) → n < 4 → get_or (frames_from restart₁ side) n nan ≡ get_or (frames_from restart₂ side) n nan
same_four side n h =
    voice_restart_rule voice₁ voice₂ restart₁ restart₂ (transport_fields here) met side n (omega (arith, five side)) (omega (arith, four side))
