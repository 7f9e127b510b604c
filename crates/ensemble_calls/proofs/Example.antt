-- The hypotheses can be met: voice 1 of two voices and voice 1 of three, with other restarts asked of the others. Assumes nothing.
use Rattle.std.specs.Prelude.{Some}
use mathlib.Core.Path.{◌≡◌, refl}
use mathlib.Core.Bool.{false}
use mathlib.Core.List.{List, [], ◌∷◌}
use native.Mathlib.Omega.{arith}
use lib.Dec.{eqb}
use lib.ListN.{length, replicate}
use lib.Ieee.{Float, nan, of_bits, eq, lt, le}
use Rattle.floatlaws.specs.Numbers.{f32_½, f32_1}
use Rattle.listlaws.specs.Tables.{tabulate}
use Rattle.settings.specs.Times.{rate_at, span_at, scale_at}
use Rattle.settings.specs.Codes.{smooth_at, settings_at, transport_at, settings_known, transport_known}
use Rattle.questions.specs.Tests.{settings_finite, transport_finite, transport_in}
use Rattle.questions.specs.Questions.{first_no, settings_questions, bus_questions, phase_questions}
use Rattle.calls.specs.State.{new_state, with_settings, with_bus}
use Rattle.calls.specs.Calls as player
use Rattle.restart.proofs.Example.{drawn, here, there}
use Rattle.ensemble_calls.specs.Ensembles.{EnsembleState, new_ensemble, record_at, greatest, asked_ensemble}
use Rattle.ensemble_calls.specs.Blocks.{played_ensemble}
use Rattle.ensemble_calls.specs.Questions.{page_questions, trigger_questions, voice_phase_questions, play_questions}
use Rattle.ensemble_calls.specs.Calls.{Call, settings, bus, trigger, phase, block, questions, answer, count_for, made, accepted, step, after}
use Rattle.ensemble_calls.specs.Heard.{heard_in, plays, seen_of, seen}
use Rattle.ensemble_calls.proofs.NonInterference.{non_interference}

abbrev two : EnsembleState
two = made drawn 0 2 1

abbrev three : EnsembleState
three = made drawn 0 3 1

abbrev room : List Float
room = replicate 12 nan

-- restarts asked of both voices, a bus moved, shared on for a block, and a phase read
abbrev calls₁ : List Call
calls₁ =
    trigger 0 3 ∷ trigger 1 2 ∷ block here 4 room room ∷ bus 3 f32_½ ∷ settings drawn 1 ∷ trigger 0 0 ∷ block there 1 room room ∷ settings drawn 0 ∷ phase 0 here
    ∷ trigger 1 0 ∷ block there 2 room room ∷ []

-- the same of voice 1, with voices 0 and 2 restarted at other times, and calls that are refused
abbrev calls₂ : List Call
calls₂ =
    trigger 1 2 ∷ trigger 2 1 ∷ trigger 3 0 ∷ block here 4 room room ∷ bus 16 f32_1 ∷ bus 3 f32_½ ∷ settings drawn 1 ∷ block there 1 room room ∷ settings drawn 2
    ∷ settings drawn 0 ∷ trigger 0 1 ∷ block there 5 room room ∷ trigger 1 0 ∷ phase 2 there ∷ block there 2 room room ∷ []

same_seen : seen (eqb 1) two calls₁ ≡ seen (eqb 1) three calls₂
unfolding seen seen_of step accepted answer questions page_questions trigger_questions voice_phase_questions play_questions made player.made new_state count_for new_ensemble played_ensemble asked_ensemble greatest tabulate player.accepted with_settings with_bus first_no settings_questions bus_questions phase_questions settings_known settings_finite transport_known transport_finite transport_in settings_at rate_at span_at smooth_at transport_at scale_at lib.Ieee.neg le lt eq of_bits
same_seen = refl

-- of voice 0 the two lists ask for two restarts and for one
other_seen : length (seen (eqb 0) two calls₁) ∷ length (seen (eqb 0) three calls₂) ∷ [] ≡ 8 ∷ 7 ∷ []
unfolding seen seen_of step accepted answer questions page_questions trigger_questions voice_phase_questions play_questions made player.made new_state count_for new_ensemble played_ensemble asked_ensemble greatest tabulate player.accepted with_settings with_bus first_no settings_questions bus_questions phase_questions settings_known settings_finite transport_known transport_finite transport_in settings_at rate_at span_at smooth_at transport_at scale_at lib.Ieee.neg le lt eq of_bits
other_seen = refl

-- in each, two blocks are played with shared off
two_blocks : length (plays false 1 two calls₁) ∷ length (plays false 1 three calls₂) ∷ [] ≡ 2 ∷ 2 ∷ []
unfolding plays heard_in step accepted answer questions page_questions trigger_questions voice_phase_questions play_questions made player.made new_state count_for new_ensemble played_ensemble asked_ensemble greatest tabulate player.accepted with_settings with_bus first_no settings_questions bus_questions phase_questions settings_known settings_finite transport_known transport_finite transport_in settings_at rate_at span_at smooth_at transport_at scale_at lib.Ieee.neg le lt eq of_bits
two_blocks = refl

same_start : (two.lfo ≡ three.lfo) × (two.shared ≡ three.shared) × (record_at two 1 ≡ record_at three 1) × (length two.voices ≡ 2) × (length three.voices ≡ 3)
unfolding step accepted answer questions page_questions trigger_questions voice_phase_questions play_questions made player.made new_state count_for new_ensemble played_ensemble asked_ensemble greatest tabulate player.accepted with_settings with_bus first_no settings_questions bus_questions phase_questions settings_known settings_finite transport_known transport_finite transport_in settings_at rate_at span_at smooth_at transport_at scale_at lib.Ieee.neg le lt eq of_bits
same_start = (refl, refl, refl, refl, refl)

pub same_blocks : plays false 1 two calls₁ ≡ plays false 1 three calls₂
same_blocks =
    let s = same_start in
    (non_interference two three 1 1 (omega (arith, s.3)) (omega (arith, s.4)) (record { lfo = s.0; shared = s.1 }) s.2 calls₁ calls₂ same_seen).0

-- asked for 100 and then for 10, voice 0 restarts at 10 and the serving voice at 100
abbrev twice : List Call
twice = trigger 0 100 ∷ trigger 0 10 ∷ []

pub both_wait : (record_at (after two twice) 0).pending ∷ (after two twice).server.pending ∷ [] ≡ Some 10 ∷ Some 100 ∷ []
unfolding after step accepted answer questions page_questions trigger_questions voice_phase_questions play_questions made player.made new_state count_for new_ensemble played_ensemble asked_ensemble greatest tabulate player.accepted with_settings with_bus first_no settings_questions bus_questions phase_questions settings_known settings_finite transport_known transport_finite transport_in settings_at rate_at span_at smooth_at transport_at scale_at lib.Ieee.neg le lt eq of_bits
both_wait = refl
