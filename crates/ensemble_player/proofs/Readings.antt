-- What reading the phase of a voice gives, of the equations of what it calls. Assumes nothing.
use Rattle.std.proofs.Common.{◌≡◌, ℕ, ◌<◌, true, false, [], ◌∷◌, get_or, sym, refl, ap, ◌∙◌, ltb-true, None, Option, Some, Err}
use Rattle.codes.specs.declared.TransportCodes.{TransportCodes}
use Rattle.settings.specs.declared.record.Transport.{Transport}
use Rattle.settings.specs.Codes.{transport_at}
use Rattle.ensemble.specs.declared.Member.{Member}
use Rattle.questions.specs.Questions.{first_no, phase_questions}
use Rattle.questions.specs.declared.question.Question.{Question}
use Rattle.questions.specs.Answers.{question_number, answer_with, result_answer, one_value}
use Rattle.questions.proofs.Facts.{passed}
use Rattle.questions.proofs.Results.{refusal_is}
use Rattle.calls.specs.State.{State}
use Rattle.calls.specs.Blocks.{phase_at}
use Rattle.calls.specs.Calls as calls
use Rattle.calls.specs.Calls.{by_transport}
use Rattle.player.specs.Player.{state_of as playerState}
use Rattle.player.specs.Readings.{phase_answer}
use Rattle.ensemble_calls.specs.Ensembles.{VoiceRecord, EnsembleState}
use Rattle.ensemble_calls.specs.Blocks.{player_of, playing}
use Rattle.ensemble_calls.specs.Questions.{voice_phase_questions}
use Rattle.ensemble_calls.specs.Calls.{phase, questions, answer, voice_phase}
use Rattle.ensemble_player.specs.declared.Ensemble.{Ensemble}
use Rattle.ensemble_player.specs.Ensembles.{state_of, server_of, voice_player, Valid}
use Rattle.ensemble_player.specs.Readings.{voice_phase_answer}
use Rattle.ensemble_player.proofs.Voices.{count_is, voice_at}

module _ (e : Ensemble) (valid : Valid e) (v : ℕ) (c : TransportCodes) where
  abbrev S : EnsembleState
  S = state_of e

  abbrev number : ℕ
  number = first_no (voice_phase_questions e.count v c)

  number_is : number ≡ answer S (phase v c)
  unfolding answer questions
  number_is = ap (λ (n : ℕ). first_no (voice_phase_questions n v c)) (sym (count_is e valid))

  pub phase_refused : (q : Question) → question_number q ≡ number → result_answer one_value (Err q) ≡ voice_phase_answer S v c
  unfolding voice_phase_answer
  phase_refused q asked = refusal_is one_value q _ _ (asked ∙ number_is)

  module _ (asked : 0 ≡ number) where
    pub below : v < e.count
    below = ltb-true v e.count (unfold voice_phase_questions in (passed 15 _ _ (sym asked)).0)

    passes : first_no (phase_questions c) ≡ 0
    passes = unfold voice_phase_questions in (passed 15 _ (phase_questions c) (sym asked)).1

    -- of the player that plays for the voice
    by_player : (p : State) → ((t : Transport) → phase_at p t ≡ voice_phase S v t) → phase_answer p c ≡ voice_phase_answer S v c
    unfolding phase_answer voice_phase_answer calls.answer calls.questions
    by_player p same = rw (passes, ← (asked ∙ number_is)) (go (transport_at c))
      where
        go : (k : Option Transport) → answer_with 0 (by_transport [] k (λ t. phase_at p t ∷ [])) ≡ answer_with 0 (by_transport [] k (λ t. voice_phase S v t ∷ []))
        go (Some t) = rw (same t)
        go None = refl

    pub shared_phase : e.shared ≡ true → phase_answer (playerState (server_of e)) c ≡ voice_phase_answer S v c
    shared_phase on = by_player (playerState (server_of e)) (λ t. unfold voice_phase playing in rw on refl)

    pub own_phase : e.shared ≡ false → (d : Member) → phase_answer (playerState (voice_player (server_of e) (get_or e.decks.members v d).voice)) c ≡ voice_phase_answer S v c
    own_phase off d =
        by_player (playerState (voice_player (server_of e) (get_or e.decks.members v d).voice))
        (λ t. unfold voice_phase playing in rw off (ap (λ (r : VoiceRecord). phase_at (player_of S r) t) (sym (voice_at e valid v below d))))
