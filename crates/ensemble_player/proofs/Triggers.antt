-- What asking for a restart gives, of the equations of what it calls. Assumes nothing.
use Rattle.std.proofs.Common.{◌≡◌, ℕ, ◌<◌, Bool, true, false, eqb, List, length, get_or, set, sym, refl, ap, ◌∙◌, subst, ap₂, arith, length-set, get_or-set_other, get_or-set_same, ltb-true, eqb-true, Option, Some, Ok, Err}
use borrow.Author.Tests.{eqb-false}
use Rattle.reach.specs.Bounds.{AnchorIn}
use Rattle.voice.specs.declared.Voice.{Voice}
use Rattle.ensemble.specs.declared.Member.{Member}
use Rattle.ensemble.specs.Ensemble.{no_member}
use Rattle.questions.specs.declared.question.Question.{Question}
use Rattle.questions.specs.Answers.{question_number}
use Rattle.questions.specs.Questions.{first_no}
use Rattle.questions.proofs.Facts.{passed}
use Rattle.ensemble_calls.specs.Ensembles.{VoiceRecord, with_pending, greatest, asked_ensemble}
use Rattle.ensemble_calls.specs.Questions.{trigger_questions}
use Rattle.ensemble_calls.specs.Calls.{trigger, questions, answer, accepted}
use Rattle.ensemble_player.specs.declared.Ensemble.{Ensemble}
use Rattle.ensemble_player.specs.Ensembles.{record_of, state_of, asked_member, with_decks, Valid}
use Rattle.ensemble_player.specs.Promises.{Changes}
use Rattle.ensemble_player.proofs.Voices.{get_or_before, count_is, voice_at, voices_set}
use Rattle.ensemble_player.proofs.Outcomes.{refused, changed}

module _ (e : Ensemble) (valid : Valid e) (v at : ℕ) where
  abbrev number : ℕ
  number = first_no (trigger_questions e.count v)

  number_is : number ≡ answer (state_of e) (trigger v at)
  unfolding answer questions
  number_is = ap (λ (n : ℕ). first_no (trigger_questions n v)) (sym (count_is e valid))

  pub trigger_refused : (q : Question) → question_number q ≡ number → Changes e (trigger v at) (Err q)
  trigger_refused q asked = refused e (trigger v at) q (asked ∙ number_is) valid

  module _ (asked : 0 ≡ number) where
    pub below : v < e.count
    below = ltb-true v e.count (unfold trigger_questions in (passed 15 _ _ (sym asked)).0)

    pub in_array : v < length e.decks.members
    in_array = omega (arith, below, valid.listed, valid.few)

    -- the ensemble that the code makes
    abbrev pub asking : Member → Option ℕ → Ensemble
    asking m p = with_decks e (record { server = e.decks.server; asked = p; members = set e.decks.members v m })

    module _ (d m : Member) (p : Option ℕ) (member : m ≡ asked_member (get_or e.decks.members v d) at) (greater : p ≡ greatest e.decks.asked at) where
      asked_is : state_of (asking m p) ≡ accepted (state_of e) (trigger v at)
      unfolding accepted asked_ensemble
      asked_is =
          ap₂ (λ (l : List VoiceRecord) (z : Option ℕ). record { lfo = (state_of e).lfo; shared = e.shared; voices = l; server = record { voice = e.decks.server.voice; pending = z }; played = e.decks.server.played })
          (voices_set e.count v e.decks.members m below
          ∙ ap (λ (r : VoiceRecord). set (state_of e).voices v r) (ap record_of member ∙ ap (λ (r : VoiceRecord). with_pending r (Some at)) (sym (voice_at e valid v below d))))
          greater

      same_anchor : (u : ℕ) → u < e.count → (t : Bool) → eqb u v ≡ t → (get_or (set e.decks.members v m) u no_member).voice ≡ (get_or e.decks.members u no_member).voice
      same_anchor u k true z =
          ap (λ (i : ℕ). (get_or (set e.decks.members v m) i no_member).voice) (eqb-true u v z) ∙ ap (λ (n : Member). n.voice) (get_or-set_same e.decks.members v m no_member in_array ∙ member)
          ∙ ap (λ (n : Member). n.voice) (get_or_before e.decks.members v d no_member in_array)
          ∙ ap (λ (i : ℕ). (get_or e.decks.members i no_member).voice) (sym (eqb-true u v z))
      same_anchor u k false z = ap (λ (n : Member). n.voice) (get_or-set_other e.decks.members v u m no_member (eqb-false u v z))

      asking_valid : Valid (asking m p)
      asking_valid =
          record {
            server_valid = valid.server_valid;
            listed = length-set e.decks.members v m ∙ valid.listed;
            several = valid.several;
            few = valid.few;
            members_in = λ (u : ℕ) (k : u < e.count). subst (λ (w : Voice). AnchorIn e.decks.server.played w.anchor) (sym (same_anchor u k (eqb u v) refl)) (valid.members_in u k);
          }

      pub trigger_done : Changes e (trigger v at) (Ok (asking m p))
      trigger_done = changed e (trigger v at) (asked ∙ number_is) (asking m p) asked_is asking_valid
