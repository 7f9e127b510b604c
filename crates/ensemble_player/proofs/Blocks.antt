-- What playing a block gives, of the equations of what it calls. Assumes nothing.
use Rattle.std.proofs.Common.{◌≡◌, ℕ, ◌+◌, ◌-◌, ◌≤◌, Bool, false, List, ◌++◌, map, length, take, replicate, sym, refl, ap, ◌∙◌, subst, arith, None, Some, Ok, Err}
use mathlib.Core.Bool.{false≢true}
use lib.ListN.{length-replicate, replicate-append-replicate}
use lib.Ieee.{Float}
use Rattle.listlaws.specs.Tables.{padded}
use Rattle.codes.specs.declared.TransportCodes.{TransportCodes}
use Rattle.settings.specs.declared.record.Transport.{Transport}
use Rattle.settings.specs.Codes.{transport_at}
use Rattle.questions.specs.declared.question.Question.{Question}
use Rattle.questions.specs.Answers.{question_number}
use Rattle.questions.specs.Questions.{first_no}
use Rattle.questions.proofs.Facts.{transport_given}
use Rattle.questions.proofs.Numbers.{number_not_zero}
use Rattle.voice.specs.Frame.{Frame}
use Rattle.ensemble_calls.specs.Ensembles.{EnsembleState}
use Rattle.ensemble_calls.specs.Questions.{play_questions}
use Rattle.ensemble_calls.specs.Calls.{Call, block, questions, answer, accepts, accepted, played, buffer, none_finished, finished_by}
use Rattle.ensemble_calls.proofs.Blocks.{Taken, taken}
use Rattle.ensemble_player.specs.declared.Decks.{Decks}
use Rattle.ensemble_player.specs.declared.Ensemble.{Ensemble}
use Rattle.ensemble_player.specs.Ensembles.{state_of, Valid}
use Rattle.ensemble_player.specs.Plays.{Plays, Ready, ReadyAt, PlaysBlock}
use Rattle.ensemble_player.proofs.Voices.{count_is}
use Rattle.ensemble_player.proofs.Outcomes.{accepts_it, refuses_it, step_accepted, step_refused}

-- what an accepted block answered yes to
pub facts : {e : Ensemble} {c : TransportCodes} {n : ℕ} {x y : List Float} → Ready e c n x y → Taken e.count e.decks.server.played c n (length x) (length y)
facts {e} {c} {n} {x} {y} h =
    subst (λ (k : ℕ). Taken k e.decks.server.played c n (length x) (length y)) (count_is e h.valid) (taken (state_of e) c n x y h.accepted)

none_finished_lem : (count : ℕ) → count ≤ 16 → replicate 16 false ≡ padded 16 false (replicate count false)
none_finished_lem count h =
    let e : count + (16 - count) ≡ 16 = omega arith in
    ap (λ (n : ℕ). replicate n false) (sym e) ∙ sym (replicate-append-replicate count (16 - count) false)
    ∙ ap (λ (n : ℕ). replicate count false ++ replicate (16 - n) false) (sym (length-replicate count false))

module _ (e : Ensemble) (valid : Valid e) (c : TransportCodes) (n : ℕ) (x y : List Float) where
  abbrev S : EnsembleState
  S = state_of e

  abbrev call : Call
  call = block c n x y

  abbrev number : ℕ
  number = first_no (play_questions e.count e.decks.server.played c n (length x) (length y))

  number_is : number ≡ answer S call
  unfolding answer questions
  number_is = ap (λ (k : ℕ). first_no (play_questions k e.decks.server.played c n (length x) (length y))) (sym (count_is e valid))

  no_list : replicate 16 false ≡ padded 16 false (none_finished S)
  no_list = none_finished_lem e.count valid.few ∙ ap (λ (k : ℕ). padded 16 false (replicate k false)) (sym (count_is e valid))

  none_finish : accepts S call ≡ false → replicate 16 false ≡ padded 16 false (finished_by S c n x y)
  unfolding finished_by
  none_finish h = rw h no_list

  buffer_stays : accepts S call ≡ false → (f : Frame → Float) (l : List Float) → l ≡ buffer S c n x y f l
  unfolding buffer
  buffer_stays h f l = rw h

  -- the decks stay, and so do the buffers
  pub block_refused : (q : Question) → question_number q ≡ number → Plays e c n x y (Err q) x y
  block_refused q asked =
      let put = asked ∙ number_is in
      let no = refuses_it S call _ put (number_not_zero q) in
      record {
        answer_is = put;
        state_is = sym (step_refused S call _ put (number_not_zero q));
        kept = λ k. refl;
        finished_is = none_finish no;
        x_is = buffer_stays no (λ f. f.x) x;
        y_is = buffer_stays no (λ f. f.y) y;
        valid = valid;
      }

  module _ (asked : 0 ≡ number) where
    put : 0 ≡ answer S call
    put = asked ∙ number_is

    pub block_ready : Ready e c n x y
    block_ready = record { valid = valid; accepted = accepts_it S call _ put refl }

    -- each code is known
    pub block_known : transport_at c ≡ None → ⊥
    block_known = transport_given c (facts block_ready).transport

    module _ (t : Transport) (known : transport_at c ≡ Some t) where
      pub block_ready_at : ReadyAt e t n x y
      block_ready_at = record { codes = c; known = known; ready = block_ready }

      pub block_played : (fin : List Bool) (r : Decks) (x' y' : List Float) → PlaysBlock e t n x y r x' y'
          → fin ≡ padded 16 false (map (λ m. m.finished) (take e.count r.members)) → Plays e c n x y (Ok (record { finished = fin; decks = r })) x' y'
      block_played fin r x' y' p done =
          let yes = block_ready.accepted in
          record {
            answer_is = put;
            state_is = p.state_is ∙ sym (step_accepted S call _ put refl ∙ unfold accepted in rw known);
            kept = λ (k : accepts S call ≡ false). absurd (false≢true (sym k ∙ yes));
            finished_is = unfold finished_by in rw (yes, known) (done ∙ ap (padded 16 false) p.finished_is);
            x_is = unfold buffer played in rw (yes, known, count_is e valid) p.x_is;
            y_is = unfold buffer played in rw (yes, known, count_is e valid) p.y_is;
            valid = p.valid;
          }
