-- What a call promises, of a refusal and of an acceptance. Assumes nothing.
use Rattle.std.specs.Prelude.{Ok, Err}
use Prim.Native.Nat.{ℕ}
use mathlib.Core.Path.{◌≡◌, refl, sym, ◌∙◌}
use mathlib.Core.Bool.{true, false, false≢true}
use borrow.Author.Tests.{eq-eqb, ne_eqb}
use Rattle.questions.specs.declared.question.Question.{Question}
use Rattle.questions.specs.Answers.{question_number}
use Rattle.questions.proofs.Numbers.{number_not_zero}
use Rattle.calls.specs.State.{State}
use Rattle.calls.specs.Calls.{Call, answer, accepts, accepted, step}
use Rattle.player.specs.declared.Player.{Player}
use Rattle.player.specs.Player.{state_of, Valid}
use Rattle.player.specs.Promises.{Changes}

module _ (p : State) (c : Call) (a : ℕ) (asked : a ≡ answer p c) where
  pub accepts_it : a ≡ 0 → accepts p c ≡ true
  accepts_it e = eq-eqb _ _ (sym asked ∙ e)

  pub refuses_it : (a ≡ 0 → ⊥) → accepts p c ≡ false
  refuses_it e = ne_eqb _ _ (λ (z : answer p c ≡ 0). e (asked ∙ z))

  pub step_accepted : a ≡ 0 → step p c ≡ accepted p c
  unfolding step
  step_accepted e = rw (accepts_it e)

  pub step_refused : (a ≡ 0 → ⊥) → step p c ≡ p
  unfolding step
  step_refused e = rw (refuses_it e)

-- a player that stays, or that is as an accepted call leaves it
module _ (p : Player) (c : Call) where
  pub refused : (q : Question) → question_number q ≡ answer (state_of p) c → Valid p → Changes p c (Err q)
  refused q asked v =
      record { answer_is = asked; state_is = sym (step_refused (state_of p) c _ asked (number_not_zero q)); kept = λ h. refl; valid = v }

  pub changed : 0 ≡ answer (state_of p) c → (r : Player) → state_of r ≡ accepted (state_of p) c → Valid r → Changes p c (Ok r)
  changed asked r is v =
      record {
        answer_is = asked;
        state_is = is ∙ sym (step_accepted (state_of p) c _ asked refl);
        kept = λ (h : accepts (state_of p) c ≡ false). absurd (false≢true (sym h ∙ accepts_it (state_of p) c _ asked refl));
        valid = v;
      }
