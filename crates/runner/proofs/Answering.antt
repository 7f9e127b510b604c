-- What a call says. Assumes nothing.
use Prim.Native.Nat.{ℕ}
use mathlib.Core.Path.{◌≡◌, refl, sym, ap, ◌∙◌, subst}
use mathlib.Core.Bool.{Bool, true, false, cond}
use mathlib.Core.List.{List, [], ◌∷◌}
use Rattle.std.specs.Prelude.{Some, Result, Ok, Err}
use Rattle.std.specs.Result.{result_unwrap_or}
use Rattle.codes.specs.declared.TransportCodes.{TransportCodes}
use Rattle.questions.specs.declared.question.Question.{Question}
use Rattle.questions.specs.Answers.{answer_of}
use Rattle.calls.specs.State.{State}
use Rattle.calls.specs.Calls.{Call, answer, accepts, accepted, step}
use Rattle.calls.specs.Calls as Calls
use Rattle.fields.specs.Parser.{Parsed, read}
use Rattle.player.specs.declared.Player.{Player}
use Rattle.player.specs.Player.{state_of, Valid}
use Rattle.player.specs.Promises.{player_after, Changes}
use Rattle.run_calls.specs.declared.Next.{Next}
use Rattle.run_calls.specs.declared.Went.{Went}
use Rattle.run_calls.specs.Turns.{turn_of, Says, Turns, given_of}
use Rattle.run_calls.proofs.Turning.{answered}
use Rattle.runner.specs.Asked.{Asked, call}
use Rattle.runner.specs.Numbers.{call_numbers, numbers, state_after}
use Rattle.runner.specs.Output.{players}

-- a call that sets something
pub edit_answered : (run : List ℕ) {p : Player} {c : Call} {r : Result Player Question} → Changes p c r
    → call_numbers (state_of p) c ≡ answer (state_of p) c ∷ [] → {v : Parsed Asked} {at : ℕ} → read (call c) at ≡ v
    → {n : Next Player} → n ≡ record { at = at; player = result_unwrap_or r p }
    → {x : List ℕ} {place : ℕ} {went : Went} {y : List ℕ} → Says x place (answer_of r ∷ []) went y
    → Turns players state_of Valid run (given_of players state_of p run v) x place (turn_of went (Some n)) y
unfolding numbers state_after
edit_answered run {p} {c} {r} w e {at = at} is next s =
    rw next
    (answered players state_of Valid run p (record { at = at; player = result_unwrap_or r p }) is
    (e ∙ ap (λ n. n ∷ []) (sym w.answer_is))
    (sym w.state_is)
    w.valid
    s)

-- where the phase is read the player stays
pub phase_stays : (p : State) (t : TransportCodes) → step p (Calls.phase t) ≡ p
unfolding step accepted
phase_stays p t = by_answer (accepts p (Calls.phase t))
  where
    by_answer : (b : Bool) → cond b p p ≡ p
    by_answer true = refl
    by_answer false = refl
