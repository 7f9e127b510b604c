-- The numbers of a block. Assumes nothing.
use Prim.Native.Nat.{ℕ}
use mathlib.Core.Path.{◌≡◌}
use mathlib.Core.Bool.{false}
use mathlib.Core.List.{List, [], ◌∷◌}
use borrow.Author.Tests.{ne_eqb}
use lib.Dec.{eqb}
use lib.Ieee.{Float}
use Rattle.std.specs.Prelude.{Ok, Err}
use Rattle.codes.specs.declared.TransportCodes.{TransportCodes}
use Rattle.codes.specs.declared.RestartCodes.{RestartCodes}
use Rattle.questions.specs.declared.question.Question.{Question}
use Rattle.questions.specs.Answers.{question_number}
use Rattle.questions.proofs.Numbers.{number_not_zero}
use Rattle.calls.specs.Calls.{block}
use Rattle.replies.specs.Replies.{listed}
use Rattle.outputs.specs.Numbers.{flag_of}
use Rattle.player.specs.declared.Player.{Player}
use Rattle.player.specs.declared.Played.{Played}
use Rattle.player.specs.Player.{state_of}
use Rattle.player.specs.Promises.{Plays}
use Rattle.runner.specs.Numbers.{block_numbers, call_numbers}

module _ {p : Player} {t : TransportCodes} {frames : ℕ} {at : RestartCodes} {x y : List Float} {x' y' : List Float} where
  pub played_numbers : {r : Played} → Plays p t frames at x y (Ok r) x' y'
      → call_numbers (state_of p) (block t frames at x y) ≡ listed (0 ∷ flag_of r.finished ∷ []) x' y'
  unfolding call_numbers block_numbers
  played_numbers w = rw (w.x_is, w.y_is, ← w.answer_is, w.finished_is)

  pub refused_numbers : {q : Question} → Plays p t frames at x y (Err q) x' y'
      → call_numbers (state_of p) (block t frames at x y) ≡ listed (question_number q ∷ []) x' y'
  unfolding call_numbers block_numbers
  refused_numbers {q} w =
      let no : eqb (question_number q) 0 ≡ false = ne_eqb _ 0 (number_not_zero q) in
      rw (w.x_is, w.y_is, ← w.answer_is, no)
