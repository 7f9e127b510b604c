-- A player through a list of calls, with what each call gave and the contract that it met. Assumes nothing.
use Rattle.std.specs.Prelude.{ℕ, ◌≡◌, true, List, [], ◌∷◌, Float, Result}
use Rattle.codes.specs.declared.SettingsCodes.{SettingsCodes}
use Rattle.codes.specs.declared.TransportCodes.{TransportCodes}
use Rattle.codes.specs.declared.RestartCodes.{RestartCodes}
use Rattle.questions.specs.declared.question.Question.{Question}
use Rattle.questions.specs.Answers.{result_answer, one_value}
use Rattle.calls.specs.Calls.{Call, phase, block, is_edit}
use Rattle.player.specs.declared.Player.{Player}
use Rattle.player.specs.declared.Played.{Played}
use Rattle.player.specs.Player.{state_of, with_deck, Valid}
use Rattle.player.specs.Promises.{first_player, Makes, player_after, Changes, deck_after, Plays}
use Rattle.player.specs.Readings.{phase_answer}

-- "Every call gets the player as the last one returned or left it, and nobody else writes it meanwhile." Each call has what it gave, a block also the buffers as it left
-- them (x' and y'), and of these what its contract in crate `player` ensures. From the player p the calls lead to q.
pub data Trace : Player → List Call → Player → Type 0 where
  none : (p : Player) → Trace p [] p
  sets : (p : Player) (c : Call) (cs : List Call) (q : Player) (r : Result Player Question) → is_edit c ≡ true → Changes p c r → Trace (player_after p r) cs q → Trace p (c ∷ cs) q
  reads : (p : Player) (t : TransportCodes) (cs : List Call) (q : Player) (r : Result Float Question) → result_answer one_value r ≡ phase_answer (state_of p) t → Trace p cs q → Trace p (phase t ∷ cs) q
  plays : (p : Player) (t : TransportCodes) (n : ℕ) (restart : RestartCodes) (x y : List Float) (cs : List Call) (q : Player) (r : Result Played Question) (x' y' : List Float)
      → Plays p t n restart x y r x' y' → Trace (with_deck p (deck_after p r)) cs q → Trace p (block t n restart x y ∷ cs) q

-- what the contracts require of the player that each call gets, and so of the last
unfoldable pub ValidAll : {p q : Player} {cs : List Call} → Trace p cs q → Type 0
ValidAll (none p) = Valid p
ValidAll (sets p c cs q r e m l) = Valid p × ValidAll l
ValidAll (reads p t cs q r m l) = Valid p × ValidAll l
ValidAll (plays p t n restart x y cs q r x' y' m l) = Valid p × ValidAll l

-- "Each list starts from a player just made, with any seed": the making of a player, accepted or refused, and the calls that lead to p.
pub record History (p : Player) : Type 0 where
  pub codes : SettingsCodes
  pub seed : ℕ
  pub first : Result Player Question
  pub makes : Makes codes seed first
  pub calls : List Call
  pub trace : Trace (first_player seed first) calls p
