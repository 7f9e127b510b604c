-- The restart rule of players: `RestartRule` of crate `restart`, of what players gave and left that met their contracts. It is proved in proofs/PlayersRule.antt. Assumes nothing.
use Rattle.std.specs.Prelude.{ℕ, ◌<◌, min, ◌≡◌, List, ◌∷◌, ◌++◌, length, get_or, take, drop, Float, Result}
use Rattle.std.specs.Float.{nan}
use Rattle.codes.specs.declared.TransportCodes.{TransportCodes}
use Rattle.codes.specs.declared.RestartCodes.{RestartCodes}
use Rattle.questions.specs.declared.question.Question.{Question}
use Rattle.questions.specs.Answers.{answer_of}
use Rattle.calls.specs.Calls.{Call}
use Rattle.player.specs.declared.Player.{Player}
use Rattle.player.specs.declared.Played.{Played}
use Rattle.player.specs.Player.{state_of, with_deck, Valid}
use Rattle.player.specs.Promises.{deck_after, Plays}
use Rattle.restart.specs.Heard.{Side}
use Rattle.restart.specs.Rule.{word_after, AtRestart, TransportFields, Hypotheses}
use Rattle.reached.specs.Traces.{Trace, ValidAll, History}
use Rattle.players_rule.specs.Written.{buffer_of, written, transports}

-- One player with a restart.
pub record Session : Type 0 where
  -- the player that the restart's block gets: one "just made", its making accepted, and the calls before the block
  pub at : Player
  pub history : History at
  pub made : answer_of history.first ≡ 0
  -- "A restart is one that an accepted block carries": the block, what it gave, and the buffers as they were (x and y) and as it left them (x' and y')
  pub transport : TransportCodes
  pub frames : ℕ
  pub restart : RestartCodes
  pub x : List Float
  pub y : List Float
  pub block : Result Played Question
  pub x' : List Float
  pub y' : List Float
  pub plays : Plays at transport frames restart x y block x' y'
  pub accepted : answer_of block ≡ 0
  pub carried : restart.code ≡ 1
  -- the calls after it
  pub rest : List Call
  pub last : Player
  pub from_block : Trace (with_deck at (deck_after at block)) rest last

module _ (s : Session) where
  -- "at its frame or, where that lies beyond the end, at the end"
  abbrev pub frame_at : ℕ
  frame_at = min s.restart.frame s.frames

  -- "A frame's x and y are read as its block's call leaves them": those of the frames from the restart on, up to the next restart or edit
  unfoldable pub written_from : Side → List Float
  written_from side = drop frame_at (take s.frames (buffer_of side s.x' s.y')) ++ written side s.from_block

  -- ""Throughout" means every accepted block from the restart's to the next restart or edit"
  unfoldable pub throughout : List TransportCodes
  throughout = s.transport ∷ transports s.from_block

  abbrev pub at_restart : AtRestart
  at_restart = record { state = state_of s.at; transports = throughout; word = word_after (state_of s.at) s.transport s.frames frame_at }

  -- every call got a player that meets what its contract requires
  pub record RequiresMet : Type 0 where
    pub before_block : ValidAll s.history.trace
    pub at_block : Valid s.at
    pub after_block : ValidAll s.from_block

-- "for every n the n-th frame from the restart has the same x and y in both, if both play it before the next restart or edit": of the bits that any two players left in the
-- buffers, under the hypotheses of `RestartRule`
abbrev pub PlayersRule : Type 0
PlayersRule =
    (s₁ s₂ : Session) (fields : TransportFields) → Hypotheses (at_restart s₁) (at_restart s₂) fields
    → (side : Side) (n : ℕ) → n < length (written_from s₁ side) → n < length (written_from s₂ side) → get_or (written_from s₁ side) n nan ≡ get_or (written_from s₂ side) n nan
