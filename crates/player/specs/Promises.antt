-- What each call promises: the answer, the player and both buffers, by the definitions of crate `calls`. Assumes nothing.
use Rattle.std.specs.Prelude.{ℕ, ◌≡◌, Bool, false, cond, List, Float, Result, Ok, Err}
use Rattle.std.specs.Result.{result_unwrap_or}
use Rattle.codes.specs.declared.SettingsCodes.{SettingsCodes}
use Rattle.codes.specs.declared.TransportCodes.{TransportCodes}
use Rattle.settings.specs.Codes.{transport_at}
use Rattle.settings.specs.Records.{default_settings}
use Rattle.codes.specs.declared.RestartCodes.{RestartCodes}
use Rattle.questions.specs.declared.question.Question.{Question}
use Rattle.questions.specs.Answers.{answer_of}
use Rattle.questions.specs.Questions.{first_no, settings_questions}
use Rattle.calls.specs.State.{State}
use Rattle.calls.specs.Blocks.{pending_of, finished}
use Rattle.calls.specs.Calls.{Call, block, answer, accepts, by_transport, made, step, buffer}
use Rattle.player.specs.declared.Deck.{Deck}
use Rattle.player.specs.declared.Player.{Player}
use Rattle.player.specs.declared.Played.{Played}
use Rattle.player.specs.Player.{state_of, new_player, with_deck, Valid}

-- ---- making a player

-- the player that calls go on with: of a making that is refused, one with the default settings
abbrev pub first_player : ℕ → Result Player Question → Player
first_player seed r = result_unwrap_or r (new_player default_settings seed)

pub record Makes (c : SettingsCodes) (seed : ℕ) (r : Result Player Question) : Type 0 where
  pub answer_is : answer_of r ≡ first_no (settings_questions c)
  pub state_is : state_of (first_player seed r) ≡ made c seed
  pub valid : Valid (first_player seed r)

-- ---- setting something

-- the player after a call: where it is refused, the one that it was handed
abbrev pub player_after : Player → Result Player Question → Player
player_after p r = result_unwrap_or r p

pub record Changes (p : Player) (c : Call) (r : Result Player Question) : Type 0 where
  pub answer_is : answer_of r ≡ answer (state_of p) c
  pub state_is : state_of (player_after p r) ≡ step (state_of p) c
  -- "player and buffers keep every bit"
  pub kept : accepts (state_of p) c ≡ false → player_after p r ≡ p
  pub valid : Valid (player_after p r)

-- ---- playing a block

-- the deck after a block: where it is refused, the one that it was handed
abbrev pub deck_after : Player → Result Played Question → Deck
deck_after p (Ok r) = r.deck
deck_after p (Err n) = p.deck

-- and it says 0
abbrev pub finished_in : Result Played Question → Bool
finished_in (Ok r) = r.finished
finished_in (Err n) = false

unfoldable pub finished_by : State → TransportCodes → ℕ → RestartCodes → List Float → List Float → Bool
finished_by p c frames restart x y =
    cond (accepts p (block c frames restart x y)) (by_transport false (transport_at c) λ t. finished p t frames (pending_of restart)) false

-- the player after it is the one before it with the deck that it gives
pub record Plays (p : Player) (t : TransportCodes) (frames : ℕ) (restart : RestartCodes) (x y : List Float) (r : Result Played Question) (x' y' : List Float) : Type 0 where
  pub answer_is : answer_of r ≡ answer (state_of p) (block t frames restart x y)
  pub state_is : state_of (with_deck p (deck_after p r)) ≡ step (state_of p) (block t frames restart x y)
  -- "player and buffers keep every bit"
  pub kept : accepts (state_of p) (block t frames restart x y) ≡ false → deck_after p r ≡ p.deck
  pub finished_is : finished_in r ≡ finished_by (state_of p) t frames restart x y
  pub x_is : x' ≡ buffer (state_of p) t frames restart x y (λ f. f.x) x
  pub y_is : y' ≡ buffer (state_of p) t frames restart x y (λ f. f.y) y
  pub valid : Valid (with_deck p (deck_after p r))
