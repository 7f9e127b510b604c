-- What playing a block promises, by the definitions of crate `ensemble_calls`. Assumes nothing.
use Rattle.std.specs.Prelude.{◌≡◌, ℕ, ◌*◌, Bool, true, false, List, ◌++◌, map, take, drop, replicate, Float, Some, Result, Ok, Err}
use Rattle.listlaws.specs.Tables.{padded}
use Rattle.codes.specs.declared.TransportCodes.{TransportCodes}
use Rattle.settings.specs.declared.record.Transport.{Transport}
use Rattle.settings.specs.Codes.{transport_at}
use Rattle.questions.specs.declared.question.Question.{Question}
use Rattle.questions.specs.Answers.{answer_of}
use Rattle.ensemble_calls.specs.Blocks.{played_ensemble, voice_finished, ensemble_values}
use Rattle.ensemble_calls.specs.Calls.{block, answer, accepts, step, buffer, finished_by}
use Rattle.ensemble_player.specs.declared.Decks.{Decks}
use Rattle.ensemble_player.specs.declared.Ensemble.{Ensemble}
use Rattle.ensemble_player.specs.declared.Played.{Played}
use Rattle.ensemble_player.specs.Ensembles.{state_of, with_decks, Valid}

-- the decks after a block: where it is refused, those that it was handed
abbrev pub decks_after : Ensemble → Result Played Question → Decks
decks_after e (Ok r) = r.decks
decks_after e (Err q) = e.decks

-- and it says no of each voice
abbrev pub finished_in : Result Played Question → List Bool
finished_in (Ok r) = r.finished
finished_in (Err q) = replicate 16 false

-- the ensemble after it is the one before it with the decks that it gives
pub record Plays (e : Ensemble) (c : TransportCodes) (frames : ℕ) (x y : List Float) (r : Result Played Question) (x' y' : List Float) : Type 0 where
  pub answer_is : answer_of r ≡ answer (state_of e) (block c frames x y)
  pub state_is : state_of (with_decks e (decks_after e r)) ≡ step (state_of e) (block c frames x y)
  -- "player and buffers keep every bit"
  pub kept : accepts (state_of e) (block c frames x y) ≡ false → decks_after e r ≡ e.decks
  -- of sixteen; no for those past the last voice
  pub finished_is : finished_in r ≡ padded 16 false (finished_by (state_of e) c frames x y)
  pub x_is : x' ≡ buffer (state_of e) c frames x y (λ f. f.x) x
  pub y_is : y' ≡ buffer (state_of e) c frames x y (λ f. f.y) y
  pub valid : Valid (with_decks e (decks_after e r))

-- ---- a block that is accepted, as the functions that play it have it

pub record Ready (e : Ensemble) (c : TransportCodes) (frames : ℕ) (x y : List Float) : Type 0 where
  pub valid : Valid e
  pub accepted : accepts (state_of e) (block c frames x y) ≡ true

-- at the transport that codes stand for
pub record ReadyAt (e : Ensemble) (t : Transport) (frames : ℕ) (x y : List Float) : Type 0 where
  pub codes : TransportCodes
  pub known : transport_at codes ≡ Some t
  pub ready : Ready e codes frames x y

-- what it gives; of the segments kept only what `Valid` says
pub record PlaysBlock (e : Ensemble) (t : Transport) (frames : ℕ) (x y : List Float) (r : Decks) (x' y' : List Float) : Type 0 where
  pub state_is : state_of (with_decks e r) ≡ played_ensemble (state_of e) t frames
  pub finished_is : map (λ m. m.finished) (take e.count r.members) ≡ map (voice_finished (state_of e) t frames) (state_of e).voices
  pub x_is : x' ≡ ensemble_values (state_of e) t frames (λ f. f.x) ++ drop (frames * e.count) x
  pub y_is : y' ≡ ensemble_values (state_of e) t frames (λ f. f.y) ++ drop (frames * e.count) y
  pub valid : Valid (with_decks e r)
