-- Players that calls have reached, and the blocks that they accept. Assumes nothing.
use Rattle.std.specs.Prelude.{ℕ, ◌≡◌, Bool, false, ◌&&◌, ◌||◌, List, [], ◌∷◌, Float, Option, Some}
use Rattle.settings.specs.declared.record.Transport.{Transport}
use Rattle.codes.specs.declared.TransportCodes.{TransportCodes}
use Rattle.settings.specs.Codes.{transport_at}
use Rattle.curves.specs.Given.{is_yes}
use Rattle.codes.specs.declared.RestartCodes.{RestartCodes}
use Rattle.calls.specs.State.{State}
use Rattle.calls.specs.Blocks.{pending_of}
use Rattle.calls.specs.Calls.{Call, block, answer, accepts, made, step, by_block}
use Rattle.player.specs.declared.Player.{Player}
use Rattle.player.specs.Player.{state_of}
use Rattle.reached.specs.Traces.{History}

-- ---- players

-- "A restart is one that an accepted block carries"
abbrev pub carries : Call → Bool
carries c = by_block false c λ t frames restart x y. is_yes restart.code

-- one of a list of calls restarts the player
unfoldable pub restart_in : State → List Call → Bool
restart_in p [] = false
restart_in p (c ∷ cs) = accepts p c && carries c || restart_in (step p c) cs

-- a "voice never restarted": none of the calls that reached the player restarted it
abbrev pub NeverRestarted : {p : Player} → History p → Type 0
NeverRestarted h = restart_in (made h.codes h.seed) h.calls ≡ false

-- ---- blocks

-- a block of `frames` frames that p accepts: it starts at the transport t and is restarted where `at` says
pub record AcceptedBlock (p : Player) (t : Transport) (frames : ℕ) (at : Option ℕ) : Type 0 where
  pub codes : TransportCodes
  pub restart : RestartCodes
  pub x : List Float
  pub y : List Float
  pub accepted : answer (state_of p) (block codes frames restart x y) ≡ 0
  pub transport_is : transport_at codes ≡ Some t
  pub restart_is : pending_of restart ≡ at

-- every block that is accepted is one
abbrev pub EachAccepted : Type 0
EachAccepted =
    (p : Player) (codes : TransportCodes) (frames : ℕ) (restart : RestartCodes) (x y : List Float)
    → answer (state_of p) (block codes frames restart x y) ≡ 0 → (t : Transport) × AcceptedBlock p t frames (pending_of restart)
