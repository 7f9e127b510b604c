-- What holds of every player that calls have reached, and of every block that it accepts. Assumes nothing.
use Rattle.std.specs.Prelude.{Option, Some}
use Prim.Native.Nat.{ℕ}
use mathlib.Core.Path.{◌≡◌, refl}
use lib.ListN.{length}
use Rattle.settings.specs.declared.record.Transport.{Transport}
use Rattle.codes.specs.declared.TransportCodes.{TransportCodes}
use Rattle.settings.specs.Codes.{transport_at}
use Rattle.floatlaws.proofs.Tests.{yes_so}
use Rattle.settings.proofs.Read.{transport_of}
use Rattle.reach.specs.Bounds.{TransportIn}
use Rattle.questions.proofs.Facts.{TransportAccepted, transport_is_in, BlockAccepted, block_accepted}
use Rattle.calls.specs.Calls.{questions, answer}
use Rattle.player.specs.declared.Player.{Player}
use Rattle.player.specs.Player.{Valid}
use Rattle.reached.specs.Traces.{History}
use Rattle.reached.specs.Players.{AcceptedBlock, EachAccepted}
use Rattle.reached.proofs.Traces.{valid_last, history_valid}

-- ---- players

pub reached_valid : {p : Player} → History p → Valid p
reached_valid h = valid_last h.trace (history_valid h)

-- ---- the transport of a call that is accepted

pub known_transport : (c : TransportCodes) → TransportAccepted c → (t : Transport) × (transport_at c ≡ Some t)
known_transport c a = transport_of c (yes_so a.known)

-- ---- blocks

pub block_facts : {p : Player} {t : Transport} {frames : ℕ} {at : Option ℕ} (a : AcceptedBlock p t frames at)
    → BlockAccepted p.deck.played a.codes frames a.restart (length a.x) (length a.y)
unfolding answer questions
block_facts {p} {t} {frames} {at} a = block_accepted p.deck.played a.codes frames a.restart (length a.x) (length a.y) a.accepted

pub transport_within : {p : Player} {t : Transport} {frames : ℕ} {at : Option ℕ} → AcceptedBlock p t frames at → TransportIn t
transport_within {p} {t} a = transport_is_in a.codes (block_facts a).transport t a.transport_is

pub each_accepted : EachAccepted
unfolding answer questions
each_accepted p codes frames restart x y e =
    let k = known_transport codes (block_accepted p.deck.played codes frames restart (length x) (length y) e).transport in
    (k.0, record { codes = codes; restart = restart; x = x; y = y; accepted = e; transport_is = k.1; restart_is = refl })
