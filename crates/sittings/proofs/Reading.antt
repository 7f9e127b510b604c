-- An event's bytes may come in pieces; it has at most 30 of them, and one at least. Assumes nothing.
use Prim.Native.Nat.{ℕ, zero, suc, ◌<◌}
use mathlib.Core.Path.{◌≡◌, refl}
use mathlib.Core.List.{List}
use native.Mathlib.Omega.{arith}
use lib.ListN.{length, get_or}
use Rattle.fields.specs.Parser.{read}
use Rattle.streams.specs.Streams.{Streams}
use Rattle.fields.proofs.Chains.{was_read}
use Rattle.streams.proofs.Parsers.{number_streams, number_ahead, f32_streams, done_streams, fault_streams, wider, then_streams}
use Rattle.sittings.specs.declared.Event.{Event}
use Rattle.sittings.specs.Events.{block_event, restart_event, bus_event, by_number, unknown, event}

by_number_lem : (n : ℕ) → Streams (get_or by_number n unknown) 20
unfolding by_number block_event restart_event bus_event unknown
by_number_lem zero = wider (then_streams _ number_streams (λ frames. done_streams _)) 20 (omega arith)
by_number_lem (suc zero) = wider (then_streams _ number_streams (λ frame. done_streams _)) 20 (omega arith)
by_number_lem (suc (suc zero)) = then_streams _ number_streams (λ bus. then_streams _ f32_streams (λ value. done_streams _))
by_number_lem (suc (suc (suc zero))) = wider (done_streams _) 20 (omega arith)
by_number_lem (suc (suc (suc (suc n)))) = wider (fault_streams 17 (λ e. omega arith)) 20 (omega arith)

pub event_streams : Streams event 30
unfolding event
event_streams = then_streams _ number_streams by_number_lem

pub event_ahead : (l : List ℕ) (e : Event) (next : ℕ) → 0 < length l → event l 0 ≡ read e next → 0 < next
unfolding event
event_ahead l e next some is =
    let (n, m, first, rest) = was_read _ _ is in
    let far = number_ahead l 0 n m first in
    let here = number_streams.within l 0 m n (omega arith) first in
    let w = (by_number_lem n).within l m next e here.1 rest in
    omega arith

pub other_number : (n : ℕ) → (n ≡ 0 → ⊥) → (n ≡ 1 → ⊥) → (n ≡ 2 → ⊥) → (n ≡ 3 → ⊥) → get_or by_number n unknown ≡ unknown
unfolding by_number
other_number zero a b c d = absurd (a refl)
other_number (suc zero) a b c d = absurd (b refl)
other_number (suc (suc zero)) a b c d = absurd (c refl)
other_number (suc (suc (suc zero))) a b c d = absurd (d refl)
other_number (suc (suc (suc (suc n)))) a b c d = refl
