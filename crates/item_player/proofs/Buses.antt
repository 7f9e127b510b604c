-- The buses of an item, moved one after the other. Assumes nothing.
use Prim.Native.Nat.{ℕ, suc, ◌+◌, ◌<◌, ◌≤◌}
use mathlib.Core.Path.{◌≡◌, refl, sym, ap, ◌∙◌}
use mathlib.Core.List.{List, ◌∷◌}
use native.Mathlib.Numerals.{add-one}
use lib.ListN.{length, get_or, drop, drop_of_length-le}
use lib.Seq.{drop-cons}
use lib.Ieee.{Float, nan}
use Rattle.calls.specs.State.{State}
use Rattle.calls.specs.Calls.{bus, step, after}
use Rattle.item_calls.specs.Calls.{bus_calls}

first_bus : (p : State) (value : Float) (rest : List Float) (k : ℕ) → after p (bus_calls (value ∷ rest) k) ≡ after (step p (bus k value)) (bus_calls rest (suc k))
unfolding after bus_calls
first_bus p value rest k = refl

-- from bus k on
pub bus_next : (l : List Float) (k : ℕ) (p : State) {q s : State} → k < length l → s ≡ after p (bus_calls (drop k l) k) → q ≡ step p (bus k (get_or l k nan))
    → s ≡ after q (bus_calls (drop (k + 1) l) (k + 1))
bus_next l k p h e is =
    rw (is, add-one) (e ∙ ap (λ m. after p (bus_calls m k)) (drop-cons l k nan h) ∙ first_bus p (get_or l k nan) (drop (suc k) l) k)

pub bus_last : (l : List Float) (k : ℕ) (p : State) {s : State} → length l ≤ k → s ≡ after p (bus_calls (drop k l) k) → p ≡ s
unfolding after bus_calls
bus_last l k p h e = sym (rw (drop_of_length-le l h) at e)
