-- A player that an item's calls leave has played nothing. Assumes nothing.
use Prim.Native.Nat.{ℕ, suc}
use mathlib.Core.Path.{◌≡◌, refl, ◌∙◌}
use mathlib.Core.List.{List, [], ◌∷◌}
use native.Mathlib.Nat.{zero-add}
use lib.Ieee.{Float}
use Rattle.codes.specs.declared.ItemCodes.{ItemCodes}
use Rattle.calls.specs.State.{State}
use Rattle.calls.specs.Calls.{bus, shape, path, made, step}
use Rattle.calls.specs.Laws.{frames_in}
use Rattle.calls.proofs.Played.{list_counts}
use Rattle.item_calls.specs.Calls.{bus_calls, item_calls, item_state}

buses_unplayed : (p : State) (l : List Float) (k : ℕ) → frames_in p (bus_calls l k) ≡ 0
unfolding bus_calls frames_in
buses_unplayed p [] k = refl
buses_unplayed p (value ∷ l) k = zero-add _ ∙ buses_unplayed (step p (bus k value)) l (suc k)

item_unplayed : (p : State) (i : ItemCodes) → frames_in p (item_calls i) ≡ 0
unfolding item_calls frames_in
item_unplayed p i = zero-add _ ∙ zero-add _ ∙ buses_unplayed (step (step p (shape i.shape)) (path i.path)) i.buses 0

pub unplayed : (i : ItemCodes) → (item_state i).played ≡ 0
unplayed i = (list_counts i.settings i.seed (item_calls i)).played_is ∙ item_unplayed (made i.settings i.seed) i
