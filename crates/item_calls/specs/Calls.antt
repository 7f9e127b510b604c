-- A player from an item: made with its settings and seed, then its shape, its path and its buses by calls. Proved in proofs/Accepted.antt, proofs/Left.antt and proofs/Exchanged.antt. Assumes nothing.
use Rattle.std.specs.Prelude.{ℕ, suc, ◌≡◌, true, cond, List, [], ◌∷◌, map, length, take, Float}
use Rattle.std.specs.Float.Ieee.{eq}
use Rattle.floatlaws.specs.Numbers.{f32_0}
use Rattle.codes.specs.declared.ItemCodes.{ItemCodes}
use Rattle.curves.specs.Given.{given_shape, given_path}
use Rattle.calls.specs.State.{State}
use Rattle.calls.specs.Calls.{Call, shape, path, bus, answer, makes, made, step, after}
use Rattle.fields.specs.Bytes.{Bytes}
use Rattle.record.specs.Kept.{codes_of_point, codes_of_path_point, kept}
use Rattle.record.specs.Questions.{item_answer}
use Rattle.record.specs.Records.{given, read_record, write_record}
use Rattle.record.specs.Promises.{Typed}

-- ---- the calls

-- "buses enter a player by bus calls", here from bus k on
unfoldable pub bus_calls : List Float → ℕ → List Call
bus_calls [] k = []
bus_calls (value ∷ l) k = bus k value ∷ bus_calls l (suc k)

unfoldable pub item_calls : ItemCodes → List Call
item_calls i = shape i.shape ∷ path i.path ∷ bus_calls i.buses 0

-- what an item plays from
abbrev pub item_state : ItemCodes → State
item_state i = after (made i.settings i.seed) (item_calls i)

-- ---- they are accepted

-- each of some calls, one after the other
unfoldable pub AllAccepted : State → List Call → Type 0
AllAccepted p [] = Unit {0}
AllAccepted p (c ∷ l) = (answer p c ≡ 0) × AllAccepted (step p c) l

-- a player is made, and every call is accepted
pub record ItemAccepted (i : ItemCodes) : Type 0 where
  pub is_made : makes i.settings ≡ true
  pub calls : AllAccepted (made i.settings i.seed) (item_calls i)

abbrev pub CallsAccepted : Type 0
CallsAccepted = (i : ItemCodes) → length i.buses ≡ 16 → item_answer i ≡ 0 → ItemAccepted i

-- ---- the player that they leave

-- What a bus, 0 before, holds after its call. "A bus set to a value equal to the stored one, 0 and −0 included, keeps the stored bits": −0 leaves 0.
abbrev pub entered : Float → Float
entered value = cond (eq f32_0 value) f32_0 value

-- the item's curves and buses, and all else of a player just made
pub record PlaysFrom (i : ItemCodes) (p : State) : Type 0 where
  pub settings : p.lfo.settings ≡ (made i.settings i.seed).lfo.settings
  pub shape : p.lfo.shape ≡ given_shape i.shape
  pub path : p.lfo.path ≡ given_path i.path
  pub buses : p.lfo.buses ≡ map entered i.buses
  pub clock : p.lfo.clock ≡ (made i.settings i.seed).lfo.clock
  pub voice : p.voice ≡ (made i.settings i.seed).voice
  pub played : p.played ≡ 0

abbrev pub PlaysTheItem : Type 0
PlaysTheItem = (i : ItemCodes) → length i.buses ≡ 16 → item_answer i ≡ 0 → PlaysFrom i (item_state i)

-- ---- it stores the points that the record has

-- the stored points, as codes, are those of the item
pub record StoresPoints (i : ItemCodes) (p : State) : Type 0 where
  pub count : p.lfo.shape.len ≡ i.shape.count
  pub points : take p.lfo.shape.len (map codes_of_point p.lfo.shape.points) ≡ take i.shape.count i.shape.points
  pub path_count : p.lfo.path.len ≡ i.path.count
  pub path_points : take p.lfo.path.len (map codes_of_path_point p.lfo.path.points) ≡ take i.path.count i.path.points

-- of a record that is written: "The writer .. writes points as the player keeps them"
abbrev pub StoresTheWritten : Type 0
StoresTheWritten = (i : ItemCodes) → length i.buses ≡ 16 → item_answer i ≡ 0 → StoresPoints (kept i) (item_state i)

-- of a record that is read: the points that were read are the ones stored
abbrev pub StoresTheRead : Type 0
StoresTheRead = (s : List ℕ) → Bytes s → (i : ItemCodes) → read_record s ≡ given i → StoresPoints i (item_state i)

-- ---- "Colleges exchange items": who reads an item's record plays from the very player of who wrote it

abbrev pub PlaysAlike : Type 0
PlaysAlike = (i : ItemCodes) → Typed i → item_answer i ≡ 0 → item_state (kept i) ≡ item_state i

abbrev pub Exchanged : Type 0
Exchanged = (i j : ItemCodes) → Typed i → (s : List ℕ) → write_record i ≡ given s → read_record s ≡ given j → item_state j ≡ item_state i
