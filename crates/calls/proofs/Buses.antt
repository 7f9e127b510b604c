-- What setting a bus leaves of the buses. Assumes nothing.
use Prim.Native.Nat.{ℕ, suc, ◌<◌}
use mathlib.Core.Path.{◌≡◌, refl, sym, ap, ◌∙◌}
use mathlib.Core.Bool.{Bool, true, false, cond}
use mathlib.Core.List.{List, ◌∷◌, ◌++◌}
use native.Mathlib.Omega.{arith}
use borrow.Author.Tests.{eqb-true}
use lib.ListN.{length, get_or, set, take, drop, length-set}
use lib.Seq.{set_split, get_or-set_same, get_or-set_other}
use lib.Ieee.{Float, nan, eq}
use Rattle.questions.proofs.Facts.{bus_accepted}
use Rattle.calls.specs.State.{State, with_bus, moved_buses}
use Rattle.calls.specs.Calls.{bus, questions, answer, accepts, accepted, step}
use Rattle.calls.specs.Laws.{BusSet, BusLaw}

module _ (p : State) (k : ℕ) (value : Float) where
  abbrev stored : List Float
  stored = p.lfo.buses

  -- accepted or not, and the value equal to the stored one or not
  abbrev by : Bool → Bool → List Float
  by b h = cond b (cond h stored (set stored k value)) stored

  by_others : (b h : Bool) (j : ℕ) → (j ≡ k → ⊥) → get_or (by b h) j nan ≡ get_or stored j nan
  by_others true true j n = refl
  by_others true false j n = get_or-set_other stored k j value nan n
  by_others false h j n = refl

  by_length : (b h : Bool) → length (by b h) ≡ length stored
  by_length true true = refl
  by_length true false = length-set stored k value
  by_length false h = refl

  moved : (h : Bool) → eq (get_or stored k nan) value ≡ h → moved_buses stored k value ≡ cond h stored (take k stored ++ value ∷ drop (suc k) stored)
  unfolding moved_buses
  moved h e = ap (λ (b : Bool). cond b stored (take k stored ++ value ∷ drop (suc k) stored)) e

  keeps : (b : Bool) → eq (get_or stored k nan) value ≡ true → cond b (with_bus p k value) p ≡ p
  unfolding with_bus
  keeps true e = rw (moved true e) refl
  keeps false e = refl

  module _ (long : length stored ≡ 16) where
    below : accepts p (bus k value) ≡ true → k < length stored
    unfolding answer questions
    below e = omega (arith, long, (bus_accepted k value (eqb-true _ 0 e)).1)

    buses_are : (b h : Bool) → accepts p (bus k value) ≡ b → eq (get_or stored k nan) value ≡ h → (step p (bus k value)).lfo.buses ≡ by b h
    unfolding step accepted with_bus
    buses_are true true e g = rw (e, moved true g) refl
    buses_are true false e g = rw (e, moved false g) (sym (set_split stored k value (below e)))
    buses_are false h e g = rw e refl

    set_one : BusSet p k value
    set_one =
        let b = accepts p (bus k value) in
        let e = eq (get_or stored k nan) value in
        let is = buses_are b e refl refl in
        record {
          equal = λ (h : eq (get_or stored k nan) value ≡ true). unfold step accepted in keeps b h;
          other = λ (e : accepts p (bus k value) ≡ true) (h : eq (get_or stored k nan) value ≡ false).
              ap (λ (l : List Float). get_or l k nan) (buses_are true false e h) ∙ get_or-set_same stored k value nan (below e);
          others = λ (j : ℕ) (n : j ≡ k → ⊥). ap (λ (l : List Float). get_or l j nan) is ∙ by_others b e j n;
          long = ap length is ∙ by_length b e ∙ long;
        }

pub bus_set : BusLaw
bus_set = set_one
