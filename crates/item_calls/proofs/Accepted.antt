-- The calls that an accepted item stands for are accepted. Assumes nothing.
use Prim.Native.Nat.{ℕ, suc, ◌+◌, ◌<◌}
use mathlib.Core.Path.{◌≡◌}
use mathlib.Core.List.{List, [], ◌∷◌}
use native.Mathlib.Omega.{arith}
use lib.ListN.{length, get_or}
use lib.Ieee.{Float, nan}
use Rattle.codes.specs.declared.ItemCodes.{ItemCodes}
use Rattle.questions.specs.Questions.{first_no, bus_questions}
use Rattle.calls.specs.State.{State}
use Rattle.calls.specs.Calls.{shape, path, bus, questions, answer, step}
use Rattle.record.specs.Questions.{item_answer}
use Rattle.record.proofs.Answers.{settings_accepted, shape_accepted, path_accepted, bus_accepted}
use Rattle.item_calls.specs.Calls.{bus_calls, item_calls, AllAccepted, CallsAccepted}

-- the values of a list, for the buses from k on
abbrev pub BusesPass : List Float → ℕ → Type 0
BusesPass l k = (j : ℕ) → j < length l → (n : ℕ) → n ≡ k + j → first_no (bus_questions n (get_or l j nan)) ≡ 0

pub next_pass : (value : Float) (l : List Float) (k : ℕ) → BusesPass (value ∷ l) k → BusesPass l (suc k)
next_pass value l k f j h n e = f (suc j) (omega arith) n (omega arith)

pub bus_passes : (p : State) (value : Float) (l : List Float) (k : ℕ) → BusesPass (value ∷ l) k → answer p (bus k value) ≡ 0
unfolding answer questions
bus_passes p value l k f = f 0 (omega arith) k (omega arith)

all_buses : (l : List Float) (k : ℕ) (p : State) → BusesPass l k → AllAccepted p (bus_calls l k)
unfolding AllAccepted bus_calls
all_buses [] k p f = tt
all_buses (value ∷ l) k p f = (bus_passes p value l k f, all_buses l (suc k) (step p (bus k value)) (next_pass value l k f))

module _ (i : ItemCodes) (h : item_answer i ≡ 0) where
  pub shape_passes : (p : State) → answer p (shape i.shape) ≡ 0
  unfolding answer questions
  shape_passes p = shape_accepted i h

  pub path_passes : (p : State) → answer p (path i.path) ≡ 0
  unfolding answer questions
  path_passes p = path_accepted i h

  pub buses_pass : length i.buses ≡ 16 → BusesPass i.buses 0
  buses_pass sixteen j few n e = let same : n ≡ j = omega arith in rw same (bus_accepted i h sixteen j (omega arith))

pub calls_accepted : CallsAccepted
unfolding AllAccepted item_calls
calls_accepted i sixteen h =
    let m = settings_accepted i h in
    record { is_made = rw m; calls = (shape_passes i h _, (path_passes i h _, all_buses i.buses 0 _ (buses_pass i h sixteen))) }
