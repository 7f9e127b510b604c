-- How the output of a run is made, a call at a time. Assumes nothing.
use Rattle.std.specs.Prelude.{ℕ, ◌+◌, ◌≤◌, ◌≡◌, List, [], ◌++◌, length, Option, Some, None, IfSome, Result, MatchResult}
use Rattle.listlaws.specs.Over.{over}
use Rattle.number.specs.declared.Fault.{Fault}
use Rattle.fields.specs.Parser.{Parsed, read, fault, Parser}
use Rattle.fields.specs.Fields.{fault_number}
use Rattle.replies.specs.Replies.{fitting, WritesAll}
use Rattle.outputs.specs.Output.{Calling, given_by, given, given_from}
use Rattle.run_calls.specs.declared.Next.{Next}
use Rattle.run_calls.specs.declared.Turn.{Turn}
use Rattle.run_calls.specs.declared.Went.{Went}
use Rattle.run_calls.specs.declared.Went.TheVariants.{On, Ended}

-- where the numbers were written the output goes on behind them; where they had no room it ends
abbrev pub went_of : Option ℕ → ℕ → Went
went_of (Some after) place = On after
went_of None place = Ended place

-- where it ends, if nothing comes behind them
abbrev pub end_of : Option ℕ → ℕ → ℕ
end_of (Some after) place = after
end_of None place = place

-- where the output goes on, the run goes on at `next`
abbrev pub turn_of : {P : Type 0} → Went → Option (Next P) → Turn P
turn_of (On place) next = record { place = place; next = next }
turn_of (Ended place) next = record { place = place; next = None }

-- the numbers l written at the place `place` of x, all of them or none
pub record Says (x : List ℕ) (place : ℕ) (l : List ℕ) (w : Went) (y : List ℕ) : Type 0 where
  pub after : Option ℕ
  pub written : WritesAll x place l after y
  pub went_is : w ≡ went_of after place

-- the same, and the output ends behind them
pub record Ends (x : List ℕ) (place : ℕ) (l : List ℕ) (end : ℕ) (y : List ℕ) : Type 0 where
  pub after : Option ℕ
  pub written : WritesAll x place l after y
  pub end_is : end ≡ end_of after place

module _ {P M S A : Type 0} (C : Calling M S A) (state_of : P → S) where
  -- what the calls from here on give, of which `most` are looked at; nothing where the output ends
  abbrev pub behind : List ℕ → Option (Next P) → ℕ → List (List ℕ)
  behind run (Some n) most = given C most (state_of n.player) run n.at
  behind run None most = []

  -- what a call as it was read gives, and those behind it
  abbrev pub given_of : P → List ℕ → Parsed A → ℕ → List (List ℕ)
  given_of p run a most = given_by C (state_of p) (λ s. given C most s run) a

module _ {P M S A : Type 0} (C : Calling M S A) (state_of : P → S) (Valid : P → Type 0) where
  -- A turn from the place `place` of x: the bytes that it wrote, and how the rest of the output follows from it.
  pub record Turns (run : List ℕ) (all : ℕ → List (List ℕ)) (x : List ℕ) (place : ℕ) (t : Turn P) (y : List ℕ) : Type 0 where
    pub written : List ℕ
    pub bytes : y ≡ over x place written
    pub place_is : t.place ≡ place + length written
    pub room : place ≤ length x → t.place ≤ length x
    pub rest : (most : ℕ) → fitting (length x) place (all most) ≡ written ++ fitting (length x) t.place (behind C state_of run t.next most)
    pub valid : IfSome t.next (λ n. Valid n.player)

  -- a turn of a call that is read from the place n.at on; where there is a fault in its bytes nothing is written
  abbrev pub TurnsOn : Parser A → List ℕ → Next P → List ℕ → ℕ → Result (Turn P) Fault → List ℕ → Type 0
  TurnsOn q run n x place r y =
      MatchResult r
      (λ t. Turns run (given_of C state_of n.player run (q run n.at)) x place t y)
      (λ f. (fault (fault_number f) ≡ q run n.at) × (y ≡ x))

  -- The same of a call that changes n in its place, and leaves it as n'. Where there is a fault in its bytes what is played stays.
  abbrev pub TurnsInPlace : Parser A → List ℕ → Next P → List ℕ → ℕ → Result Went Fault → Next P → List ℕ → Type 0
  TurnsInPlace q run n x place r n' y =
      MatchResult r
      (λ w. Turns run (given_of C state_of n.player run (q run n.at)) x place (turn_of w (Some n')) y)
      (λ f. (fault (fault_number f) ≡ q run n.at) × (y ≡ x) × (n'.player ≡ n.player))

  -- a turn of the call a, behind which the run goes on at n.at; it leaves n as n'
  abbrev pub TurnsBy : A → Next P → List ℕ → ℕ → Went → Next P → List ℕ → Type 0
  TurnsBy a n x place w n' y =
      (run : List ℕ) → Turns run (given_of C state_of n.player run (read a n.at)) x place (turn_of w (Some n')) y

  -- the first turn, which makes what is played; `all` is what the run gives
  pub record Begins (run x : List ℕ) (t : Turn P) (y : List ℕ) : Type 0 where
    pub all : ℕ → List (List ℕ)
    pub given_is : given_from C run (C.make run 0) ≡ all (length run)
    pub turned : Turns run all x 0 t y

  -- where there is a fault in its bytes nothing is written
  abbrev pub Makes : List ℕ → List ℕ → Result (Turn P) Fault → List ℕ → Type 0
  Makes run x r y = MatchResult r (λ t. Begins run x t y) (λ f. (fault (fault_number f) ≡ C.make run 0) × (y ≡ x))

-- the calls from here on, written from the place `place` of x
pub record Finishes (all : List (List ℕ)) (x : List ℕ) (place : ℕ) (r : ℕ) (y : List ℕ) : Type 0 where
  pub place_is : r ≡ place + length (fitting (length x) place all)
  pub bytes : y ≡ over x place (fitting (length x) place all)
