-- OneTurn one after the other, by the bytes at hand. Assumes nothing.
--     Ran        what was printed and what is left, after some turns
--     ran_first, ran_on, ran_waits, ran_end     its steps, and its ends
use Prim.Native.Nat.{ℕ, suc, ◌+◌, ◌-◌, ◌≤◌, ◌<◌}
use mathlib.Core.Path.{◌≡◌, refl, sym, ap, ◌∙◌, subst}
use mathlib.Core.Logic.{◌⊎◌, inl, inr}
use mathlib.Core.Bool.{Bool, true, false, cond, false≢true, true≢false}
use mathlib.Core.List.{List, [], ◌∷◌, ◌++◌}
use native.Mathlib.Omega.{arith}
use lib.Dec.{eqb, ltb}
use lib.ListN.{length, take, drop, length-append, length-drop, drop_of_length-le}
use lib.Seq.{drop-drop, take_all}
use Rattle.listlaws.specs.Over.{over}
use Rattle.listlaws.proofs.Over.{over_none, length_over, over_over}
use Rattle.number.specs.Read.{leading}
use Rattle.calls.specs.Calls.{bus, accepts}
use Rattle.fields.specs.Parser.{Parsed, read, fault, cut_short, bad_number}
use Rattle.codes.specs.declared.ItemCodes.{ItemCodes}
use Rattle.record.specs.Records.{accepted_item}
use Rattle.streams.proofs.Items.{accepted_ahead, accepted_none}
use Rattle.sittings.specs.declared.Event.{Event}
use Rattle.sittings.specs.declared.Event.TheVariants.{Block, Restart, Bus, End}
use Rattle.turns.specs.declared.Sitting.{Sitting}
use Rattle.turns.specs.declared.Sitting.TheVariants.{Opening, Playing, Closing, Stuck, NoMore}
use Rattle.std.specs.Prelude.{None}
use Rattle.turns.specs.declared.Turned.{Turned}
use Rattle.turns.specs.declared.Step.{Step}
use Rattle.sittings.specs.Events.{event}
use Rattle.sittings.specs.Courses.{Course, block_of}
use Rattle.sittings.specs.Windows.{BeingRead, the_item, the_event, most_of, fault_line, Stage, opening, playing, closing, stuck, Turn, wants, went, fault_turn, event_turn, read_turn, playing_turn, closing_turn, stuck_turn, item_turn, turn, Goes}
use Rattle.sittings.specs.Windows as Windows
use Rattle.turns.specs.Turns.{stage_of, index_of, ValidSitting, is_over, settled, Went, OneTurn, Running, SomeTurns}
use Rattle.sittings.proofs.Reading.{event_ahead}
use Rattle.sittings.proofs.Pieces.{goes_none, goes_on, turns_right}

-- ---- a turn takes a byte or more where there are any

Ahead : List ℕ → Turn → Type 0
Ahead l wants = Unit {0}
Ahead l (went text k σ) = 0 < length l → 0 < k

fault_ahead : (r : BeingRead) (l : List ℕ) (n : ℕ) → Ahead l (fault_turn r l n)
unfolding fault_turn Ahead
fault_ahead r l n = by_tests (eqb n cut_short) (ltb (most_of r) (length l))
  where
    by_tests : (t u : Bool) → Ahead l (cond t (cond u (went [] (length l) (stuck r)) wants) (went (fault_line r n) (length l) Windows.no_more))
    by_tests true true = λ h. h
    by_tests true false = tt
    by_tests false u = λ h. h

event_turn_ahead : (p : Course) (l : List ℕ) (e : Event) (next : ℕ) → 0 < next → Ahead l (event_turn p e next)
unfolding event_turn Ahead
event_turn_ahead p l (Block frames) next h = by_test (accepts p.state (block_of p frames)) _ _ _
  where
    by_test : (t : Bool) (text u : List ℕ) (q : Course) → Ahead l (cond t (went text next (playing q)) (went u next Windows.no_more))
    by_test true text u q = λ _. h
    by_test false text u q = λ _. h
event_turn_ahead p l (Restart frame) next h = λ _. h
event_turn_ahead p l (Bus k value) next h = by_test (accepts p.state (bus k value)) _ _ _
  where
    by_test : (t : Bool) (text u : List ℕ) (q : Course) → Ahead l (cond t (went text next (playing q)) (went u next Windows.no_more))
    by_test true text u q = λ _. h
    by_test false text u q = λ _. h
event_turn_ahead p l End next h = λ _. h

read_ahead : (p : Course) (b : ℕ) (l : List ℕ) (x : Parsed Event) → event (b ∷ l) 0 ≡ x → Ahead (b ∷ l) (read_turn p (b ∷ l) x)
unfolding read_turn
read_ahead p b l (read e next) is = event_turn_ahead p (b ∷ l) e next (event_ahead (b ∷ l) e next (omega arith) is)
read_ahead p b l (fault n) is = fault_ahead (the_event p.index) (b ∷ l) n

item_ahead : (l : List ℕ) (x : Parsed ItemCodes) → accepted_item l 0 ≡ x → Ahead l (item_turn l x)
unfolding item_turn Ahead
item_ahead l (read i next) is = λ _. accepted_ahead l 0 next i (omega arith) is
item_ahead l (fault n) is = fault_ahead the_item l n

ahead : (σ : Stage) (l : List ℕ) → Ahead l (turn σ l)
unfolding turn playing_turn closing_turn stuck_turn Ahead
ahead opening l = item_ahead l (accepted_item l 0) refl
ahead (playing p) [] = tt
ahead (playing p) (b ∷ l) = read_ahead p b l (event (b ∷ l) 0) refl
ahead (closing index) [] = tt
ahead (closing index) (b ∷ l) = λ h. h
ahead (stuck r) [] = tt
ahead (stuck r) (b ∷ l) = by_test (ltb (leading (b ∷ l)) (length (b ∷ l)))
  where
    by_test : (t : Bool) → Ahead (b ∷ l) (cond t (went (fault_line r bad_number) (suc (length l)) Windows.no_more) (went [] (suc (length l)) (stuck r)))
    by_test true = λ h. h
    by_test false = λ h. h
ahead Windows.no_more l = λ h. h

-- with no bytes, more are wanted, or nothing more is printed
at_end : (σ : Stage) → (σ ≡ Windows.no_more) ⊎ (turn σ [] ≡ wants)
unfolding turn item_turn fault_turn playing_turn closing_turn stuck_turn
at_end opening = inr (ap (item_turn []) accepted_none)
at_end (playing p) = inr refl
at_end (closing index) = inr refl
at_end (stuck r) = inr refl
at_end Windows.no_more = inl refl

-- ---- after some turns

pub record Ran (t : Sitting) (l out₀ : List ℕ) (s : Sitting) (at place : ℕ) (out : List ℕ) : Type 0 where
  pub text : List ℕ
  pub goes : Goes (stage_of t) l text (stage_of s) (drop at l)
  pub bytes : out ≡ over out₀ 0 text
  pub place_is : place ≡ length text
  pub room : length text ≤ length out₀
  pub inside : at ≤ length l
  pub ahead : 0 < place → 0 < at
  pub counts : index_of s + length (drop at l) ≤ index_of t + length l
  pub valid : ValidSitting s

module _ {t : Sitting} {l out₀ : List ℕ} (g : Running t l out₀) where
  pub ran_first : Ran t l out₀ t 0 0 out₀
  ran_first =
      record {
        text = [];
        goes = goes_none (stage_of t) l;
        bytes = sym (over_none out₀ 0);
        place_is = refl;
        room = omega arith;
        inside = omega arith;
        ahead = λ h. h;
        counts = omega arith;
        valid = g.valid;
      }

  module _ {s : Sitting} {at place : ℕ} {out : List ℕ} (n : Ran t l out₀ s at place out) where
    pub ran_long : length out ≡ length out₀
    ran_long = rw n.bytes (length_over out₀ 0 n.text (omega (arith, n.room)))

    stopped : (stage_of s ≡ Windows.no_more) ⊎ (turn (stage_of s) (drop at l) ≡ wants) → SomeTurns t l out₀ (record { sitting = s; taken = at; written = place; full = false }) out
    stopped why =
        record {
          text = n.text;
          goes = n.goes;
          bytes = n.bytes;
          written = n.place_is;
          room = n.room;
          inside = n.inside;
          ahead = λ e. absurd (false≢true e);
          stops = λ _. why;
          counts = n.counts;
          valid = n.valid;
        }

    pub ran_end : length l ≤ at → SomeTurns t l out₀ (record { sitting = s; taken = at; written = place; full = false }) out
    ran_end h =
        let none : drop at l ≡ [] = drop_of_length-le l h in
        stopped (rw none (at_end (stage_of s)))

    pub ran_waits : {s' : Sitting} {out' : List ℕ} → OneTurn (index_of s) (turn (stage_of s) (drop at l)) s out place None s' out'
        → SomeTurns t l out₀ (record { sitting = s'; taken = at; written = place; full = false }) out'
    ran_waits w = rw (w.1, w.2) (stopped (inr w.0))

    module _ {s' : Sitting} {r : Turned} {out' : List ℕ} (w : Went (index_of s) (turn (stage_of s) (drop at l)) out place s' r out') where
      took : 0 < length (drop at l) → 0 < r.taken
      unfolding Ahead
      took = subst (Ahead (drop at l)) w.turn_is (ahead (stage_of s) (drop at l))

      right : Goes (stage_of s) (drop at l) w.text (stage_of (settled r.ended s')) (drop r.taken (drop at l)) × (r.taken ≤ length (drop at l))
      right = turns_right (stage_of s) (drop at l) w.text r.taken (stage_of (settled r.ended s')) w.turn_is

      pub ran_ahead : at < length l → (0 < r.taken) × (at + r.taken ≤ length l)
      ran_ahead some =
          let in_l = right.1 in
          (took (omega (arith, length-drop at l)), omega (arith, length-drop at l, n.inside))

      pub ran_on : at < length l → Ran t l out₀ (settled r.ended s') (at + r.taken) r.place out'
      ran_on some =
          let far = ran_ahead some in
          let left : drop r.taken (drop at l) ≡ drop (at + r.taken) l = drop-drop r.taken at l in
          let fit : 0 + length n.text + length w.text ≤ length out₀ = omega (arith, w.room, n.place_is, ran_long) in
          let start : place ≡ 0 + length n.text = omega (arith, n.place_is) in
          record {
            text = n.text ++ w.text;
            goes = rw left at (goes_on n.goes right.0);
            bytes = w.bytes ∙ rw (n.bytes, start) (over_over out₀ 0 n.text w.text fit);
            place_is = omega (arith, w.place_is, n.place_is, length-append n.text w.text);
            room = omega (arith, fit, length-append n.text w.text);
            inside = far.1;
            ahead = λ _. omega (arith, far.0);
            counts = omega (arith, w.counts, n.counts, far.0, far.1, length-drop at l, length-drop (at + r.taken) l);
            valid = w.valid;
          }

-- the part of a slice from a place on is what is left from there on
pub part : (l : List ℕ) (at : ℕ) → take (length l - at) (drop at l) ≡ drop at l
part l at = take_all (length l - at) (drop at l) (omega (arith, length-drop at l))

-- a sitting that is not over wants more bytes where some turns stop with room left
pub goes_wanting : {t : Sitting} {l out : List ℕ} {r : Step} {out' : List ℕ} → SomeTurns t l out r out' → r.full ≡ false → is_over r.sitting ≡ false
    → turn (stage_of r.sitting) (drop r.taken l) ≡ wants
goes_wanting {r = r} s e goes = by_stop (s.stops e)
  where
    by_stage : (t : Sitting) → is_over t ≡ false → stage_of t ≡ Windows.no_more → ⊥
    by_stage Opening e z = let w : ◌≡◌ {A = ℕ} 0 1 = cc in omega arith
    by_stage (Playing p) e z = let w : ◌≡◌ {A = ℕ} 0 1 = cc in omega arith
    by_stage (Closing index) e z = let w : ◌≡◌ {A = ℕ} 0 1 = cc in omega arith
    by_stage (Stuck part) e z = let w : ◌≡◌ {A = ℕ} 0 1 = cc in omega arith
    by_stage NoMore e z = true≢false e

    by_stop : {q : Type 0} → (stage_of r.sitting ≡ Windows.no_more) ⊎ q → q
    by_stop (inl z) = absurd (by_stage r.sitting goes z)
    by_stop (inr w) = w
