-- A turn is right whatever comes behind the bytes at hand, and so what is printed is the sheet, however the input is cut into pieces. Assumes nothing.
--     turns_right, wants_few, ends_right, prints_sheet     the promises
--     goes_on, goes_none                                   turns one after the other
use Prim.Native.Nat.{ℕ, suc, ◌≤◌, ◌<◌}
use mathlib.Core.Path.{◌≡◌, refl, sym, ap, ◌∙◌, subst}
use mathlib.Core.Bool.{Bool, true, false, cond}
use mathlib.Core.List.{List, [], ◌∷◌, ◌++◌, append-nil, append_assoc}
use native.Mathlib.Omega.{arith}
use borrow.Author.Tests.{ltb-true, ltb-false, eqb-true, eqb-false}
use lib.Dec.{eqb, ltb}
use lib.ListN.{length, drop}
use lib.Seq.{drop-append-le, drop-length}
use Rattle.number.specs.Read.{leading}
use Rattle.calls.specs.Calls.{bus, accepts}
use Rattle.fields.specs.Parser.{Parsed, read, fault, cut_short, bad_number}
use Rattle.streams.specs.Streams.{unending}
use Rattle.streams.proofs.Parsers.{unending_front, unending_on}
use Rattle.codes.specs.declared.ItemCodes.{ItemCodes}
use Rattle.record.specs.Records.{left_over, accepted_item}
use Rattle.streams.proofs.Items.{accepted_streams}
use Rattle.sittings.specs.declared.Event.{Event}
use Rattle.sittings.specs.declared.Event.TheVariants.{Block, Restart, Bus, End}
use Rattle.sittings.specs.Events.{event}
use Rattle.sittings.specs.Courses.{Course, block_of, block_lines, after_block, after_bus}
use Rattle.sittings.specs.Sheets.{failed, after_end, from_event, from_read, events_text, events_from, from_item, sheet}
use Rattle.sittings.specs.Windows.{BeingRead, the_item, the_event, fault_line, most_of, Stage, opening, playing, closing, stuck, no_more, Turn, wants, went, text_from, fault_turn, item_turn, event_turn, read_turn, playing_turn, closing_turn, stuck_turn, turn, last_text, Goes, Prints, reads, goes, ends, stops}
use Rattle.sittings.specs.Promises.{TurnsRight, WantsFew, EndsRight, PrintsSheet}
use Rattle.sittings.proofs.Reading.{event_streams}
use Rattle.sittings.proofs.Enough.{one_event}

-- ---- turns one after the other

pub goes_none : (σ : Stage) (l : List ℕ) → Goes σ l [] σ l
goes_none σ l = record { is = λ more. refl }

pub goes_on : {σ σ' σ'' : Stage} {l m n t u : List ℕ} → Goes σ l t σ' m → Goes σ' m u σ'' n → Goes σ l (t ++ u) σ'' n
goes_on {t = t} {u} g h = record { is = λ more. g.is more ∙ ap (λ x. t ++ x) (h.is more) ∙ sym (append_assoc t u _) }

-- ---- what a turn is to be

Fits : Stage → List ℕ → Turn → Type 0
Fits σ l wants = (length l ≤ 12640) × (text_from σ l ≡ last_text σ l)
Fits σ l (went text k σ') = Goes σ l text σ' (drop k l) × (k ≤ length l)

-- to the end of the bytes at hand
all_taken : (σ σ' : Stage) (l text : List ℕ) → ((more : List ℕ) → text_from σ (l ++ more) ≡ text ++ text_from σ' more)
    → Fits σ l (went text (length l) σ')
unfolding Fits
all_taken σ σ' l text h =
    (record { is = λ more. rw (drop-length l) (h more) }, omega arith)

-- and then nothing
all_over : (σ : Stage) (l text : List ℕ) → ((more : List ℕ) → text_from σ (l ++ more) ≡ text) → Fits σ l (went text (length l) no_more)
unfolding text_from
all_over σ l text h = all_taken σ no_more l text (λ more. h more ∙ sym (append-nil text))

-- a fault in what is read; k is the most bytes that it has
module _ (σ : Stage) (r : BeingRead) (l : List ℕ) (few : most_of r ≤ 12640) where
  fault_fits : (n : ℕ)
      → (n ≡ cut_short → text_from σ l ≡ last_text σ l)
      → (n ≡ cut_short → most_of r < length l → (more : List ℕ) → text_from σ (l ++ more) ≡ fault_line r (unending more))
      → ((n ≡ cut_short → ⊥) → (more : List ℕ) → text_from σ (l ++ more) ≡ fault_line r n)
      → Fits σ l (fault_turn r l n)
  unfolding fault_turn Fits text_from
  fault_fits n last long other = by_tests (eqb n cut_short) refl (ltb (most_of r) (length l)) refl
    where
      by_tests : (t : Bool) → eqb n cut_short ≡ t → (u : Bool) → ltb (most_of r) (length l) ≡ u
          → Fits σ l (cond t (cond u (went [] (length l) (stuck r)) wants) (went (fault_line r n) (length l) no_more))
      by_tests true e true h = all_taken σ (stuck r) l [] (long (eqb-true n cut_short e) (ltb-true (most_of r) (length l) h))
      by_tests true e false h = (omega (arith, ltb-false (most_of r) (length l) h), last (eqb-true n cut_short e))
      by_tests false e u h = all_over σ l (fault_line r n) (other (eqb-false n cut_short e))

-- ---- the item

item_fits : (l : List ℕ) (x : Parsed ItemCodes) → accepted_item l 0 ≡ x → Fits opening l (item_turn l x)
unfolding item_turn from_item text_from last_text Fits
item_fits l (read i next) e =
    let here = accepted_streams.within l 0 next i (omega arith) e in (
      record { is = λ more. rw (accepted_streams.reads l more 0 next i e, drop-append-le next l more here.1) },
      here.1,
    )
item_fits l (fault n) e =
    fault_fits opening the_item l (omega arith) n
    (λ cut. rw (e, cut))
    (λ cut far more. rw (accepted_streams.cut l more 0 (e ∙ ap fault cut) (omega arith)))
    (λ other more. rw (accepted_streams.faults l more 0 n e other))

-- ---- an event

behind : (p : Course) (b : ℕ) (l more : List ℕ) {x : Parsed Event} → event (b ∷ l ++ more) 0 ≡ x → events_from p (b ∷ l ++ more) ≡ from_read events_from p (b ∷ l ++ more) x
behind p b l more e = one_event p b (l ++ more) ∙ ap (from_read events_from p (b ∷ l ++ more)) e

module _ (p : Course) (b : ℕ) (l : List ℕ) (next : ℕ) where
  -- what an event prints, by the bytes that it leaves
  Leaves : Event → Type 0
  Leaves e = (more : List ℕ) → events_from p (b ∷ l ++ more) ≡ from_event events_from p e (drop next (b ∷ l) ++ more)

  by_answer : (t : Bool) (e : Event) (text u : List ℕ) (σ : Stage) → next ≤ length (b ∷ l)
      → ((more : List ℕ) → events_from p (b ∷ l ++ more) ≡ cond t (text ++ text_from σ (drop next (b ∷ l) ++ more)) u)
      → Fits (playing p) (b ∷ l) (cond t (went text next σ) (went u next no_more))
  unfolding Fits text_from
  by_answer true e text u σ here h = (record { is = h }, here)
  by_answer false e text u σ here h = (record { is = λ more. h more ∙ sym (append-nil u) }, here)

  event_fits : (e : Event) → next ≤ length (b ∷ l) → Leaves e → Fits (playing p) (b ∷ l) (event_turn p e next)
  unfolding Leaves event_turn from_event text_from Fits
  event_fits (Block frames) here h =
      by_answer (accepts p.state (block_of p frames)) (Block frames) (block_lines p frames) _ (playing (after_block p frames)) here h
  event_fits (Restart frame) here h = (record { is = h }, here)
  event_fits (Bus k value) here h = by_answer (accepts p.state (bus k value)) (Bus k value) [] _ (playing (after_bus p k value)) here h
  event_fits End here h = (record { is = h }, here)

read_fits : (p : Course) (b : ℕ) (l : List ℕ) (x : Parsed Event) → event (b ∷ l) 0 ≡ x → Fits (playing p) (b ∷ l) (read_turn p (b ∷ l) x)
unfolding read_turn from_read text_from last_text Leaves
read_fits p b l (read e next) is =
    let here = event_streams.within (b ∷ l) 0 next e (omega arith) is in
    event_fits p b l next e here.1 λ more.
    behind p b l more (event_streams.reads (b ∷ l) more 0 next e is) ∙ ap (from_event events_from p e) (drop-append-le next (b ∷ l) more here.1)
read_fits p b l (fault n) is =
    fault_fits (playing p) (the_event p.index) (b ∷ l) (omega arith) n
    (λ cut. one_event p b l ∙ rw (is, cut))
    (λ cut far more. behind p b l more (event_streams.cut (b ∷ l) more 0 (is ∙ ap fault cut) (omega arith)))
    (λ other more. behind p b l more (event_streams.faults (b ∷ l) more 0 n is other))

-- ---- every turn

fits : (σ : Stage) (l : List ℕ) → Fits σ l (turn σ l)
unfolding turn playing_turn closing_turn stuck_turn text_from last_text Fits after_end events_from events_text unending leading
fits opening l = item_fits l (accepted_item l 0) refl
fits (playing p) [] = (omega arith, refl)
fits (playing p) (b ∷ l) = read_fits p b l (event (b ∷ l) 0) refl
fits (closing index) [] = (omega arith, refl)
fits (closing index) (b ∷ l) = all_over (closing index) (b ∷ l) (failed index left_over) (λ more. refl)
fits (stuck r) [] = (omega arith, refl)
fits (stuck r) (b ∷ l) = by_test (ltb (leading (b ∷ l)) (length (b ∷ l))) refl
  where
    by_test : (t : Bool) → ltb (leading (b ∷ l)) (length (b ∷ l)) ≡ t
        → Fits (stuck r) (b ∷ l) (cond t (went (fault_line r bad_number) (suc (length l)) no_more) (went [] (suc (length l)) (stuck r)))
    by_test true h = all_over (stuck r) (b ∷ l) (fault_line r bad_number) (λ more. ap (fault_line r) (unending_front (b ∷ l) more (ltb-true _ _ h)))
    by_test false h = all_taken (stuck r) (stuck r) (b ∷ l) [] (λ more. ap (fault_line r) (unending_on (b ∷ l) more (ltb-false _ _ h)))
fits no_more l = all_over no_more l [] (λ more. refl)

pub turns_right : TurnsRight
unfolding Fits
turns_right σ l text k σ' e = subst (Fits σ l) e (fits σ l)

pub wants_few : WantsFew
unfolding Fits
wants_few σ l e = (subst (Fits σ l) e (fits σ l)).0

pub ends_right : EndsRight
unfolding Fits
ends_right σ l e = (subst (Fits σ l) e (fits σ l)).1

-- ---- a program

prints : {σ : Stage} {held input text : List ℕ} → Prints σ held input text → text ≡ text_from σ (held ++ input)
unfolding text_from
prints {σ} (reads held piece input q) = prints q ∙ ap (text_from σ) (append_assoc held piece input)
prints {input = input} (goes t text g q) = ap (λ x. t ++ x) (prints q) ∙ sym (g.is input)
prints {σ} {held} (ends e) = sym (ap (text_from σ) (append-nil held) ∙ ends_right σ held e)
prints (stops) = refl

pub prints_sheet : PrintsSheet
unfolding sheet text_from
prints_sheet s text q = prints q
