-- Laws of a turn, and of the turns of a run: what is written and what is to come make the output. Assumes nothing.
use Prim.Native.Nat.{ℕ, suc, ◌+◌, ◌-◌, ◌≤◌, ◌<◌}
use mathlib.Core.Path.{◌≡◌, refl, sym, ap, ◌∙◌, subst}
use mathlib.Core.Bool.{Bool, true, false, cond}
use mathlib.Core.List.{List, [], ◌∷◌, ◌++◌}
use native.Mathlib.Omega.{arith}
use borrow.Author.Tests.{leb-true, lt-ltb}
use lib.ListN.{length, length-append, get_or}
use Rattle.std.specs.Prelude.{Option, Some, None, IfSome, Result, MatchResult}
use Rattle.listlaws.specs.Over.{over}
use Rattle.listlaws.proofs.Over.{over_none, length_over, over_over}
use Rattle.number.specs.declared.Fault.{Fault}
use Rattle.fields.specs.Parser.{Parsed, read, fault, Parser}
use Rattle.fields.specs.Fields.{fault_number, number}
use Rattle.replies.specs.Replies.{bytes_of, fits, fitting}
use Rattle.outputs.specs.Output.{Calling, none, tagged, given, given_by, output, Runs}
use Rattle.outputs.proofs.Fitting.{fitting_room, given_past}
use Rattle.outputs.proofs.Tags.{tag_then}
use Rattle.outputs.proofs.Given.{call_ill, make_ill, make_taken, make_refused}
use Rattle.run_calls.specs.declared.Next.{Next}
use Rattle.run_calls.specs.declared.Turn.{Turn}
use Rattle.run_calls.specs.declared.Went.{Went}
use Rattle.run_calls.specs.Turns.{went_of, end_of, turn_of, Says, Ends, behind, given_of, Turns, TurnsInPlace, Begins, Finishes}

pub one_less : (n turn : ℕ) → turn < n → n - turn ≡ suc (n - (turn + 1))
one_less n turn h = omega arith

module _ {P M S A : Type 0} (C : Calling M S A) (state_of : P → S) (Valid : P → Type 0) where
  -- ---- one turn

  -- what is to be written may be said in other words
  pub same_turns : {run : List ℕ} {all all' : ℕ → List (List ℕ)} {x : List ℕ} {place : ℕ} {t : Turn P} {y : List ℕ} → ((most : ℕ) → all most ≡ all' most)
      → Turns C state_of Valid run all' x place t y → Turns C state_of Valid run all x place t y
  same_turns {x = x} {place = place} e t =
      record {
        written = t.written;
        bytes = t.bytes;
        place_is = t.place_is;
        room = t.room;
        rest = λ most. ap (fitting (length x) place) (e most) ∙ t.rest most;
        valid = t.valid;
      }

  -- the numbers l, and then what is behind them
  module _ (run x : List ℕ) (place : ℕ) (l : List ℕ) (next : Option (Next P)) (valid : IfSome next (λ n. Valid n.player)) where
    by_fit : (b : Bool) → fits (length x) place (length (bytes_of l)) ≡ b
        → Turns C state_of Valid run (λ most. l ∷ behind C state_of run next most) x place
        (turn_of (went_of (cond b (Some (place + length (bytes_of l))) None) place) next) (cond b (over x place (bytes_of l)) x)
    unfolding fitting
    by_fit true e =
        record {
          written = bytes_of l;
          bytes = refl;
          place_is = refl;
          room = λ h. leb-true (place + length (bytes_of l)) (length x) e;
          rest = λ most. rw e;
          valid = valid;
        }
    by_fit false e =
        record { written = []; bytes = sym (over_none x place); place_is = omega arith; room = λ h. h; rest = λ most. rw e; valid = tt }

    pub said : {w : Went} {y : List ℕ} → Says x place l w y → Turns C state_of Valid run (λ most. l ∷ behind C state_of run next most) x place (turn_of w next) y
    said g = rw (g.went_is, g.written.answer, g.written.bytes) (by_fit (fits (length x) place (length (bytes_of l))) refl)

  -- the numbers l, behind which the output ends
  module _ (run x : List ℕ) (place : ℕ) (l : List ℕ) where
    ends : (after : Option ℕ) → turn_of {P = P} (went_of after place) None ≡ record { place = end_of after place; next = None }
    ends (Some after) = refl
    ends None = refl

    pub ended : {end : ℕ} {y : List ℕ} → Ends x place l end y → Turns C state_of Valid run (λ most. l ∷ []) x place (record { place = end; next = None }) y
    ended g = rw (g.end_is, ← ends g.after) (said run x place l None tt (record { after = g.after; written = g.written; went_is = refl }))

  -- a call whose numbers were written, with what is played after it
  pub answered : (run : List ℕ) (p : P) (n : Next P) {v : Parsed A} {a : A} {l x : List ℕ} {place : ℕ} {w : Went} {y : List ℕ} → read a n.at ≡ v
      → C.numbers (state_of p) a ≡ l → C.state_after (state_of p) a ≡ state_of n.player → Valid n.player → Says x place l w y
      → Turns C state_of Valid run (given_of C state_of p run v) x place (turn_of w (Some n)) y
  unfolding given_by
  answered run p n {l = l} r numbers_are state_is valid s = same_turns (λ most. rw (← r, numbers_are, state_is)) (said run _ _ l (Some n) valid s)

  -- malformed bytes
  pub call_malformed : (run : List ℕ) (p : P) {v : Parsed A} {f : ℕ} {x : List ℕ} {place end : ℕ} {y : List ℕ} → fault f ≡ v → Ends x place (255 ∷ []) end y
      → Turns C state_of Valid run (given_of C state_of p run v) x place (record { place = end; next = None }) y
  call_malformed run p r s = same_turns (λ most. call_ill C (state_of p) _ r) (ended run _ _ (255 ∷ []) s)

  -- a call behind its tag
  pub behind_tag : (by_tag : List (Parser A)) → C.asked ≡ tagged by_tag → (run : List ℕ) (n : Next P) {tag at : ℕ} → read tag at ≡ number run n.at
      → (x : List ℕ) (place : ℕ) (r : Result Went Fault) (n' : Next P) (y : List ℕ)
      → TurnsInPlace C state_of Valid (get_or by_tag tag none) run (record { at = at; player = n.player }) x place r n' y
      → TurnsInPlace C state_of Valid C.asked run n x place r n' y
  behind_tag by_tag e run n is x place r n' y w =
      subst
      (λ v. MatchResult r (λ t. Turns C state_of Valid run (given_of C state_of n.player run v) x place (turn_of t (Some n')) y) (λ f. (fault (fault_number f) ≡ v) × (y ≡ x) × (n'.player ≡ n.player)))
      (tag_then by_tag run n.at is ∙ ap (λ (q : Parser A). q run n.at) (sym e)) w

  -- ---- the first turn

  module _ (run : List ℕ) {x y : List ℕ} where
    pub begins_malformed : {f end : ℕ} → fault f ≡ C.make run 0 → Ends x 0 (255 ∷ []) end y → Begins C state_of Valid run x (record { place = end; next = None }) y
    begins_malformed r s = record { all = _; given_is = make_ill C run r; turned = ended run _ _ (255 ∷ []) s }

    pub begins_made : {m : M} (n : Next P) {w : Went} → read m n.at ≡ C.make run 0 → C.make_answer m ≡ 0 → C.made m ≡ state_of n.player → Valid n.player
        → Says x 0 (0 ∷ []) w y → Begins C state_of Valid run x (turn_of w (Some n)) y
    begins_made n r z state_is valid s =
        record { all = _; given_is = make_taken C run r z ∙ rw state_is; turned = said run _ _ (0 ∷ []) (Some n) valid s }

    pub begins_refused : {m : M} {at number : ℕ} {w : Went} → read m at ≡ C.make run 0 → number ≡ C.make_answer m → (number ≡ 0 → ⊥)
        → Says x 0 (number ∷ []) w y → Begins C state_of Valid run x (turn_of w None) y
    begins_refused {number = number} r e z s = record { all = _; given_is = make_refused C run r e z; turned = said run _ _ (number ∷ []) None tt s }

  -- ---- the turns

  -- where the run doesn't go on, nothing is written
  pub finishes_none : (run x : List ℕ) (place left : ℕ) {next : Option (Next P)} → next ≡ None → Finishes (behind C state_of run next left) x place place x
  unfolding fitting
  finishes_none run x place left e = rw e (record { place_is = omega arith; bytes = sym (over_none x place) })

  -- From x₀, of which `all` was to be written from `start` on, to x: after the turn t at most `left` calls are to be written.
  pub record Goes (run x₀ : List ℕ) (start : ℕ) (all : List (List ℕ)) (x : List ℕ) (t : Turn P) (left : ℕ) : Type 0 where
    pub long : length x ≡ length x₀
    pub bytes : over x t.place (fitting (length x₀) t.place (behind C state_of run t.next left)) ≡ over x₀ start (fitting (length x₀) start all)
    pub end : t.place + length (fitting (length x₀) t.place (behind C state_of run t.next left)) ≡ start + length (fitting (length x₀) start all)
    pub room : t.place ≤ length x₀
    pub valid : IfSome t.next (λ n. Valid n.player)

  -- as the turns begin
  pub goes_first : (run x : List ℕ) (place : ℕ) (n : Next P) → place ≤ length x → Valid n.player
      → Goes run x place (behind C state_of run (Some n) (length run)) x (record { place = place; next = Some n }) (length run)
  goes_first run x place n room valid = record { long = refl; bytes = refl; end = refl; room = room; valid = valid }

  module _ {run x₀ : List ℕ} {start : ℕ} {all : List (List ℕ)} {x : List ℕ} {t : Turn P} {left : ℕ} (g : Goes run x₀ start all x t left) where
    -- no call is left
    goes_none : behind C state_of run t.next left ≡ [] → Finishes all x₀ start t.place x
    unfolding fitting
    goes_none e =
        record {
          place_is = omega (arith, rw e at g.end);
          bytes = sym (over_none x t.place) ∙ rw e at g.bytes;
        }

    pub goes_ended : t.next ≡ None → Finishes all x₀ start t.place x
    goes_ended e = goes_none (rw e)

    pub goes_past : (n : Next P) → t.next ≡ Some n → length run ≤ n.at → Finishes all x₀ start t.place x
    goes_past n e h = goes_none (rw e (given_past C left (state_of n.player) run n.at h))

    none_left : (next : Option (Next P)) → behind C state_of run next 0 ≡ []
    unfolding given
    none_left (Some n) = refl
    none_left None = refl

    pub goes_end : left ≡ 0 → Finishes all x₀ start t.place x
    goes_end e = goes_none (rw e (none_left t.next))

  -- what is written behind what was written
  module _ (x : List ℕ) (place : ℕ) (l l' : List ℕ) where
    joined : {y : List ℕ} {m : ℕ} → y ≡ over x place l → m ≡ place + length l → place + length l + length l' ≤ length x → over y m l' ≡ over x place (l ++ l')
    joined e e' room = rw (e, e') (over_over x place l l' room)

  module _ {run x₀ : List ℕ} {start : ℕ} {all : List (List ℕ)} {x : List ℕ} {t : Turn P} {left : ℕ} (n : Next P) (e : t.next ≡ Some n)
      (g : Goes run x₀ start all x t (suc left)) (some : n.at < length run) {u : Turn P} {y : List ℕ}
      (r : Turns C state_of Valid run (given_of C state_of n.player run (C.asked run n.at)) x t.place u y) where
    after : List ℕ
    after = fitting (length x₀) u.place (behind C state_of run u.next left)

    -- what is to come is what the turn wrote, and what comes behind it
    split : fitting (length x₀) t.place (behind C state_of run t.next (suc left)) ≡ r.written ++ after
    unfolding given after
    split = rw (e, lt-ltb n.at (length run) some) (rw g.long at (r.rest left))

    here : u.place ≤ length x₀
    here = rw g.long at (r.room (omega (arith, g.room, g.long)))

    room : t.place + length r.written + length after ≤ length x
    unfolding after
    room = omega (arith, fitting_room (length x₀) u.place (behind C state_of run u.next left) here, r.place_is, g.long)

    pub goes_on : Goes run x₀ start all y u left
    unfolding after
    goes_on =
        record {
          long = rw r.bytes (length_over x t.place r.written (omega (arith, room))) ∙ g.long;
          bytes = joined x t.place r.written after r.bytes r.place_is room ∙ rw split at g.bytes;
          end = omega (arith, r.place_is, g.end, ap length split, length-append r.written after);
          room = here;
          valid = r.valid;
        }

  -- ---- the whole run

  module _ {run x : List ℕ} {t : Turn P} {y : List ℕ} (b : Begins C state_of Valid run x t y) where
    rest : List ℕ
    rest = fitting (length x) t.place (behind C state_of run t.next (length run))

    whole : output C run (length x) ≡ b.turned.written ++ rest
    unfolding output rest
    whole = rw b.given_is (b.turned.rest (length run))

    inside : t.place ≤ length x
    inside = b.turned.room (omega arith)

    same_room : length y ≡ length x
    same_room = rw b.turned.bytes (length_over x 0 b.turned.written (omega (arith, inside, b.turned.place_is)))

    pub runs : {n : ℕ} {z : List ℕ} → Finishes (behind C state_of run t.next (length run)) y t.place n z → Runs C run x n z
    unfolding rest
    runs f =
        let w = b.turned in
        let room : 0 + length w.written + length rest ≤ length x =
        omega (arith, fitting_room (length x) t.place (behind C state_of run t.next (length run)) inside, w.place_is) in
        record {
          count = omega (arith, rw same_room at f.place_is, w.place_is, ap length whole, length-append w.written rest);
          bytes = rw whole (rw same_room at f.bytes ∙ joined x 0 w.written rest w.bytes w.place_is room);
        }
