-- The sheet is that of the calls made one by one. Assumes nothing.
--     calls_one_by_one, refused_item, no_effect     the promises
use Prim.Native.Nat.{ℕ, zero, suc, ◌+◌}
use mathlib.Core.Path.{◌≡◌, refl, sym, ap, ◌∙◌}
use mathlib.Core.Bool.{Bool, true, false, cond}
use mathlib.Core.List.{List, [], ◌∷◌, ◌++◌, append_assoc}
use native.Mathlib.Nat.{add-zero}
use lib.ListN.{length, drop}
use lib.Ieee.{Float}
use Rattle.calls.specs.State.{State}
use Rattle.calls.specs.Calls.{bus, answer, accepts, step, after}
use Rattle.restart.specs.Heard.{Side, x_side, y_side}
use Rattle.calls.proofs.Played.{call_counts}
use Rattle.restart.proofs.Steps.{read_length}
use Rattle.fields.specs.Parser.{Parsed, read, fault}
use Rattle.text.specs.Lines.{header, lines}
use Rattle.text.proofs.ReadBack.{lines_append}
use Rattle.sittings.specs.declared.Event.{Event}
use Rattle.sittings.specs.declared.Event.TheVariants.{Block, Restart, Bus, End}
use Rattle.sittings.specs.Events.{event}
use Rattle.sittings.specs.Courses.{Course, silence, no_restart, restart_at, moved_on, play_call, block_of, block_values, block_lines, after_block, after_restart, after_bus}
use Rattle.sittings.specs.Sheets.{failed, after_end, from_event, from_read, events_text, events_from, from_item, started, sheet}
use Rattle.sittings.specs.OneByOne.{Script, stopped, end_stop, faulty, script_on, script_read, script_of, script, event_calls, flat, shown, first_refusal, last_line, sitting_calls, printed}
use Rattle.sittings.specs.Promises.{NoEffect, CallsOneByOne, RefusedItem}
use Rattle.sittings.proofs.Unplayed.{unplayed}

-- ---- an accepted block

module _ (p : Course) (frames : ℕ) (ok : accepts p.state (block_of p frames) ≡ true) where
  pub heard_length : (side : Side) → length (block_values side p frames) ≡ frames
  heard_length = read_length p.state p.transport frames p.waiting silence silence ok

  pub block_counts : (step p.state (block_of p frames)).played ≡ p.state.played + frames
  block_counts = rw ok at (call_counts p.state (block_of p frames))

pub bus_counts : (p : State) (k : ℕ) (value : Float) → (step p (bus k value)).played ≡ p.played
bus_counts p k value = call_counts p (bus k value) ∙ add-zero p.played

-- ---- the text of a script that is played from a course on

told : Course → Script → List ℕ
told p e =
    let calls = event_calls p.transport p.waiting e.events in
    lines p.state.played (shown x_side p.state (flat calls)) (shown y_side p.state (flat calls)) ++ last_line p.state p.index calls e.stop

-- lines of two parts, and a text
parts : (i j n : ℕ) (x y u v : List Float) (l : List ℕ) → j ≡ i + n → length x ≡ n → length y ≡ n → lines i x y ++ (lines j u v ++ l) ≡ lines i (x ++ u) (y ++ v) ++ l
parts i j n x y u v l next hx hy = rw (lines_append i x y u v (hx ∙ sym hy), hx, ← next) (sym (append_assoc (lines i x y) (lines j u v) l))

module _ (p : Course) (e : Script) where
  told_block : (frames : ℕ)
      → cond (accepts p.state (block_of p frames)) (block_lines p frames ++ told (after_block p frames) e) (failed p.index (answer p.state (block_of p frames)))
      ≡ told p (record { events = Block frames ∷ e.events; stop = e.stop })
  unfolding told event_calls flat shown first_refusal last_line after block_lines after_block lines
  told_block frames = by_test (accepts p.state (block_of p frames)) refl
    where
      by_test : (t : Bool) → accepts p.state (block_of p frames) ≡ t
          → cond t (block_lines p frames ++ told (after_block p frames) e) (failed p.index (answer p.state (block_of p frames)))
          ≡ told p (record { events = Block frames ∷ e.events; stop = e.stop })
      by_test true ok =
          let q = step p.state (block_of p frames) in
          let calls = event_calls (moved_on p.transport frames) no_restart e.events in
          rw ok
          (parts p.state.played q.played frames (block_values x_side p frames) (block_values y_side p frames) (shown x_side q (flat calls)) (shown y_side q (flat calls))
          (last_line q (suc p.index) calls e.stop)
          (block_counts p frames ok) (heard_length p frames ok x_side) (heard_length p frames ok y_side))
      by_test false fails = rw fails (rw fails)

  told_bus : (k : ℕ) (value : Float)
      → cond (accepts p.state (bus k value)) (told (after_bus p k value) e) (failed p.index (answer p.state (bus k value)))
      ≡ told p (record { events = Bus k value ∷ e.events; stop = e.stop })
  unfolding told event_calls flat shown first_refusal last_line after after_bus lines
  told_bus k value = by_test (accepts p.state (bus k value)) refl
    where
      by_test : (t : Bool) → accepts p.state (bus k value) ≡ t
          → cond t (told (after_bus p k value) e) (failed p.index (answer p.state (bus k value)))
          ≡ told p (record { events = Bus k value ∷ e.events; stop = e.stop })
      by_test true ok = rw (ok, bus_counts p.state k value)
      by_test false fails = rw fails (rw fails)

  told_restart : (frame : ℕ) → told (after_restart p frame) e ≡ told p (record { events = Restart frame ∷ e.events; stop = e.stop })
  unfolding told event_calls flat first_refusal last_line after after_restart
  told_restart frame = refl

-- a script without events
module _ (p : Course) where
  told_fault : (n : ℕ) → failed p.index n ≡ told p (stopped (faulty n))
  unfolding told event_calls flat shown last_line lines
  told_fault n = refl

  told_end : (l : List ℕ) → after_end p.index l ≡ told p (stopped (end_stop l))
  unfolding told event_calls flat shown last_line lines after_end
  told_end [] = refl
  told_end (b ∷ l) = refl

-- ---- the events one after the other

module _ (f : Course → List ℕ → List ℕ) (g : List ℕ → Script) (same : (q : Course) (l : List ℕ) → f q l ≡ told q (g l)) (p : Course) where
  by_event : (e : Event) (l : List ℕ) → from_event f p e l ≡ told p (script_on g e l)
  unfolding from_event script_on
  by_event (Block frames) l = rw (same (after_block p frames) l) (told_block p (g l) frames)
  by_event (Restart frame) l = same (after_restart p frame) l ∙ told_restart p (g l) frame
  by_event (Bus k value) l = rw (same (after_bus p k value) l) (told_bus p (g l) k value)
  by_event End l = told_end p l

  by_read : (l : List ℕ) (x : Parsed Event) → from_read f p l x ≡ told p (script_read g l x)
  unfolding from_read script_read
  by_read l (read e next) = by_event e (drop next l)
  by_read l (fault n) = told_fault p n

events_told : (most : ℕ) (p : Course) (l : List ℕ) → events_text most p l ≡ told p (script_of most l)
unfolding events_text script_of
events_told zero p l = told_fault p 18
events_told (suc most) p [] = told_fault p 18
events_told (suc most) p (b ∷ l) = by_read (events_text most) (script_of most) (events_told most) p (b ∷ l) (event (b ∷ l) 0)

-- ---- the promises

pub no_effect : NoEffect
unfolding event_calls flat
no_effect t waiting [] frame = refl
no_effect t waiting (Block n ∷ es) frame = ap (λ l. play_call t waiting n ∷ l) (no_effect (moved_on t n) no_restart es frame)
no_effect t waiting (Restart k ∷ es) frame = no_effect t (restart_at k) es frame
no_effect t waiting (Bus k value ∷ es) frame = ap (λ l. bus k value ∷ l) (no_effect t waiting es frame)
no_effect t waiting (End ∷ es) frame = no_effect t waiting es frame

pub refused_item : RefusedItem
unfolding sheet from_item
refused_item s n e = rw e

pub calls_one_by_one : CallsOneByOne
unfolding sheet from_item events_from script told started printed
calls_one_by_one s i next e =
    let p = started i in
    let l = drop next s in
    let x = printed x_side i l in
    let y = printed y_side i l in
    let end = last_line p.state 0 (sitting_calls i l) (script l).stop in
    rw (e, events_told (length l) p l)
    (ap (λ n. header ++ (lines n x y ++ end)) (unplayed i) ∙ sym (append_assoc header (lines 0 x y) end))
