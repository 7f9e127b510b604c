-- The restart rule of what is printed holds. Assumes nothing. The proof:
-- 1. All that accepted blocks play is one list, `whole`. What is shown of the calls is a front of it, and what is heard of them too (`shown_front`, `heard_front`).
-- 2. The frames of later calls stand in it at the number of those played before (`whole_after`). An item's calls play none.
-- 3. So a printed line at or after a restart is a frame from it (`value_is`), and frames from two restarts are equal by the rule of crate `restart`.
use Prim.Native.Nat.{ℕ, ◌+◌, ◌<◌, min}
use mathlib.Core.Path.{◌≡◌, refl, sym, ap, ap₂, ◌∙◌}
use mathlib.Core.Bool.{Bool, true, false, cond}
use mathlib.Core.List.{List, [], ◌∷◌, ◌++◌, append_assoc}
use native.Mathlib.Omega.{arith}
use borrow.Author.Tests.{eqb-true}
use lib.Dec.{eqb}
use lib.ListN.{length, get_or, take, drop, length-append, take-append-drop, get_or-append}
use lib.Seq.{get_or-append-add, get_or-drop, drop-append-le}
use lib.Ieee.{Float, nan}
use Rattle.codes.specs.declared.ItemCodes.{ItemCodes}
use Rattle.codes.specs.declared.RestartCodes.{RestartCodes}
use Rattle.codes.specs.declared.SettingsCodes.{SettingsCodes}
use Rattle.calls.specs.State.{State}
use Rattle.calls.specs.Blocks.{pending_of}
use Rattle.calls.specs.Calls.{Call, settings, shape, path, bus, phase, block, accepts, made, step, after}
use Rattle.calls.specs.Laws.{frames_of, frames_in}
use Rattle.calls.proofs.Played.{list_counts}
use Rattle.restart.specs.Heard.{Side, frames_up_to, heard}
use Rattle.restart.specs.Heard as Heard
use Rattle.restart.specs.Rule.{RestartFrom, calls_of, state_at, state_past, restart_block, frame_at, frames_from, JustMade}
use Rattle.restart.proofs.Steps.{read_length}
use Rattle.restart.proofs.RestartRule.{restart_rule}
use Rattle.fields.specs.Parser.{read, fault}
use Rattle.fields.proofs.Chains.{was_read, same_value, no_fault}
use Rattle.record.specs.Questions.{item_answer}
use Rattle.record.specs.Reading.{item}
use Rattle.record.specs.Records.{accepted_item}
use Rattle.record.proofs.Answers.{settings_accepted}
use Rattle.item_calls.specs.Calls.{item_calls, item_state}
use Rattle.sittings.specs.OneByOne.{flat, sitting_calls, call_frames, shown, printed}
use Rattle.sittings.proofs.Frames.{frames_counted}
use Rattle.sittings.proofs.Unplayed.{unplayed}
use Rattle.printed_rule.specs.Rule.{SittingRestart, restart_line, value_from, PrintsLine, PrintedRule}

-- ---- the front of a list

record Front (l m : List Float) : Type 0 where
  rest : List Float
  is : l ++ rest ≡ m

front_none : {m : List Float} → Front [] m
front_none {m} = record { rest = m; is = refl }

front_behind : {l m : List Float} (a : List Float) → Front l m → Front (a ++ l) (a ++ m)
front_behind {l} a f = record { rest = f.rest; is = append_assoc a l f.rest ∙ ap (λ z. a ++ z) f.is }

front_take : (k : ℕ) (a m : List Float) → Front (take k a) (a ++ m)
front_take k a m = record { rest = drop k a ++ m; is = sym (append_assoc (take k a) (drop k a) m) ∙ ap (λ z. z ++ m) (take-append-drop k a) }

front_at : {l m : List Float} → Front l m → (n : ℕ) → n < length l → get_or l n nan ≡ get_or m n nan
front_at {l} f n h = sym (get_or-append l f.rest nan n h) ∙ ap (λ z. get_or z n nan) f.is

-- ---- one call, accepted or refused, with the frames `a` if it is a block, before calls of which l is a front of m

call_front : {l m : List Float} (t : Bool) (a : List Float) → Front l m → Front (cond t (a ++ l) []) (cond t a [] ++ m)
call_front true a f = front_behind a f
call_front false a f = front_none

edit_front : {l m : List Float} (t : Bool) → Front l m → Front (cond t [] l) (cond t [] [] ++ m)
edit_front true f = front_none
edit_front false f = f

phase_front : {l m : List Float} (t : Bool) → Front l m → Front (cond t l l) (cond t [] [] ++ m)
phase_front true f = f
phase_front false f = f

block_front : {l m : List Float} (t : Bool) (r : RestartCodes) (n : ℕ) (a : List Float) → Front l m → Front (cond t (frames_up_to (pending_of r) n a l) l) (cond t a [] ++ m)
unfolding pending_of
block_front {l} {m} true r n a f = by_test (eqb r.code 1) refl
  where
    by_test : (t : Bool) → eqb r.code 1 ≡ t → Front (frames_up_to (pending_of r) n a l) (a ++ m)
    by_test true e = rw e (front_take (min r.frame n) a m)
    by_test false e = rw e (front_behind a f)
block_front false r n a f = f

none_length : (t : Bool) → length {A = Float} (cond t [] []) ≡ 0
none_length true = refl
none_length false = refl

block_length : (t : Bool) (a : List Float) (n : ℕ) → (t ≡ true → length a ≡ n) → length (cond t a []) ≡ cond t n 0
block_length true a n e = e refl
block_length false a n e = refl

-- ---- all that the accepted ones of some calls play

module _ (side : Side) where
  abbrev own : State → Call → List Float
  own p c = cond (accepts p c) (call_frames side p c) []

  unfoldable whole : State → List Call → List Float
  whole p [] = []
  whole p (c ∷ cs) = own p c ++ whole (step p c) cs

  -- what is shown, up to the first refused call
  shown_front : (p : State) (cs : List Call) → Front (shown side p cs) (whole p cs)
  unfolding shown whole
  shown_front p [] = front_none
  shown_front p (c ∷ cs) = call_front (accepts p c) (call_frames side p c) (shown_front (step p c) cs)

  -- what is heard, up to the next restart or edit
  heard_front : (p : State) (cs : List Call) → Front (heard side p cs) (whole p cs)
  unfolding heard whole
  heard_front p [] = front_none
  heard_front p (settings c ∷ cs) = edit_front (accepts p (settings c)) (heard_front (step p (settings c)) cs)
  heard_front p (shape c ∷ cs) = edit_front (accepts p (shape c)) (heard_front (step p (shape c)) cs)
  heard_front p (path c ∷ cs) = edit_front (accepts p (path c)) (heard_front (step p (path c)) cs)
  heard_front p (bus k z ∷ cs) = edit_front (accepts p (bus k z)) (heard_front (step p (bus k z)) cs)
  heard_front p (phase t ∷ cs) = phase_front (accepts p (phase t)) (heard_front (step p (phase t)) cs)
  heard_front p (block t n r x y ∷ cs) = block_front (accepts p (block t n r x y)) r n (Heard.read side p t n r x y) (heard_front (step p (block t n r x y)) cs)

  -- ---- as much as is counted

  own_length : (p : State) (c : Call) → length (own p c) ≡ frames_of p c
  own_length p (settings c) = none_length (accepts p (settings c))
  own_length p (shape c) = none_length (accepts p (shape c))
  own_length p (path c) = none_length (accepts p (path c))
  own_length p (bus k z) = none_length (accepts p (bus k z))
  own_length p (phase t) = none_length (accepts p (phase t))
  own_length p (block t n r x y) = block_length (accepts p (block t n r x y)) (Heard.read side p t n r x y) n (λ e. read_length p t n r x y e side)

  whole_length : (p : State) (cs : List Call) → length (whole p cs) ≡ frames_in p cs
  unfolding whole frames_in
  whole_length p [] = refl
  whole_length p (c ∷ cs) = length-append (own p c) (whole (step p c) cs) ∙ ap₂ (λ m n. m + n) (own_length p c) (whole_length (step p c) cs)

  whole_append : (p : State) (a b : List Call) → whole p (a ++ b) ≡ whole p a ++ whole (after p a) b
  unfolding whole after
  whole_append p [] b = refl
  whole_append p (c ∷ a) b = ap (λ z. own p c ++ z) (whole_append (step p c) a b) ∙ sym (append_assoc (own p c) (whole (step p c) a) (whole (after (step p c) a) b))

  -- on a player just made, the frames of later calls stand behind those that it has played
  whole_after : (codes : SettingsCodes) (seed : ℕ) (a b : List Call) (n : ℕ) →
      let p = made codes seed in
      get_or (whole p (a ++ b)) ((after p a).played + n) nan ≡ get_or (whole (after p a) b) n nan
  whole_after codes seed a b n =
      let p = made codes seed in
      let count : (after p a).played ≡ length (whole p a) = (list_counts codes seed a).played_is ∙ sym (whole_length p a) in
      ap₂ (λ l k. get_or l (k + n) nan) (whole_append p a b) count ∙ get_or-append-add (whole p a) (whole (after p a) b) n nan

  -- ---- the frames from a restart

  module _ {from : State} (r : RestartFrom from) where
    abbrev values : List Float
    values = Heard.read side (state_at r) r.transport r.frames r.restart r.x r.y

    from_front : Front (frames_from r side) (drop (frame_at r) (whole (state_at r) (restart_block r ∷ r.rest)))
    unfolding frames_from whole
    from_front =
        let e = r.accepted in
        let long : length values ≡ r.frames = read_length (state_at r) r.transport r.frames r.restart r.x r.y (rw e) side in
        rw (e, drop-append-le (frame_at r) values (whole (state_past r) r.rest) (omega arith)) (front_behind (drop (frame_at r) values) (heard_front (state_past r) r.rest))

-- ---- an accepted item's settings make a player

item_passes : (s : List ℕ) (i : ItemCodes) (next : ℕ) → accepted_item s 0 ≡ read i next → item_answer i ≡ 0
unfolding accepted_item
item_passes s i next e = let (j, m, first, last) = was_read (item s 0) _ e in by_test j m (eqb (item_answer j) 0) refl last
  where
    by_test : (j : ItemCodes) (m : ℕ) (t : Bool) → eqb (item_answer j) 0 ≡ t → cond t (read j m) (fault (item_answer j)) ≡ read i next → item_answer i ≡ 0
    by_test j m true z e = ap item_answer (sym (same_value e)) ∙ eqb-true (item_answer j) 0 z
    by_test j m false z e = absurd (no_fault e)

-- ---- the rule

module _ {s : List ℕ} (a : SittingRestart s) where
  abbrev just_made : JustMade
  just_made =
      let m = settings_accepted a.item (item_passes s a.item a.next a.is_read) in
      record { codes = a.item.settings; seed = a.item.seed; accepted = rw m }

  module _ (side : Side) where
    abbrev calls : List Call
    calls = flat (sitting_calls a.item (drop a.next s))

    -- the item's calls play nothing
    line_is : (k : ℕ) → get_or (whole side (item_state a.item) calls) k nan ≡ get_or (whole side (made a.item.settings a.item.seed) (calls_of a.restart)) k nan
    line_is k =
        let i = a.item in
        let none = unplayed i in
        let at : (item_state i).played + k ≡ k = omega arith in
        rw a.calls_are (sym (rw at at (whole_after side i.settings i.seed (item_calls i) calls k)))

    value_is : (n : ℕ) → PrintsLine a side n → value_from a side n ≡ get_or (frames_from a.restart side) n nan
    unfolding printed
    value_is n h =
        let i = a.item in
        let r = a.restart in
        let later = whole side (state_at r) (restart_block r ∷ r.rest) in
        let at : restart_line a + n ≡ (state_at r).played + (frame_at r + n) = omega arith in
        let long = frames_counted s i a.next a.is_read side in
        front_at (shown_front side (item_state i) calls) (restart_line a + n) (omega arith)
        ∙ line_is (restart_line a + n)
        ∙ ap (λ k. get_or (whole side (made i.settings i.seed) (calls_of r)) k nan) at
        ∙ whole_after side i.settings i.seed r.before (restart_block r ∷ r.rest) (frame_at r + n)
        ∙ sym (get_or-drop (frame_at r) later n nan)
        ∙ sym (front_at (from_front side r) n h.in_time)

pub printed_rule : PrintedRule
printed_rule s₁ s₂ a₁ a₂ fields hyp side n h₁ h₂ =
    value_is a₁ side n h₁
    ∙ restart_rule (just_made a₁) (just_made a₂) a₁.restart a₂.restart fields hyp side n h₁.in_time h₂.in_time
    ∙ sym (value_is a₂ side n h₂)
