-- A turn of the code, from the equations of what it calls. Assumes nothing.
--     turn_goes, turn_writes     nothing is printed, or a text
--     item_short, event_short     the line of a fault has room
--     block_fails, block_facts, block_lines_lem, block_turned, bus_fails, bus_goes, restart_goes, end_goes     the events
use Prim.Native.Nat.{ℕ, suc, ◌+◌, ◌≤◌, ◌<◌, ◌^◌}
use mathlib.Core.Path.{◌≡◌, refl, sym, ap, ◌∙◌}
use mathlib.Core.Bool.{true, cond}
use mathlib.Core.List.{List, [], ◌∷◌}
use native.Mathlib.Omega.{arith}
use native.Mathlib.Numerals.{add-one}
use borrow.Author.Tests.{eq-eqb, ne_eqb, lt-ltb, le-ltb}
use lib.Dec.{eqb, ltb}
use lib.ListN.{length, take, length-append, length-replicate}
use lib.Ieee.{Float}
use Rattle.floatlaws.specs.Numbers.{f32_0}
use Rattle.listlaws.proofs.Over.{over_none}
use Rattle.number.specs.declared.Fault.TheVariants.{CutShort}
use Rattle.std.specs.Prelude.{Option, None, Ok, Err}
use Rattle.number.specs.Read.{Reading, leading, read_at}
use Rattle.fields.specs.Parser.{read, fault}
use Rattle.streams.proofs.Parsers.{all_leads, ends}
use Rattle.questions.specs.declared.question.Question.{Question}
use Rattle.questions.specs.Answers.{question_number}
use Rattle.questions.proofs.Numbers.{number_not_zero}
use Rattle.questions.proofs.Facts.{BlockAccepted, block_accepted}
use Rattle.calls.specs.Calls.{block, bus, questions, answer, accepts, accepted, step}
use Rattle.restart.specs.Heard.{Side, x_side, y_side}
use Rattle.restart.specs.Heard as Heard
use Rattle.restart.proofs.Steps.{read_values}
use Rattle.calls.proofs.Blocks.{block_transport}
use Rattle.player.specs.declared.Player.{Player}
use Rattle.player.specs.declared.Deck.{Deck}
use Rattle.player.specs.declared.Played.{Played}
use Rattle.player.specs.Player.{state_of, with_deck}
use Rattle.player.specs.Promises.{Plays, Changes}
use Rattle.codes.specs.declared.TransportCodes.{TransportCodes}
use Rattle.text.specs.Digits.{decimal}
use Rattle.text.specs.Lines.{header, lines, more}
use Rattle.text.specs.Write.{Writes}
use Rattle.text.proofs.Decimal.{size_most}
use Rattle.text.proofs.Steps.{lines_length, lines_most, numbers_length}
use Rattle.listlaws.proofs.Write.{wrote}
use Rattle.sittings.specs.declared.Event.{Event}
use Rattle.sittings.specs.declared.Event.TheVariants.{Block, Restart, Bus, End}
use Rattle.turns.specs.declared.Playback.{Playback}
use Rattle.turns.specs.declared.Sitting.{Sitting}
use Rattle.turns.specs.declared.Ended.{Ended}
use Rattle.turns.specs.declared.Turned.{Turned}
use Rattle.sittings.specs.Events.{event}
use Rattle.sittings.specs.Courses.{Course, no_restart, moved_on, silence, block_of, block_values, block_lines, after_block, after_restart, after_bus}
use Rattle.codes.specs.declared.ItemCodes.{ItemCodes}
use Rattle.record.specs.Items.{transport_of}
use Rattle.record.specs.Records.{accepted_item}
use Rattle.item_calls.specs.Calls.{item_state}
use Rattle.sittings.specs.Sheets.{failed, started}
use Rattle.sittings.specs.Windows.{BeingRead, the_item, the_event, fault_line, playing, closing, stuck, wants, went, fault_turn, event_turn, read_turn, playing_turn, closing_turn, stuck_turn, item_turn, turn, last_text}
use Rattle.sittings.specs.Windows as Windows
use Rattle.turns.specs.Turns.{course_of, first_playback, restarted, stage_of, index_of, next_sitting, ValidSitting, place_after, turn_room, settled, Went}

module _ {index : ℕ} {out : List ℕ} {place : ℕ} (room : place + turn_room ≤ length out) where
  pub turn_goes : (t : Sitting) (d : Option Ended) → index_of (settled d t) ≤ suc index → ValidSitting (settled d t) → (taken : ℕ) {r : Turned}
      → r ≡ record { ended = d; taken = taken; place = place } → Went index (went [] taken (stage_of (settled d t))) out place t r out
  turn_goes t d counts valid taken e =
      rw e
      (record {
        text = [];
        turn_is = refl;
        bytes = sym (over_none out place);
        place_is = omega arith;
        room = omega (arith, room);
        counts = counts;
        valid = valid;
      })

  pub turn_writes : {text : List ℕ} {w : Option ℕ} {out' : List ℕ} → Writes out place text w out' → length text ≤ turn_room
      → (t : Sitting) (d : Option Ended) → index_of (settled d t) ≤ suc index → ValidSitting (settled d t) → (taken : ℕ) {r : Turned}
      → r ≡ record { ended = d; taken = taken; place = place_after w place } → Went index (went text taken (stage_of (settled d t))) out place t r out'
  turn_writes {text} w short t d counts valid taken e =
      let fit : place + length text ≤ length out = omega (arith, room) in
      let done = wrote w fit in
      rw (e, done.0)
      (record {
        text = text;
        turn_is = refl;
        bytes = done.1;
        place_is = refl;
        room = fit;
        counts = counts;
        valid = valid;
      })

-- ---- the line of a fault

more_short : (n : ℕ) → n < 2 ^ 64 → length (more (n ∷ [])) ≤ 22
unfolding more
more_short n h = omega (arith, size_most n h, length-append (decimal n) (10 ∷ []))

pub item_short : (n : ℕ) → n < 2 ^ 64 → length (fault_line the_item n) ≤ turn_room
unfolding more
item_short n h = omega (arith, size_most n h, numbers_length n [])

pub event_short : (index n : ℕ) → index < 2 ^ 64 → n < 2 ^ 64 → length (fault_line (the_event index) n) ≤ turn_room
unfolding more
event_short index n i h = omega (arith, size_most index i, numbers_length index (n ∷ []), more_short n h)

-- ---- an event

-- what the next event meets: where a player has gone on, and after a block
abbrev pub with_player : Playback → Player → Playback
with_player p player = record { player = player; transport = p.transport; waiting = p.waiting; index = p.index }

abbrev pub after_played : Playback → Deck → TransportCodes → Playback
after_played p deck moved = record { player = with_deck p.player deck; transport = moved; waiting = no_restart; index = p.index }

module _ (p : Playback) (frames taken : ℕ) (x y : List Float) (hx : length x ≡ 4096) (hy : length y ≡ 4096) where
  same_answer : answer (state_of p.player) (block p.transport frames p.waiting x y) ≡ answer (state_of p.player) (block_of (course_of p) frames)
  unfolding answer questions
  same_answer =
      let e = length-replicate 4096 f32_0 in
      rw (hx, hy, e)

  same_step : step (state_of p.player) (block p.transport frames p.waiting x y) ≡ step (state_of p.player) (block_of (course_of p) frames)
  unfolding step accepted
  same_step = rw same_answer

  pub block_fails : {q : Question} {x' y' : List Float} → Plays p.player p.transport frames p.waiting x y (Err q) x' y' → {n : ℕ} → n ≡ question_number q
      → event_turn (course_of p) (Block frames) taken ≡ went (failed p.index n) taken Windows.no_more
  unfolding event_turn
  block_fails {q} w e =
      let is = w.answer_is ∙ same_answer in
      rw (e, ← is, ne_eqb (question_number q) 0 (number_not_zero q))

  module _ {r : Played} {x' y' : List Float} (w : Plays p.player p.transport frames p.waiting x y (Ok r) x' y') where
    ok : accepts (state_of p.player) (block p.transport frames p.waiting x y) ≡ true
    ok = eq-eqb _ 0 (sym w.answer_is)

    ok' : accepts (state_of p.player) (block_of (course_of p) frames) ≡ true
    ok' = eq-eqb _ 0 (sym same_answer ∙ sym w.answer_is)

    pub block_facts : BlockAccepted p.player.deck.played p.transport frames p.waiting (length x) (length y)
    unfolding answer questions
    block_facts = block_accepted _ _ _ _ _ _ (sym w.answer_is)

    -- what the buffers hold does not depend on what they held before
    heard : (side : Side) → Heard.read side (state_of p.player) p.transport frames p.waiting x y ≡ block_values side (course_of p) frames
    heard side =
        let (u, is) = block_transport (state_of p.player) p.transport frames p.waiting x y ok in
        read_values (state_of p.player) p.transport frames p.waiting x y u is ok side
        ∙ sym (read_values (state_of p.player) p.transport frames p.waiting silence silence u is ok' side)

    heard_x : take frames x' ≡ block_values x_side (course_of p) frames
    unfolding Heard.read
    heard_x = ap (take frames) w.x_is ∙ heard x_side

    heard_y : take frames y' ≡ block_values y_side (course_of p) frames
    unfolding Heard.read
    heard_y = ap (take frames) w.y_is ∙ heard y_side

    pub block_lines_lem : lines p.player.deck.played (take frames x') (take frames y') ≡ block_lines (course_of p) frames
    unfolding block_lines
    block_lines_lem = rw (heard_x, heard_y)

    pub block_goes : event_turn (course_of p) (Block frames) taken
        ≡ went (block_lines (course_of p) frames) taken (stage_of (next_sitting (after_played p r.deck (moved_on p.transport frames))))
    unfolding event_turn after_block
    block_goes = let s = w.state_is ∙ same_step in rw (ok', s, add-one)

    pub block_fits : length x' ≡ length x → length y' ≡ length y → (frames ≤ length x') × (frames ≤ length y') × (frames ≤ 2 ^ 32) × (p.player.deck.played + frames ≤ 2 ^ 64)
    block_fits ex ey = let f = block_facts in (omega (arith, f.short), omega (arith, f.short), omega (arith, f.short), omega (arith, f.within_life))

    pub block_turned : length x' ≡ length x → length y' ≡ length y → {out : List ℕ} {place : ℕ} → place + turn_room ≤ length out → {v : Option ℕ} {out' : List ℕ}
        → Writes out place (lines p.player.deck.played (take frames x') (take frames y')) v out'
        → {moved : TransportCodes} → moved ≡ moved_on p.transport frames → {next : ℕ} → next ≡ place_after v place
        → {q : Turned} → q ≡ record { ended = None; taken = taken; place = next } → {t : Sitting} → t ≡ next_sitting (after_played p r.deck moved)
        → Went p.index (event_turn (course_of p) (Block frames) taken) out place t q out'
    block_turned ex ey space written m n q_is t_is =
        let fit = block_fits ex ey in
        let size = lines_length frames p.player.deck.played x' y' fit.0 fit.1 in
        let short : length (block_lines (course_of p) frames) ≤ turn_room =
        rw (← block_lines_lem) (omega (arith, size, lines_most frames p.player.deck.played fit.3, block_facts.short)) in
        rw (block_goes, t_is, m)
        (turn_writes space (rw block_lines_lem at written) short (next_sitting (after_played p r.deck (moved_on p.transport frames))) None (omega arith) w.valid taken (rw n at q_is))

module _ (p : Playback) (k : ℕ) (value : Float) (taken : ℕ) where
  pub bus_fails : {q : Question} → Changes p.player (bus k value) (Err q) → {n : ℕ} → n ≡ question_number q
      → event_turn (course_of p) (Bus k value) taken ≡ went (failed p.index n) taken Windows.no_more
  unfolding event_turn
  bus_fails {q} w e =
      let is = w.answer_is in
      rw (e, ← is, ne_eqb (question_number q) 0 (number_not_zero q))

  pub bus_goes : {player : Player} → Changes p.player (bus k value) (Ok player)
      → event_turn (course_of p) (Bus k value) taken ≡ went [] taken (stage_of (next_sitting (with_player p player)))
  unfolding event_turn after_bus
  bus_goes w =
      let ok = eq-eqb _ 0 (sym w.answer_is) in
      let s = w.state_is in
      rw (ok, s, add-one)

pub restart_goes : (p : Playback) (frame taken : ℕ) → event_turn (course_of p) (Restart frame) taken ≡ went [] taken (stage_of (next_sitting (restarted p frame)))
unfolding event_turn after_restart
restart_goes p frame taken = rw add-one

pub end_goes : (p : Playback) (taken : ℕ) → event_turn (course_of p) End taken ≡ went [] taken (closing p.index)
unfolding event_turn
end_goes p taken = refl

-- ---- by the bytes at hand

pub playing_none : (p : Course) (l : List ℕ) → length l ≡ 0 → playing_turn p l ≡ wants
unfolding playing_turn
playing_none p [] h = refl
playing_none p (b ∷ l) h = absurd (omega arith)

pub closing_none : (index : ℕ) (l : List ℕ) → length l ≡ 0 → closing_turn index l ≡ wants
unfolding closing_turn
closing_none index [] h = refl
closing_none index (b ∷ l) h = absurd (omega arith)

pub stuck_none : (r : BeingRead) (l : List ℕ) → length l ≡ 0 → stuck_turn r l ≡ wants
unfolding stuck_turn
stuck_none r [] h = refl
stuck_none r (b ∷ l) h = absurd (omega arith)

playing_read : (p : Course) (l : List ℕ) → (length l ≡ 0 → ⊥) → playing_turn p l ≡ read_turn p l (event l 0)
unfolding playing_turn
playing_read p [] some = absurd (some refl)
playing_read p (b ∷ l) some = refl

module _ (p : Playback) (l : List ℕ) (some : length l ≡ 0 → ⊥) where
  pub playing_fault : (n : ℕ) → fault n ≡ event l 0 → playing_turn (course_of p) l ≡ fault_turn (the_event p.index) l n
  unfolding read_turn
  playing_fault n is = playing_read (course_of p) l some ∙ rw (← is)

  pub playing_event : (e : Event) (taken : ℕ) → read e taken ≡ event l 0 → playing_turn (course_of p) l ≡ event_turn (course_of p) e taken
  unfolding read_turn
  playing_event e taken is = playing_read (course_of p) l some ∙ rw (← is)

pub closing_some : (index : ℕ) (l : List ℕ) → (length l ≡ 0 → ⊥) → closing_turn index l ≡ went (failed index 14) (length l) Windows.no_more
unfolding closing_turn
closing_some index [] some = absurd (some refl)
closing_some index (b ∷ l) some = refl

stuck_some : (r : BeingRead) (l : List ℕ) → (length l ≡ 0 → ⊥)
    → stuck_turn r l ≡ cond (ltb (leading l) (length l)) (went (fault_line r 13) (length l) Windows.no_more) (went [] (length l) (stuck r))
unfolding stuck_turn
stuck_some r [] some = absurd (some refl)
stuck_some r (b ∷ l) some = refl

module _ (r : BeingRead) (l : List ℕ) (some : length l ≡ 0 → ⊥) where
  pub stuck_on : read_at l 0 ≡ Err CutShort → stuck_turn r l ≡ went [] (length l) (stuck r)
  unfolding read_at
  stuck_on e = stuck_some r l some ∙ rw (le-ltb (leading l) (length l) (all_leads l 0 e))

  pub stuck_ends : (x : Reading) → read_at l 0 ≡ x → (x ≡ Err CutShort → ⊥) → stuck_turn r l ≡ went (fault_line r 13) (length l) Windows.no_more
  stuck_ends x e other = stuck_some r l some ∙ rw (lt-ltb (leading l) (length l) (ends l [] 0 x e other))

-- ---- what is printed last

pub last_playing : (p : Course) (l : List ℕ) {n : ℕ} → n ≡ cond (eqb (length l) 0) 18 12 → last_text (playing p) l ≡ failed p.index n
unfolding last_text
last_playing p [] e = rw e
last_playing p (b ∷ l) e = rw (e, ne_eqb (suc (length l)) 0 (λ z. omega arith))

-- ---- an item that was accepted

module _ (l : List ℕ) where
  pub item_fault : (n : ℕ) → fault n ≡ accepted_item l 0 → item_turn l (accepted_item l 0) ≡ fault_turn the_item l n
  unfolding item_turn
  item_fault n is = rw (← is)

  pub item_starts : (c : ItemCodes) (taken : ℕ) → read c taken ≡ accepted_item l 0 → (player : Player) → state_of player ≡ item_state c → {transport : TransportCodes} → transport ≡ transport_of c
      → item_turn l (accepted_item l 0) ≡ went header taken (playing (course_of (first_playback player transport)))
  unfolding item_turn started
  item_starts c taken is player state_is transport_is = rw (← is, state_is, transport_is)
