-- The restart rule holds of voices: from the restart's block on, a voice is a player. Assumes nothing.
use Rattle.std.specs.Prelude.{Option, Some}
use Prim.Native.Nat.{ℕ, ◌<◌}
use mathlib.Core.Path.{◌≡◌, refl, sym, ap, ap₂, ◌∙◌, subst}
use mathlib.Core.Bool.{Bool, true, false, cond}
use mathlib.Core.List.{List, [], ◌∷◌, ◌++◌}
use lib.ListN.{length, drop}
use lib.Ieee.{Float}
use borrow.Author.Tests.{eq-eqb, eqb-true}
use Rattle.settings.specs.declared.record.Transport.{Transport}
use Rattle.settings.specs.Codes.{transport_at}
use Rattle.codes.specs.declared.TransportCodes.{TransportCodes}
use Rattle.codes.specs.declared.RestartCodes.{RestartCodes}
use Rattle.calls.specs.State.{State}
use Rattle.calls.specs.Blocks.{values}
use Rattle.calls.specs.Calls as player
use Rattle.restart.specs.Heard as single
use Rattle.restart.specs.Heard.{Side, x_side, y_side, frames_up_to, blocks_up_to}
use Rattle.restart.specs.Rule as rule
use Rattle.restart.specs.Rule.{RestartFrom, AtRestart, Hypotheses}
use Rattle.restart.proofs.Steps.{value_of, read_values}
use Rattle.restart.proofs.Reach.{Good}
use Rattle.restart.proofs.RestartRule.{same_frames}
use Rattle.ensemble_calls.specs.Ensembles.{EnsembleState}
use Rattle.ensemble_calls.specs.Blocks.{voice_values}
use Rattle.ensemble_calls.specs.Calls.{Call, settings, shape, path, bus, trigger, phase, block, answer, accepts, step, after}
use Rattle.ensemble_calls.specs.Heard.{Heard, heard_of}
use Rattle.ensemble_calls.specs.AsPlayer.{player_at, pending_at, restart_codes, own_call, own_calls}
use Rattle.voice_rule.specs.Rule.{side_of, heard, window, RestartOf, restart_block, calls_of, ensemble_at, ensemble_past, state_at, frame_at, frames_from, throughout, at_restart, VoiceMade, new_ensemble, VoiceRestartRule}
use Rattle.ensemble_calls.proofs.Blocks.{codes, heard_is}
use Rattle.ensemble_calls.proofs.Views.{length_step}
use Rattle.ensemble_calls.proofs.Own.{refused_keeps, settings_taken, shape_taken, path_taken, bus_taken, trigger_own, phase_own, pending_codes, block_taken, block_own}
use Rattle.ensemble_calls.proofs.AsPlayer.{length_made}
use Rattle.voice_rule.proofs.Pages.{good_voice, page_good, good_pages}

-- ---- what is heard of a voice is what is heard of its player

module _ (e : EnsembleState) (v : ℕ) (one : v < length e.voices) (c : TransportCodes) (n : ℕ) (x y : List Float) (h : accepts e (block c n x y) ≡ true) where
  read_own : (side : Side) → side_of side (heard_of v e c n x y) ≡ single.read side (player_at e v) c n (restart_codes (pending_at e v)) x y
  read_own side =
      let r = codes e c n x y h in
      go side r.0 r.1
      ∙ ap (λ (at : Option ℕ). values (player_at e v) r.0 n at (value_of side)) (sym (pending_codes (pending_at e v)))
      ∙ sym (read_values (player_at e v) c n (restart_codes (pending_at e v)) x y r.0 r.1 (block_taken e v one c n x y h) side)
    where
      go : (side : Side) (t : Transport) → transport_at c ≡ Some t → side_of side (heard_of v e c n x y) ≡ values (player_at e v) t n (pending_at e v) (value_of side)
      go x_side t R = ap (λ (z : Heard). z.x) (heard_is e c n x y h t R v one) ∙ unfold voice_values in refl
      go y_side t R = ap (λ (z : Heard). z.y) (heard_is e c n x y h t R v one) ∙ unfold voice_values in refl

-- of a call and what follows it, of which it holds
module _ (v : ℕ) (e : EnsembleState) (one : v < length e.voices) (cs : List Call) where
  -- the player's calls for what follows
  abbrev rest : Call → List player.Call
  rest c = own_calls v (step e c) cs

  module _ (side : Side) where
    abbrev Later : Call → Type 0
    Later c = heard side v (step e c) cs ≡ single.heard side (player_at (step e c) v) (rest c)

    accepted_heard : (c : Call) → Later c → accepts e c ≡ true → heard side v e (c ∷ cs) ≡ single.heard side (player_at e v) (own_call v e c ++ rest c)
    unfolding heard own_call single.heard
    accepted_heard (settings k shared) z h = rw (h, settings_taken e (player_at e v) k shared h) refl
    accepted_heard (shape k) z h = rw (h, shape_taken e (player_at e v) k h) refl
    accepted_heard (path k) z h = rw (h, path_taken e (player_at e v) k h) refl
    accepted_heard (bus k s) z h = rw (h, bus_taken e (player_at e v) k s h) refl
    accepted_heard (trigger u at) z h = rw h (z ∙ ap (λ (p : State). single.heard side p (rest (trigger u at))) (trigger_own e v one u at))
    accepted_heard (phase u t) z h = rw h (z ∙ ap (λ (p : State). single.heard side p (rest (phase u t))) (phase_own e v one u t))
    accepted_heard (block k n x y) z h =
        rw (h, block_taken e v one k n x y h, pending_codes (pending_at e v))
        (ap₂ (λ (own l : List Float). frames_up_to (pending_at e v) n own l) (read_own e v one k n x y h side)
        (z ∙ ap (λ (p : State). single.heard side p (rest (block k n x y))) (block_own e v one k n x y h)))

    call_heard : (c : Call) → Later c → heard side v e (c ∷ cs) ≡ single.heard side (player_at e v) (own_calls v e (c ∷ cs))
    unfolding own_calls
    call_heard c z = go (accepts e c) refl
      where
        go : (t : Bool) → accepts e c ≡ t → heard side v e (c ∷ cs) ≡ single.heard side (player_at e v) (cond t (own_call v e c) [] ++ rest c)
        go true h = accepted_heard c z h
        go false h = unfold heard in rw h (z ∙ ap (λ (d : EnsembleState). single.heard side (player_at d v) (rest c)) (refused_keeps e c h))

  abbrev LaterBlocks : Call → Type 0
  LaterBlocks c = window v (step e c) cs ≡ single.window (player_at (step e c) v) (rest c)

  accepted_window : (c : Call) → LaterBlocks c → accepts e c ≡ true → window v e (c ∷ cs) ≡ single.window (player_at e v) (own_call v e c ++ rest c)
  unfolding window own_call single.window
  accepted_window (settings k shared) z h = rw (h, settings_taken e (player_at e v) k shared h) refl
  accepted_window (shape k) z h = rw (h, shape_taken e (player_at e v) k h) refl
  accepted_window (path k) z h = rw (h, path_taken e (player_at e v) k h) refl
  accepted_window (bus k s) z h = rw (h, bus_taken e (player_at e v) k s h) refl
  accepted_window (trigger u at) z h = rw h (z ∙ ap (λ (p : State). single.window p (rest (trigger u at))) (trigger_own e v one u at))
  accepted_window (phase u t) z h = rw h (z ∙ ap (λ (p : State). single.window p (rest (phase u t))) (phase_own e v one u t))
  accepted_window (block k n x y) z h =
      rw (h, block_taken e v one k n x y h, pending_codes (pending_at e v))
      (ap (λ (l : List TransportCodes). blocks_up_to (pending_at e v) k l) (z ∙ ap (λ (p : State). single.window p (rest (block k n x y))) (block_own e v one k n x y h)))

  call_window : (c : Call) → LaterBlocks c → window v e (c ∷ cs) ≡ single.window (player_at e v) (own_calls v e (c ∷ cs))
  unfolding own_calls
  call_window c z = go (accepts e c) refl
    where
      go : (t : Bool) → accepts e c ≡ t → window v e (c ∷ cs) ≡ single.window (player_at e v) (cond t (own_call v e c) [] ++ rest c)
      go true h = accepted_window c z h
      go false h = unfold window in rw h (z ∙ ap (λ (d : EnsembleState). single.window (player_at d v) (rest c)) (refused_keeps e c h))

module _ (v : ℕ) where
  heard_own : (side : Side) (e : EnsembleState) (cs : List Call) → v < length e.voices → heard side v e cs ≡ single.heard side (player_at e v) (own_calls v e cs)
  heard_own side e [] one = unfold heard own_calls single.heard in refl
  heard_own side e (c ∷ cs) one = call_heard v e one cs side c (heard_own side (step e c) cs (rw (length_step e c) one))

  window_own : (e : EnsembleState) (cs : List Call) → v < length e.voices → window v e cs ≡ single.window (player_at e v) (own_calls v e cs)
  window_own e [] one = unfold window own_calls single.window in refl
  window_own e (c ∷ cs) one = call_window v e one cs c (window_own (step e c) cs (rw (length_step e c) one))

-- ---- the restart of a voice is one of its player, which starts there

length_after : (e : EnsembleState) (cs : List Call) → length (after e cs).voices ≡ length e.voices
unfolding after
length_after e [] = refl
length_after e (c ∷ cs) = length_after (step e c) cs ∙ length_step e c

module _ {v : ℕ} {from : EnsembleState} (one : v < length from.voices) (r : RestartOf v from) where
  abbrev E : EnsembleState
  E = ensemble_at r

  abbrev P : State
  P = state_at r

  in_E : v < length E.voices
  in_E = rw (length_after from r.before) one

  taken : accepts E (restart_block r) ≡ true
  taken = eq-eqb (answer E (restart_block r)) 0 r.accepted

  abbrev ask : RestartCodes
  ask = record { code = 1; frame = r.frame }

  abbrev own : player.Call
  own = player.block r.transport r.frames ask r.x r.y

  abbrev later : List player.Call
  later = own_calls v (ensemble_past r) r.rest

  asks : restart_codes (pending_at E v) ≡ ask
  asks = ap restart_codes r.waits ∙ unfold restart_codes in refl

  own_taken : player.accepts P own ≡ true
  own_taken = ap (λ (k : RestartCodes). player.accepts P (player.block r.transport r.frames k r.x r.y)) (sym asks) ∙ block_taken E v in_E r.transport r.frames r.x r.y taken

  restarts : RestartFrom P
  unfolding player.after
  restarts =
      record {
        before = [];
        transport = r.transport;
        frames = r.frames;
        restart = ask;
        x = r.x;
        y = r.y;
        rest = later;
        accepted = eqb-true (player.answer P own) 0 own_taken;
        carried = refl;
      }

  past : player_at (ensemble_past r) v ≡ player.step P own
  past =
      block_own E v in_E r.transport r.frames r.x r.y taken
      ∙ ap (λ (k : RestartCodes). player.step P (player.block r.transport r.frames k r.x r.y)) asks

  in_past : v < length (ensemble_past r).voices
  in_past = rw (length_step E (restart_block r)) in_E

  frames_own : (side : Side) → frames_from r side ≡ rule.frames_from restarts side
  unfolding frames_from rule.frames_from restarts player.after
  frames_own side =
      ap₂ (λ (a b : List Float). drop (frame_at r) a ++ b)
      (read_own E v in_E r.transport r.frames r.x r.y taken side ∙ ap (λ (k : RestartCodes). single.read side P r.transport r.frames k r.x r.y) asks)
      (heard_own v side (ensemble_past r) r.rest in_past ∙ ap (λ (p : State). single.heard side p later) past)

  at_restart_lem : at_restart r ≡ rule.at_restart restarts
  unfolding throughout rule.throughout rule.word_at restarts player.after
  at_restart_lem =
      ap (λ (l : List TransportCodes). record { state = P; transports = r.transport ∷ l; word = rule.word_after P r.transport r.frames (frame_at r) })
      (window_own v (ensemble_past r) r.rest in_past ∙ ap (λ (p : State). single.window p later) past)

  good_at : Good P → Good (rule.state_at restarts)
  unfolding restarts player.after
  good_at g = g

-- ---- the rule

module _ (p : VoiceMade) (r : RestartOf p.voice (new_ensemble p)) where
  in_voices : p.voice < length (new_ensemble p).voices
  in_voices = rw (length_made p.codes p.shared p.count p.seed p.accepted) p.in_count

  good : Good (state_at r)
  good = good_voice (ensemble_at r) p.voice (good_pages (new_ensemble p) r.before (page_good p.codes p.shared p.count p.seed p.voice p.accepted p.in_count))

pub voice_restart_rule : VoiceRestartRule
voice_restart_rule p₁ p₂ r₁ r₂ fields h side n u v =
    let one = in_voices p₁ r₁ in
    let other = in_voices p₂ r₂ in
    rw (frames_own one r₁ side, frames_own other r₂ side)
    (same_frames (restarts one r₁) (restarts other r₂) fields (good_at one r₁ (good p₁ r₁)) (good_at other r₂ (good p₂ r₂))
    (subst (λ (z : AtRestart). Hypotheses z (rule.at_restart (restarts other r₂)) fields) (at_restart_lem one r₁)
    (subst (λ (z : AtRestart). Hypotheses (at_restart r₁) z fields) (at_restart_lem other r₂) h))
    side n
    (subst (λ (z : List Float). n < length z) (frames_own one r₁ side) u)
    (subst (λ (z : List Float). n < length z) (frames_own other r₂ side) v))

-- every list of calls with a restart of the voice in it is the list of such a record
pub every_restart : (v : ℕ) (from : EnsembleState) (calls before rest : List Call) (c : TransportCodes) (n : ℕ) (x y : List Float) (frame : ℕ)
    → calls ≡ before ++ (block c n x y ∷ rest) → answer (after from before) (block c n x y) ≡ 0 → pending_at (after from before) v ≡ Some frame → (r : RestartOf v from) × (calls ≡ calls_of r)
every_restart v from calls before rest c n x y frame here e k =
    (record { before = before; transport = c; frames = n; x = x; y = y; rest = rest; accepted = e; frame = frame; waits = k }, here)
