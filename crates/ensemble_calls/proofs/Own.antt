-- One call of an ensemble, and the call that a voice's own player gets for it. Assumes nothing.
use Rattle.std.specs.Prelude.{None, Option, Some}
use Prim.Native.Nat.{ℕ, ◌+◌, ◌*◌, ◌^◌, ◌≤◌, ◌<◌}
use mathlib.Core.Path.{◌≡◌, refl, sym, ap, ◌∙◌}
use mathlib.Core.Bool.{Bool, true, false, cond}
use mathlib.Core.List.{List}
use native.Mathlib.Nat.{le-mul_of_pos_right}
use native.Mathlib.Omega.{arith}
use lib.Dec.{eqb, ltb}
use lib.ListN.{length, get_or}
use lib.Ieee.{Float}
use borrow.Author.Tests.{eqb-true, eq-eqb, le-leb}
use Rattle.settings.specs.declared.record.Transport.{Transport}
use Rattle.codes.specs.declared.SettingsCodes.{SettingsCodes}
use Rattle.codes.specs.declared.TransportCodes.{TransportCodes}
use Rattle.codes.specs.declared.ShapeCodes.{ShapeCodes}
use Rattle.codes.specs.declared.PathCodes.{PathCodes}
use Rattle.settings.specs.Codes.{settings_at, transport_at}
use Rattle.clock.specs.Ready.{prepared_of}
use Rattle.voice.specs.declared.Voice.{Voice}
use Rattle.slot.specs.Slot.{Lfo}
use Rattle.slot.specs.Slot.{clocked_lfo}
use Rattle.curves.specs.Given.{is_yes}
use Rattle.questions.specs.Questions.{first_no, settings_questions, block_questions}
use Rattle.questions.proofs.Facts.{passed}
use Rattle.calls.specs.State.{State, with_settings, with_shape, with_path, with_bus}
use Rattle.calls.specs.Blocks.{pending_of, played_state}
use Rattle.calls.specs.Calls as player
use Rattle.calls.specs.Calls.{by_settings}
use Rattle.restart.proofs.Steps as steps
use Rattle.ensemble_calls.specs.Ensembles.{VoiceRecord, EnsembleState, no_record, record_at, with_page, with_pending, asked_ensemble}
use Rattle.ensemble_calls.specs.Blocks.{player_of, playing, played_record, played_ensemble}
use Rattle.ensemble_calls.specs.Questions.{page_questions}
use Rattle.ensemble_calls.specs.Calls.{Call, settings, shape, path, bus, trigger, phase, block, questions, answer, accepts, accepted, step}
use Rattle.ensemble_calls.specs.AsPlayer.{player_at, pending_at, restart_codes}
use Rattle.columns.proofs.Places.{get_or_map_in}
use Rattle.ensemble_calls.proofs.Blocks.{taken, codes, block_runs}
use Rattle.ensemble_calls.proofs.Views.{asked_at}
use Rattle.settings.specs.declared.record.Settings.{Settings}

pub refused_keeps : (e : EnsembleState) (c : Call) → accepts e c ≡ false → step e c ≡ e
unfolding step
refused_keeps e c h = rw h refl

-- ---- edits

player_step : (p : State) (c : player.Call) → player.accepts p c ≡ true → player.step p c ≡ player.accepted p c
unfolding player.step
player_step p c h = rw h refl

-- an edit of the page by one player is that of another, whose voice stays
module _ (l : Lfo) (a b : Voice) (k : ℕ) where
  abbrev p : State
  p = record { lfo = l; voice = b; played = k }

  abbrev q : State
  q = record { lfo = l; voice = a; played = k }

  settings_edit : (c : Option Settings) → record { lfo = (by_settings q c (with_settings q)).lfo; voice = b; played = k } ≡ by_settings p c (with_settings p)
  unfolding with_settings
  settings_edit (Some s) = refl
  settings_edit None = refl

-- voice v of an ensemble whose page alone is another
paged : (e : EnsembleState) (l : Lfo) (shared : Bool) (v : ℕ) → shared ≡ e.shared → player_at (with_page e l shared) v ≡ record { lfo = l; voice = (player_at e v).voice; played = e.played }
unfolding playing
paged e l shared v h = rw h refl

-- the questions of an edit are a player's
module _ (e : EnsembleState) (p : State) where
  pub settings_taken : (c : SettingsCodes) (shared : ℕ) → accepts e (settings c shared) ≡ true → player.accepts p (player.settings c) ≡ true
  unfolding answer questions page_questions player.answer player.questions
  settings_taken c shared h = eq-eqb (first_no (settings_questions c)) 0 (passed 0 (ltb shared 2) (settings_questions c) (eqb-true (answer e (settings c shared)) 0 h)).1

  pub shape_taken : (c : ShapeCodes) → accepts e (shape c) ≡ true → player.accepts p (player.shape c) ≡ true
  unfolding answer questions player.answer player.questions
  shape_taken c h = h

  pub path_taken : (c : PathCodes) → accepts e (path c) ≡ true → player.accepts p (player.path c) ≡ true
  unfolding answer questions player.answer player.questions
  path_taken c h = h

  pub bus_taken : (k : ℕ) (z : Float) → accepts e (bus k z) ≡ true → player.accepts p (player.bus k z) ≡ true
  unfolding answer questions player.answer player.questions
  bus_taken k z h = h

module _ (e : EnsembleState) (v : ℕ) where
  pub settings_own : (c : SettingsCodes) (shared : ℕ) → accepts e (settings c shared) ≡ true → (step e (settings c shared)).shared ≡ e.shared
      → player_at (step e (settings c shared)) v ≡ player.step (player_at e v) (player.settings c)
  unfolding step accepted player.accepted
  settings_own c shared h s =
      let p = player_at e v in
      rw h
      (paged e (player.accepted (player_of e e.server) (player.settings c)).lfo (is_yes shared) v (rw h at s)
      ∙ settings_edit e.lfo e.server.voice p.voice e.played (settings_at c)
      ∙ sym (player_step p (player.settings c) (settings_taken e (player_at e v) c shared h)))

  pub shape_own : (c : ShapeCodes) → accepts e (shape c) ≡ true
      → player_at (step e (shape c)) v ≡ player.step (player_at e v) (player.shape c)
  unfolding step accepted player.accepted with_shape
  shape_own c h = rw h (paged e _ e.shared v refl ∙ sym (player_step (player_at e v) (player.shape c) (shape_taken e (player_at e v) c h)))

  pub path_own : (c : PathCodes) → accepts e (path c) ≡ true
      → player_at (step e (path c)) v ≡ player.step (player_at e v) (player.path c)
  unfolding step accepted player.accepted with_path
  path_own c h = rw h (paged e _ e.shared v refl ∙ sym (player_step (player_at e v) (player.path c) (path_taken e (player_at e v) c h)))

  pub bus_own : (k : ℕ) (z : Float) → accepts e (bus k z) ≡ true → player_at (step e (bus k z)) v ≡ player.step (player_at e v) (player.bus k z)
  unfolding step accepted player.accepted with_bus
  bus_own k z h = rw h (paged e _ e.shared v refl ∙ sym (player_step (player_at e v) (player.bus k z) (bus_taken e (player_at e v) k z h)))

-- ---- a request and a phase read move no voice

pub asked_voice : (e : EnsembleState) (u at v : ℕ) → v < length e.voices → (record_at (asked_ensemble e u at) v).voice ≡ (record_at e v).voice
asked_voice e u at v one = ap (λ (r : VoiceRecord). r.voice) (asked_at e u at v one (eqb v u) refl) ∙ go (eqb v u)
  where
    go : (t : Bool) → (cond t (with_pending (record_at e v) (Some at)) (record_at e v)).voice ≡ (record_at e v).voice
    go true = refl
    go false = refl

module _ (e : EnsembleState) (v : ℕ) (one : v < length e.voices) where
  pub trigger_own : (u at : ℕ) → player_at (step e (trigger u at)) v ≡ player_at e v
  unfolding step accepted
  trigger_own u at = go (accepts e (trigger u at))
    where
      moved : (s : Bool) → (cond s (asked_ensemble e u at).server (record_at (asked_ensemble e u at) v)).voice ≡ (cond s e.server (record_at e v)).voice
      moved true = unfold asked_ensemble in refl
      moved false = asked_voice e u at v one

      go : (t : Bool) → player_at (cond t (asked_ensemble e u at) e) v ≡ player_at e v
      go true = unfold playing asked_ensemble in ap (λ (z : Voice). record { lfo = e.lfo; voice = z; played = e.played }) (moved e.shared)
      go false = refl

  pub phase_own : (u : ℕ) (t : TransportCodes) → player_at (step e (phase u t)) v ≡ player_at e v
  unfolding step accepted
  phase_own u t = go (accepts e (phase u t))
    where
      go : (t : Bool) → player_at (cond t e e) v ≡ player_at e v
      go true = refl
      go false = refl

  -- ---- a block

  played_own : (t : Transport) (n : ℕ) → player_at (played_ensemble e t n) v ≡ played_state (player_at e v) t n (pending_at e v)
  unfolding playing played_ensemble played_record played_state
  played_own t n = ap (λ (z : Voice). record { lfo = clocked_lfo e.lfo (prepared_of e.lfo.settings e.lfo.clock t n).clock; voice = z; played = e.played + n }) (moved e.shared refl)
    where
      moved : (s : Bool) → e.shared ≡ s
          → (cond e.shared (played_ensemble e t n).server (get_or (played_ensemble e t n).voices v no_record)).voice
          ≡ (played_state (player_of e (cond e.shared e.server (record_at e v))) t n (cond e.shared e.server (record_at e v)).pending).voice
      moved true s = rw s refl
      moved false s =
          rw s
          (ap (λ (r : VoiceRecord). r.voice)
          (get_or_map_in (λ (r : VoiceRecord). cond false (with_pending r None) (played_record e t n r)) e.voices v no_record no_record one))

pub pending_codes : (at : Option ℕ) → pending_of (restart_codes at) ≡ at
unfolding pending_of restart_codes
pending_codes None = refl
pending_codes (Some k) = refl

pub codes_known : (at : Option ℕ) → ltb (restart_codes at).code 2 ≡ true
unfolding restart_codes
codes_known None = refl
codes_known (Some k) = refl

module _ (e : EnsembleState) (v : ℕ) (one : v < length e.voices) (c : TransportCodes) (n : ℕ) (x y : List Float) (h : accepts e (block c n x y) ≡ true) where
  abbrev pub own : player.Call
  own = player.block c n (restart_codes (pending_at e v)) x y

  pub block_taken : player.accepts (player_at e v) own ≡ true
  unfolding player.answer player.questions block_questions first_no
  block_taken =
      let k = taken e c n x y h in
      let wide : n ≤ n * length e.voices = le-mul_of_pos_right n (omega arith) in
      rw (
        k.transport.known,
        codes_known (pending_at e v),
        k.transport.finite_all,
        k.transport.in_range,
        le-leb n 4096 k.short,
        le-leb n (length x) (omega (arith, k.room_x)),
        le-leb n (length y) (omega (arith, k.room_y)),
        le-leb (e.played + n) (2 ^ 40) k.within_life,
      ) refl

  module _ (t : Transport) (R : transport_at c ≡ Some t) where
    pub own_runs : player.step (player_at e v) own ≡ played_state (player_at e v) t n (pending_at e v)
    own_runs =
        steps.block_runs (player_at e v) c n (restart_codes (pending_at e v)) x y t R block_taken
        ∙ ap (λ (at : Option ℕ). played_state (player_at e v) t n at) (pending_codes (pending_at e v))

  pub block_own : player_at (step e (block c n x y)) v ≡ player.step (player_at e v) own
  block_own =
      let r = codes e c n x y h in
      ap (λ (d : EnsembleState). player_at d v) (block_runs e c n x y h r.0 r.1) ∙ played_own e v one r.0 n ∙ sym (own_runs r.0 r.1)
