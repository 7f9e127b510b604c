-- What a voice plays is a function of what it sees: the page, its record, and the calls as `seen` has them. Assumes nothing.
use Rattle.std.specs.Prelude.{None, Option, Some}
use Prim.Native.Nat.{ℕ, ◌<◌}
use mathlib.Core.Path.{◌≡◌, refl, sym, ap, ap₂, ◌∙◌}
use mathlib.Core.Bool.{Bool, true, false, cond, beq}
use mathlib.Core.List.{List, [], ◌∷◌, ◌++◌, append_assoc}
use lib.Dec.{eqb}
use lib.ListN.{length, get_or, set, length-set, length-map}
use lib.Seq.{get_or-set_same, get_or-set_other}
use lib.Ieee.{Float}
use borrow.Author.Tests.{eqb-true, eqb-false}
use Rattle.settings.specs.declared.record.Transport.{Transport}
use Rattle.codes.specs.declared.TransportCodes.{TransportCodes}
use Rattle.settings.specs.Codes.{settings_at, transport_at}
use Rattle.clock.specs.Ready.{prepared_of}
use Rattle.slot.specs.Slot.{Lfo}
use Rattle.slot.specs.Slot.{clocked_lfo}
use Rattle.curves.specs.Given.{is_yes}
use Rattle.calls.specs.State.{State, with_settings, with_shape, with_path, with_bus}
use Rattle.calls.specs.Blocks.{played_state, values, finished}
use Rattle.calls.specs.Calls as player
use Rattle.calls.specs.Calls.{by_settings, by_transport}
use Rattle.ensemble_calls.specs.Ensembles.{VoiceRecord, EnsembleState, no_record, record_at, with_pending, greatest, asked_ensemble}
use Rattle.ensemble_calls.specs.Blocks.{player_of, playing, played_record, played_ensemble, voice_values, voice_finished}
use Rattle.ensemble_calls.specs.Calls.{Call, settings, shape, path, bus, trigger, phase, block, accepts, accepted, step, after}
use Rattle.ensemble_calls.specs.Heard.{Heard, heard_of, heard_in, plays, Seen, edit, restart, played, seen_of, seen}
use Rattle.columns.proofs.Places.{get_or_map_in}
use Rattle.ensemble_calls.proofs.Blocks.{codes, block_runs, heard_is}
use Rattle.settings.specs.declared.record.Settings.{Settings}

-- ---- what is seen of an ensemble, and what is made of it

-- the page, and one record
pub record View : Type 0 where
  pub lfo : Lfo
  pub shared : Bool
  pub own : VoiceRecord

abbrev player_by : Lfo → VoiceRecord → State
player_by lfo r = record { lfo = lfo; voice = r.voice; played = 0 }

-- the page after an edit: the record does not matter
abbrev lfo_by : Lfo → player.Call → Lfo
lfo_by lfo c = (player.accepted (player_by lfo no_record) c).lfo

-- a record's block
abbrev heard_by : Lfo → VoiceRecord → ℕ → Transport → Heard
heard_by lfo r n t =
    let p = player_by lfo r in
    record { x = values p t n r.pending (λ f. f.x); y = values p t n r.pending (λ f. f.y); finished = finished p t n r.pending }

-- with shared off the record is a voice's, with shared on the serving one
module _ (b : Bool) where
  abbrev edited : View → Bool → player.Call → View
  edited w shared c = record { lfo = lfo_by w.lfo c; shared = shared; own = w.own }

  abbrev ran : View → ℕ → Transport → View
  ran w n t =
      record {
        lfo = clocked_lfo w.lfo (prepared_of w.lfo.settings w.lfo.clock t n).clock;
        shared = w.shared;
        own = cond (beq w.shared b) (record { voice = (played_state (player_by w.lfo w.own) t n w.own.pending).voice; pending = None }) (with_pending w.own None);
      }

  next : View → Seen → View
  next w (edit (settings c shared)) = edited w (is_yes shared) (player.settings c)
  next w (edit (shape c)) = edited w w.shared (player.shape c)
  next w (edit (path c)) = edited w w.shared (player.path c)
  next w (edit (bus k z)) = edited w w.shared (player.bus k z)
  next w (edit (trigger u at)) = w
  next w (edit (phase u t)) = w
  next w (edit (block t n x y)) = w
  next w (restart at) = record { lfo = w.lfo; shared = w.shared; own = with_pending w.own (cond b (greatest w.own.pending at) (Some at)) }
  next w (played c n) = by_transport w (transport_at c) λ t. ran w n t

  sounds : View → Seen → List Heard
  sounds w (edit c) = []
  sounds w (restart at) = []
  sounds w (played c n) = by_transport [] (transport_at c) λ t. cond (beq w.shared b) (heard_by w.lfo w.own n t ∷ []) []

  pub next_all : View → List Seen → View
  next_all w [] = w
  next_all w (s ∷ ss) = next_all (next w s) ss

  pub sounds_all : View → List Seen → List Heard
  sounds_all w [] = []
  sounds_all w (s ∷ ss) = sounds w s ++ sounds_all (next w s) ss

  next_append : (w : View) (s r : List Seen) → next_all w (s ++ r) ≡ next_all (next_all w s) r
  unfolding next_all
  next_append w [] r = refl
  next_append w (z ∷ s) r = next_append (next w z) s r

  sounds_append : (w : View) (s r : List Seen) → sounds_all w (s ++ r) ≡ sounds_all w s ++ sounds_all (next_all w s) r
  unfolding next_all sounds_all
  sounds_append w [] r = refl
  sounds_append w (z ∷ s) r = ap (λ (l : List Heard). sounds w z ++ l) (sounds_append (next w z) s r) ∙ sym (append_assoc (sounds w z) (sounds_all (next w z) s) (sounds_all (next_all (next w z) s) r))

  -- ---- an ensemble as it is seen

  module _ (v : ℕ) where
    abbrev pub view_of : EnsembleState → View
    view_of e = record { lfo = e.lfo; shared = e.shared; own = cond b e.server (record_at e v) }

    -- whose restarts are seen
    abbrev pub own_of : ℕ → Bool
    own_of u = cond b true (eqb v u)

-- ---- one call

beq_so : (s c : Bool) → beq s c ≡ true → s ≡ c
beq_so true true h = refl
beq_so true false h = sym h
beq_so false true h = h
beq_so false false h = refl

settings_page : (p q : State) (c : Option Settings) → p.lfo ≡ q.lfo → (by_settings p c (with_settings p)).lfo ≡ (by_settings q c (with_settings q)).lfo
unfolding with_settings
settings_page p q (Some s) e = rw e refl
settings_page p q None e = e

-- a request changes one record, and that of the serving voice
pub asked_at : (e : EnsembleState) (u at v : ℕ) → v < length e.voices → (t : Bool) → eqb v u ≡ t
    → record_at (asked_ensemble e u at) v ≡ cond t (with_pending (record_at e v) (Some at)) (record_at e v)
unfolding asked_ensemble
asked_at e u at v one true z =
    ap (λ (k : ℕ). get_or (set e.voices k (with_pending (record_at e k) (Some at))) v no_record) (sym (eqb-true v u z))
    ∙ get_or-set_same e.voices v (with_pending (record_at e v) (Some at)) no_record one
asked_at e u at v one false z = get_or-set_other e.voices u v (with_pending (record_at e u) (Some at)) no_record (eqb-false v u z)

asked_own : (b : Bool) (v : ℕ) (e : EnsembleState) (u at : ℕ) → v < length e.voices → (t : Bool) → eqb v u ≡ t
    → view_of b v (asked_ensemble e u at) ≡ next_all b (view_of b v e) (cond (cond b true t) (restart at ∷ []) [])
unfolding asked_ensemble next_all next
asked_own true v e u at one t z = refl
asked_own false v e u at one true z = ap (λ (r : VoiceRecord). record { lfo = e.lfo; shared = e.shared; own = r }) (asked_at e u at v one true z)
asked_own false v e u at one false z = ap (λ (r : VoiceRecord). record { lfo = e.lfo; shared = e.shared; own = r }) (asked_at e u at v one false z)

module _ (b : Bool) (v : ℕ) (e : EnsembleState) (one : v < length e.voices) where
  -- ---- a block

  ran_is : (t : Transport) (n : ℕ) → view_of b v (played_ensemble e t n) ≡ ran b (view_of b v e) n t
  unfolding played_ensemble played_record played_state
  ran_is t n = ap (λ (r : VoiceRecord). record { lfo = clocked_lfo e.lfo (prepared_of e.lfo.settings e.lfo.clock t n).clock; shared = e.shared; own = r }) (go b)
    where
      at_v : get_or (played_ensemble e t n).voices v no_record ≡ cond e.shared (with_pending (record_at e v) None) (played_record e t n (record_at e v))
      at_v = get_or_map_in (λ (r : VoiceRecord). cond e.shared (with_pending r None) (played_record e t n r)) e.voices v no_record no_record one

      picks : (s : Bool) (r q : VoiceRecord) → cond s q r ≡ cond (beq s false) r q
      picks true r q = refl
      picks false r q = refl

      serves : (s : Bool) (r q : VoiceRecord) → cond s r q ≡ cond (beq s true) r q
      serves true r q = refl
      serves false r q = refl

      go : (c : Bool) → cond c (played_ensemble e t n).server (get_or (played_ensemble e t n).voices v no_record) ≡ (ran c (view_of c v e) n t).own
      go true = serves e.shared (played_record e t n e.server) (with_pending e.server None)
      go false = at_v ∙ picks e.shared (played_record e t n (record_at e v)) (with_pending (record_at e v) None)

  heard_by_lem : (t : Transport) (n : ℕ) → e.shared ≡ b
      → ◌≡◌ {A = Heard}
      (record { x = voice_values e t n (λ f. f.x) (record_at e v); y = voice_values e t n (λ f. f.y) (record_at e v); finished = voice_finished e t n (record_at e v) })
      (heard_by e.lfo (cond b e.server (record_at e v)) n t)
  unfolding voice_values voice_finished playing values finished
  heard_by_lem t n h = ap (λ (c : Bool). heard_by e.lfo (cond c e.server (record_at e v)) n t) h

  module _ (c : TransportCodes) (n : ℕ) (x y : List Float) (h : accepts e (block c n x y) ≡ true) where
    block_view : view_of b v (step e (block c n x y)) ≡ next_all b (view_of b v e) (played c n ∷ [])
    unfolding next_all next
    block_view =
        let r = codes e c n x y h in
        rw r.1 (ap (view_of b v) (block_runs e c n x y h r.0 r.1) ∙ ran_is r.0 n)

    block_heard : heard_in b v e (block c n x y) ≡ sounds_all b (view_of b v e) (played c n ∷ [])
    unfolding heard_in sounds_all sounds
    block_heard =
        let r = codes e c n x y h in
        rw (h, r.1) (go (beq e.shared b) refl r.0 r.1)
      where
        go : (s : Bool) → beq e.shared b ≡ s → (t : Transport) → transport_at c ≡ Some t
            → cond s (heard_of v e c n x y ∷ []) [] ≡ cond s (heard_by e.lfo (cond b e.server (record_at e v)) n t ∷ []) [] ++ []
        go true z t R = ap (λ (k : Heard). k ∷ []) (heard_is e c n x y h t R v one ∙ heard_by_lem t n (beq_so e.shared b z))
        go false z t R = refl

  -- ---- any accepted call

  accepted_view : (c : Call) → accepts e c ≡ true → view_of b v (step e c) ≡ next_all b (view_of b v e) (seen_of (own_of b v) c)
  unfolding step accepted seen_of next_all next player.accepted
  accepted_view (settings c shared) h =
      rw h (ap (λ (l : Lfo). record { lfo = l; shared = is_yes shared; own = (view_of b v e).own }) (settings_page (player_of e e.server) (player_by e.lfo no_record) (settings_at c) refl))
  accepted_view (shape c) h = rw h (unfold with_shape in refl)
  accepted_view (path c) h = rw h (unfold with_path in refl)
  accepted_view (bus k z) h = rw h (unfold with_bus in refl)
  accepted_view (trigger u at) h = rw h (asked_own b v e u at one (eqb v u) refl)
  accepted_view (phase u t) h = rw h refl
  accepted_view (block c n x y) h = block_view c n x y h

  accepted_heard : (c : Call) → accepts e c ≡ true → heard_in b v e c ≡ sounds_all b (view_of b v e) (seen_of (own_of b v) c)
  unfolding seen_of heard_in sounds_all sounds
  accepted_heard (settings c shared) h = refl
  accepted_heard (shape c) h = refl
  accepted_heard (path c) h = refl
  accepted_heard (bus k z) h = refl
  accepted_heard (trigger u at) h = go (own_of b v u)
    where
      go : (t : Bool) → [] ≡ sounds_all b (view_of b v e) (cond t (restart at ∷ []) [])
      go true = refl
      go false = refl
  accepted_heard (phase u t) h = refl
  accepted_heard (block c n x y) h = block_heard c n x y h

  pub refused_heard : (c : Call) → accepts e c ≡ false → heard_in b v e c ≡ []
  unfolding heard_in
  refused_heard (settings c shared) h = refl
  refused_heard (shape c) h = refl
  refused_heard (path c) h = refl
  refused_heard (bus k z) h = refl
  refused_heard (trigger u at) h = refl
  refused_heard (phase u t) h = refl
  refused_heard (block c n x y) h = rw h refl

  -- ---- any call

  abbrev seen_in : Call → List Seen
  seen_in c = cond (accepts e c) (seen_of (own_of b v) c) []

  call_view : (c : Call) → view_of b v (step e c) ≡ next_all b (view_of b v e) (seen_in c)
  call_view c = go (accepts e c) refl
    where
      go : (t : Bool) → accepts e c ≡ t → view_of b v (step e c) ≡ next_all b (view_of b v e) (cond t (seen_of (own_of b v) c) [])
      go true h = accepted_view c h
      go false h = unfold step next_all in rw h refl

  call_heard : (c : Call) → heard_in b v e c ≡ sounds_all b (view_of b v e) (seen_in c)
  call_heard c = go (accepts e c) refl
    where
      go : (t : Bool) → accepts e c ≡ t → heard_in b v e c ≡ sounds_all b (view_of b v e) (cond t (seen_of (own_of b v) c) [])
      go true h = accepted_heard c h
      go false h = unfold sounds_all in refused_heard c h

-- ---- no call changes the number of voices

length_played : (e : EnsembleState) (c : Option Transport) (n : ℕ) → length (by_transport e c (λ t. played_ensemble e t n)).voices ≡ length e.voices
unfolding played_ensemble
length_played e (Some t) n = length-map e.voices (λ (r : VoiceRecord). cond e.shared (with_pending r None) (played_record e t n r))
length_played e None n = refl

length_accepted : (e : EnsembleState) (c : Call) → length (accepted e c).voices ≡ length e.voices
unfolding accepted asked_ensemble
length_accepted e (settings c shared) = refl
length_accepted e (shape c) = refl
length_accepted e (path c) = refl
length_accepted e (bus k z) = refl
length_accepted e (trigger u at) = length-set e.voices u (with_pending (record_at e u) (Some at))
length_accepted e (phase u t) = refl
length_accepted e (block c n x y) = length_played e (transport_at c) n

pub length_step : (e : EnsembleState) (c : Call) → length (step e c).voices ≡ length e.voices
unfolding step
length_step e c = go (accepts e c)
  where
    go : (t : Bool) → length (cond t (accepted e c) e).voices ≡ length e.voices
    go true = length_accepted e c
    go false = refl

-- ---- a list of calls

module _ (b : Bool) (v : ℕ) where
  pub view_after : (e : EnsembleState) (cs : List Call) → v < length e.voices → view_of b v (after e cs) ≡ next_all b (view_of b v e) (seen (own_of b v) e cs)
  unfolding after seen
  view_after e [] one = unfold next_all in refl
  view_after e (c ∷ cs) one =
      view_after (step e c) cs (rw (length_step e c) one)
      ∙ ap (λ (w : View). next_all b w (seen (own_of b v) (step e c) cs)) (call_view b v e one c)
      ∙ sym (next_append b (view_of b v e) (seen_in b v e one c) (seen (own_of b v) (step e c) cs))

  pub plays_seen : (e : EnsembleState) (cs : List Call) → v < length e.voices → plays b v e cs ≡ sounds_all b (view_of b v e) (seen (own_of b v) e cs)
  unfolding plays seen
  plays_seen e [] one = unfold sounds_all in refl
  plays_seen e (c ∷ cs) one =
      ap₂ (λ (l r : List Heard). l ++ r) (call_heard b v e one c)
      (plays_seen (step e c) cs (rw (length_step e c) one) ∙ ap (λ (w : View). sounds_all b w (seen (own_of b v) (step e c) cs)) (call_view b v e one c))
      ∙ sym (sounds_append b (view_of b v e) (seen_in b v e one c) (seen (own_of b v) (step e c) cs))
