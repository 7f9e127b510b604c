-- A voice plays what a player plays. Assumes nothing.
use Rattle.std.specs.Prelude.{None, Option, Some}
use Prim.Native.Nat.{ℕ, ◌<◌}
use mathlib.Core.Path.{◌≡◌, refl, sym, ap, ap₂, ◌∙◌}
use mathlib.Core.Bool.{Bool, true, false, cond, beq}
use mathlib.Core.List.{List, [], ◌∷◌, ◌++◌, append_assoc, append-nil}
use lib.ListN.{length, get_or, drop}
use lib.Seq.{take_at}
use lib.Ieee.{Float}
use borrow.Author.Tests.{eqb-true}
use Rattle.listlaws.specs.Tables.{tabulate}
use Rattle.listlaws.proofs.Tabulation.{length_tabulate, get_d_tabulate}
use Rattle.codes.specs.declared.SettingsCodes.{SettingsCodes}
use Rattle.codes.specs.declared.TransportCodes.{TransportCodes}
use Rattle.settings.specs.Codes.{settings_at}
use Rattle.voice.specs.Voice.{new_voice}
use Rattle.curves.specs.Given.{is_yes}
use Rattle.questions.specs.Questions.{first_no, settings_questions}
use Rattle.questions.proofs.Facts.{passed}
use Rattle.calls.specs.State.{State, new_state}
use Rattle.calls.specs.Blocks.{values}
use Rattle.calls.specs.Calls as player
use Rattle.calls.specs.Calls.{by_settings}
use Rattle.calls.proofs.Blocks.{length_values}
use Rattle.calls.proofs.Played.{after_append}
use Rattle.ensemble_calls.specs.Ensembles.{VoiceRecord, EnsembleState, seed_of, server_index, new_record, new_ensemble, no_record}
use Rattle.ensemble_calls.specs.Blocks.{playing, voice_values, voice_finished}
use Rattle.ensemble_calls.specs.Questions.{count_question, page_questions, make_questions}
use Rattle.ensemble_calls.specs.Calls.{Call, settings, shape, path, bus, trigger, phase, block, accepts, makes, count_for, made, step, after}
use Rattle.ensemble_calls.specs.Heard.{Heard, heard_in, plays}
use Rattle.ensemble_calls.specs.AsPlayer.{player_at, pending_at, restart_codes, own_call, own_calls, player_heard, player_plays, Unswitched, AsPlayer, MadeAsPlayer}
use Rattle.ensemble_calls.proofs.Blocks.{codes, same_heard, heard_is}
use Rattle.ensemble_calls.proofs.Views.{length_step, refused_heard}
use Rattle.ensemble_calls.proofs.Own.{refused_keeps, settings_own, shape_own, path_own, bus_own, trigger_own, phase_own, pending_codes, block_taken, block_own}
use Rattle.settings.specs.declared.record.Settings.{Settings}

-- ---- as it is made

-- what the questions leave of making an ensemble
pub page_made : (c : SettingsCodes) (shared count : ℕ) → makes c shared count ≡ true → (count_for count ≡ count) × (first_no (settings_questions c) ≡ 0)
unfolding make_questions page_questions count_for
page_made c shared count h =
    let q15 = passed 14 (count_question count).1 (page_questions c shared) (eqb-true (first_no (make_questions c shared count)) 0 h) in
    (rw q15.0 refl, (passed 0 _ (settings_questions c) q15.1).1)

pub length_made : (c : SettingsCodes) (shared count seed : ℕ) → makes c shared count ≡ true → length (made c shared count seed).voices ≡ count
unfolding made new_ensemble
length_made c shared count seed h = length_tabulate (λ (u : ℕ). new_record (seed_of seed u)) (count_for count) ∙ (page_made c shared count h).0

-- players just made differ in their voices
made_voice : (c : SettingsCodes) (seed other : ℕ) → player.made c seed ≡ record { lfo = (player.made c other).lfo; voice = new_voice seed; played = (player.made c other).played }
unfolding player.made new_state
made_voice c seed other = go (player.makes c) (settings_at c)
  where
    made_by : ℕ → Bool → Option Settings → State
    made_by s b k = cond b (by_settings (player.no_player s) k (λ z. new_state z s)) (player.no_player s)

    go : (b : Bool) (k : Option Settings) → made_by seed b k ≡ record { lfo = (made_by other b k).lfo; voice = new_voice seed; played = (made_by other b k).played }
    go true (Some z) = refl
    go true None = refl
    go false k = refl

pub made_as_player : MadeAsPlayer
unfolding made playing new_ensemble
made_as_player c shared count seed v h one = go (is_yes shared)
  where
    in_count : v < count_for count
    in_count = rw (page_made c shared count h).0 one

    base : State
    base = player.made c (seed_of seed server_index)

    go : (s : Bool) → record { lfo = base.lfo; voice = (cond s (record { voice = base.voice; pending = None }) (get_or (tabulate (λ (u : ℕ). new_record (seed_of seed u)) (count_for count)) v no_record)).voice; played = base.played }
        ≡ player.made c (seed_of seed (cond s server_index v))
    go true = refl
    go false =
        ap (λ (r : VoiceRecord). record { lfo = base.lfo; voice = r.voice; played = base.played }) (get_d_tabulate (λ (u : ℕ). new_record (seed_of seed u)) (count_for count) v no_record in_count)
        ∙ sym (made_voice c (seed_of seed v) (seed_of seed server_index))

-- ---- one call

module _ (e : EnsembleState) (v : ℕ) (one : v < length e.voices) where
  accepted_own : (c : Call) → accepts e c ≡ true → (step e c).shared ≡ e.shared → player_at (step e c) v ≡ player.after (player_at e v) (own_call v e c)
  unfolding own_call player.after
  accepted_own (settings c shared) h s = settings_own e v c shared h s
  accepted_own (shape c) h s = shape_own e v c h
  accepted_own (path c) h s = path_own e v c h
  accepted_own (bus k z) h s = bus_own e v k z h
  accepted_own (trigger u at) h s = trigger_own e v one u at
  accepted_own (phase u t) h s = phase_own e v one u t
  accepted_own (block c n x y) h s = block_own e v one c n x y h

  beq_self : (b : Bool) → beq b b ≡ true
  beq_self true = refl
  beq_self false = refl

  block_heard : (c : TransportCodes) (n : ℕ) (x y : List Float) → accepts e (block c n x y) ≡ true
      → heard_in e.shared v e (block c n x y) ≡ player_heard (player_at e v) (player.block c n (restart_codes (pending_at e v)) x y)
  unfolding heard_in player_heard player.buffer player.played
  block_heard c n x y h =
      let r = codes e c n x y h in
      let p = player_at e v in
      let at = pending_at e v in
      rw (h, beq_self e.shared, block_taken e v one c n x y h, r.1, pending_codes at)
      (ap (λ (z : Heard). z ∷ [])
      (heard_is e c n x y h r.0 r.1 v one
      ∙ unfold voice_values voice_finished in
      same_heard (sym (take_at (values p r.0 n at (λ f. f.x)) (drop n x) n (length_values p r.0 n at (λ f. f.x))))
      (sym (take_at (values p r.0 n at (λ f. f.y)) (drop n y) n (length_values p r.0 n at (λ f. f.y)))) refl))

  accepted_heard : (c : Call) → accepts e c ≡ true → heard_in e.shared v e c ≡ player_plays (player_at e v) (own_call v e c)
  unfolding heard_in own_call player_plays player_heard
  accepted_heard (settings c shared) h = refl
  accepted_heard (shape c) h = refl
  accepted_heard (path c) h = refl
  accepted_heard (bus k z) h = refl
  accepted_heard (trigger u at) h = refl
  accepted_heard (phase u t) h = refl
  accepted_heard (block c n x y) h = block_heard c n x y h ∙ sym (append-nil _)

  -- any call
  call_own : (c : Call) → (step e c).shared ≡ e.shared → player_at (step e c) v ≡ player.after (player_at e v) (cond (accepts e c) (own_call v e c) [])
  call_own c s = go (accepts e c) refl
    where
      go : (t : Bool) → accepts e c ≡ t → player_at (step e c) v ≡ player.after (player_at e v) (cond t (own_call v e c) [])
      go true h = accepted_own c h s
      go false h = unfold player.after in ap (λ (d : EnsembleState). player_at d v) (refused_keeps e c h)

  call_heard : (c : Call) → heard_in e.shared v e c ≡ player_plays (player_at e v) (cond (accepts e c) (own_call v e c) [])
  call_heard c = go (accepts e c) refl
    where
      go : (t : Bool) → accepts e c ≡ t → heard_in e.shared v e c ≡ player_plays (player_at e v) (cond t (own_call v e c) [])
      go true h = accepted_heard c h
      go false h = unfold player_plays in refused_heard e.shared v e one c h

-- ---- a list of calls

plays_append : (p : State) (l r : List player.Call) → player_plays p (l ++ r) ≡ player_plays p l ++ player_plays (player.after p l) r
unfolding player.after player_plays
plays_append p [] r = refl
plays_append p (c ∷ l) r = ap (λ (z : List Heard). player_heard p c ++ z) (plays_append (player.step p c) l r) ∙ sym (append_assoc (player_heard p c) (player_plays (player.step p c) l) _)

pub as_player : AsPlayer
unfolding plays after own_calls Unswitched
as_player e v one [] u = unfold player_plays player.after in (refl, refl)
as_player e v one (c ∷ cs) u =
    let p = player_at e v in
    let own = cond (accepts e c) (own_call v e c) [] in
    let rest = own_calls v (step e c) cs in
    let ih = as_player (step e c) v (rw (length_step e c) one) cs u.1 in
    let here = call_own e v one c u.0 in (
      ap₂ (λ (l r : List Heard). l ++ r) (call_heard e v one c)
          (ap (λ (b : Bool). plays b v (step e c) cs) (sym u.0) ∙ ih.0 ∙ ap (λ (z : State). player_plays z rest) here)
          ∙ sym (plays_append p own rest),
      ih.1 ∙ ap (λ (z : State). player.after z rest) here ∙ sym (after_append p own rest),
    )
