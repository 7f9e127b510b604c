-- A block in which the serving voice plays for all: what its calls ask, and what they give together. Assumes nothing.
use Rattle.std.proofs.Common.{◌≡◌, ℕ, ◌+◌, ◌*◌, ◌^◌, ◌<◌, ◌≤◌, Bool, true, false, cond, List, ◌++◌, map, length, get_or, take, drop, replicate, sym, refl, ap, ◌∙◌, subst, arith, length-append, length-drop, length-take-le, take_at, le-leb, eqb-true, None, Option, Some, Result, Ok, Err, IsOk}
use lib.ListN.{length-map}
use lib.Ieee.{Float, nan}
use Rattle.codes.specs.declared.TransportCodes.{TransportCodes}
use Rattle.codes.specs.declared.RestartCodes.{RestartCodes}
use Rattle.settings.specs.declared.record.Transport.{Transport}
use Rattle.settings.specs.Codes.{transport_at}
use Rattle.reach.specs.Bounds.{AnchorIn}
use Rattle.reach.proofs.Reach.{anchor_later}
use Rattle.voice.specs.Frame.{Frame}
use Rattle.columns.specs.Columns.{interleaved, FitAll}
use Rattle.ensemble.specs.declared.Member.{Member}
use Rattle.ensemble.specs.Ensemble.{no_member}
use Rattle.columns.proofs.Places.{get_or_map_in}
use Rattle.questions.specs.declared.question.Question.{Question}
use Rattle.questions.specs.Questions.{first_no, block_questions}
use Rattle.questions.proofs.Numbers.{number_not_zero}
use Rattle.calls.specs.State.{State}
use Rattle.calls.specs.Blocks.{pending_of, played_state, values, finished}
use Rattle.calls.specs.Calls as calls
use Rattle.calls.specs.Calls.{by_transport}
use Rattle.calls.proofs.Blocks.{length_values}
use Rattle.player.specs.declared.Played.{Played as PlayerPlayed}
use Rattle.player.specs.Player.{state_of as playerState, with_deck}
use Rattle.player.specs.Promises.{finished_by as playerFinished, Plays as PlayerPlays}
use Rattle.ensemble_calls.specs.Ensembles.{VoiceRecord, EnsembleState, with_pending}
use Rattle.ensemble_calls.specs.Blocks.{playing, played_record, played_ensemble, voice_values, voice_finished, ensemble_values}
use Rattle.ensemble_calls.specs.AsPlayer.{restart_codes}
use Rattle.ensemble_calls.proofs.Own.{pending_codes, codes_known}
use Rattle.ensemble_player.specs.declared.Decks.{Decks}
use Rattle.ensemble_player.specs.declared.Ensemble.{Ensemble}
use Rattle.ensemble_player.specs.Ensembles.{record_of, state_of, server_of, idle_member, with_decks, Valid}
use Rattle.ensemble_player.specs.Plays.{Ready, PlaysBlock}
use Rattle.ensemble_player.proofs.Voices.{count_is, map_through, map_one, map_map, take_map}
use Rattle.ensemble_player.proofs.Blocks.{facts}

-- ---- a player's block

module _ (p : State) (c : TransportCodes) (n : ℕ) (at : Option ℕ) (xs ys : List Float) (t : Transport) (known : transport_at c ≡ Some t)
    (h : calls.accepts p (calls.block c n (restart_codes at) xs ys) ≡ true) where
  server_runs : calls.step p (calls.block c n (restart_codes at) xs ys) ≡ played_state p t n at
  unfolding calls.step calls.accepted
  server_runs = rw (h, known) (ap (played_state p t n) (pending_codes at))

  server_values : (f : Frame → Float) (l : List Float) → take n (calls.buffer p c n (restart_codes at) xs ys f l) ≡ values p t n at f
  unfolding calls.buffer calls.played
  server_values f l =
      rw (h, known)
      (take_at (values p t n (pending_of (restart_codes at)) f) (drop n l) n (length_values p t n (pending_of (restart_codes at)) f)
      ∙ ap (λ (k : Option ℕ). values p t n k f) (pending_codes at))

  server_finished : playerFinished p c n (restart_codes at) xs ys ≡ finished p t n at
  unfolding playerFinished
  server_finished = rw (h, known) (ap (finished p t n) (pending_codes at))

-- its buffer is as long after it as before
length_buffer : (p : State) (c : TransportCodes) (n : ℕ) (k : RestartCodes) (xs ys : List Float) (f : Frame → Float) (l : List Float) → n ≤ length l → length (calls.buffer p c n k xs ys f l) ≡ length l
unfolding calls.buffer calls.played
length_buffer p c n k xs ys f l h = go (calls.accepts p (calls.block c n k xs ys)) (transport_at c)
  where
    go : (b : Bool) (z : Option Transport) → length (cond b (by_transport l z (λ t. values p t n (pending_of k) f ++ drop n l)) l) ≡ length l
    go true (Some t) = length-append (values p t n (pending_of k) f) (drop n l) ∙ omega (arith, length_values p t n (pending_of k) f, length-drop n l, h)
    go true None = refl
    go false z = refl

-- ---- the serving voice's, into buffers of its own

module _ (e : Ensemble) (c : TransportCodes) (n : ℕ) (x y : List Float) (h : Ready e c n x y) (k : RestartCodes) (xs₀ ys₀ : List Float) (long_x : length xs₀ ≡ 4096) (long_y : length ys₀ ≡ 4096)
    (codes : k ≡ restart_codes e.decks.asked) where
  abbrev P : State
  P = playerState (server_of e)

  abbrev at : Option ℕ
  at = e.decks.asked

  own_taken : calls.accepts P (calls.block c n (restart_codes at) xs₀ ys₀) ≡ true
  unfolding calls.answer calls.questions block_questions first_no
  own_taken =
      rw (
        (facts h).transport.known,
        codes_known at,
        (facts h).transport.finite_all,
        (facts h).transport.in_range,
        le-leb n 4096 (facts h).short,
        le-leb n (length xs₀) (omega (arith, long_x, (facts h).short)),
        le-leb n (length ys₀) (omega (arith, long_y, (facts h).short)),
        le-leb (e.decks.server.played + n) (2 ^ 40) (facts h).within_life,
      ) refl

  -- it is not refused, since the ensemble's block is not
  pub serves : (r : Result PlayerPlayed Question) (xs ys : List Float) → PlayerPlays (server_of e) c n k xs₀ ys₀ r xs ys → IsOk r
  serves (Ok got) xs ys plays = refl
  serves (Err q) xs ys plays =
      absurd (number_not_zero q (plays.answer_is ∙ ap (λ (z : RestartCodes). calls.answer P (calls.block c n z xs₀ ys₀)) codes ∙ eqb-true _ _ own_taken))

  module _ (got : PlayerPlayed) (xs ys : List Float) (plays : PlayerPlays (server_of e) c n k xs₀ ys₀ (Ok got) xs ys) where
    pub room_xs : n ≤ length xs
    room_xs = omega (arith, ap length plays.x_is ∙ length_buffer (playerState (server_of e)) c n k xs₀ ys₀ (λ f. f.x) xs₀ (omega (arith, long_x, (facts h).short)), long_x, (facts h).short)

    pub room_ys : n ≤ length ys
    room_ys = omega (arith, ap length plays.y_is ∙ length_buffer (playerState (server_of e)) c n k xs₀ ys₀ (λ f. f.y) ys₀ (omega (arith, long_y, (facts h).short)), long_y, (facts h).short)

    -- what `spread` asks
    fits : (vs l : List Float) → n ≤ length vs → n * e.count ≤ length l → FitAll (length (take n vs)) e.count (take n vs) l
    fits vs l full room =
        let all = length-take-le n vs full in
        rw all (record { short = (facts h).short; few = h.valid.few; full = omega (arith, all); room = room })

    pub fits_x : (l : List Float) → length l ≡ length x → FitAll (length (take n xs)) e.count (take n xs) l
    fits_x l same = fits xs l room_xs (omega (arith, (facts h).room_x, same))

    pub fits_y : (l : List Float) → length l ≡ length y → FitAll (length (take n ys)) e.count (take n ys) l
    fits_y l same = fits ys l room_ys (omega (arith, (facts h).room_y, same))

    -- ---- what the calls give together

    module _ (on : e.shared ≡ true) (members : List Member) (idle_are : members ≡ map (idle_member got.finished) e.decks.members) (x' y' : List Float)
        (gx : x' ≡ interleaved nan (length (take n xs)) (replicate e.count (take n xs)) ++ drop (length (take n xs) * e.count) x)
        (gy : y' ≡ interleaved nan (length (take n ys)) (replicate e.count (take n ys)) ++ drop (length (take n ys) * e.count) y)
        (t : Transport) (known : transport_at c ≡ Some t) where
      abbrev S : EnsembleState
      S = state_of e

      own : PlayerPlays (server_of e) c n (restart_codes at) xs₀ ys₀ (Ok got) xs ys
      own = subst (λ (z : RestartCodes). PlayerPlays (server_of e) c n z xs₀ ys₀ (Ok got) xs ys) codes plays

      player_is : playerState (with_deck (server_of e) got.deck) ≡ played_state P t n at
      player_is = own.state_is ∙ server_runs P c n at xs₀ ys₀ t known own_taken

      done_on : got.finished ≡ finished P t n at
      done_on = own.finished_is ∙ server_finished P c n at xs₀ ys₀ t known own_taken

      abbrev idle : Member → Member
      idle = idle_member got.finished

      abbrev first : List Member
      first = take e.count e.decks.members

      abbrev next : Decks
      next = record { server = got.deck; asked = None; members = members }

      first_are : take e.count members ≡ map idle first
      first_are = ap (take e.count) idle_are ∙ take_map idle e.count e.decks.members

      abbrev after : VoiceRecord → VoiceRecord
      after z = cond e.shared (with_pending z None) (played_record S t n z)

      state_after : state_of (with_decks e next) ≡ played_ensemble S t n
      state_after =
          go player_is
          (ap (map record_of) first_are ∙ map_map record_of idle first ∙ map_through (λ (m : Member). record_of (idle m)) after (λ (m : Member). rw on refl) first)
        where
          go : {q : State} {l : List VoiceRecord} → q ≡ played_state P t n at → l ≡ map after S.voices
              → ◌≡◌ {A = EnsembleState} (record { lfo = q.lfo; shared = e.shared; voices = l; server = record { voice = q.voice; pending = None }; played = q.played }) (played_ensemble S t n)
          go q l = unfold played_ensemble played_record played_state in rw (q, l, on) refl

      finished_after : map (λ m. m.finished) (take e.count members) ≡ map (voice_finished S t n) S.voices
      finished_after =
          ap (map (λ (m : Member). m.finished)) first_are ∙ map_map (λ (m : Member). m.finished) idle first
          ∙ map_through (λ (m : Member). got.finished) (voice_finished S t n) (λ (m : Member). done_on ∙ unfold voice_finished playing in rw on refl) first

      values_after : (f : Frame → Float) (l l' vs : List Float) → take n vs ≡ values P t n at f → l' ≡ interleaved nan n (replicate e.count (take n vs)) ++ drop (n * e.count) l
          → l' ≡ ensemble_values S t n f ++ drop (n * e.count) l
      values_after f l l' vs first is =
          is
          ∙ ap (λ (cols : List (List Float)). interleaved nan n cols ++ drop (n * e.count) l)
          (ap (replicate e.count) first ∙ ap (λ (k : ℕ). replicate k (values P t n at f)) (sym (count_is e h.valid))
          ∙ sym (map_one (voice_values S t n f) (values P t n at f) (λ (z : VoiceRecord). unfold voice_values playing in rw on refl) S.voices))
          ∙ unfold ensemble_values in refl

      later : got.deck.played ≡ e.decks.server.played + n
      later = ap (λ (p : State). p.played) player_is ∙ unfold played_state in refl

      valid_after : Valid (with_decks e next)
      valid_after =
          record {
            server_valid = own.valid;
            listed = ap length idle_are ∙ length-map e.decks.members idle ∙ h.valid.listed;
            several = h.valid.several;
            few = h.valid.few;
            members_in = λ (v : ℕ) (k : v < e.count).
                subst (λ (m : Member). AnchorIn got.deck.played m.voice.anchor)
                (sym (ap (λ (l : List Member). get_or l v no_member) idle_are ∙ get_or_map_in idle e.decks.members v no_member no_member (omega (arith, h.valid.listed, h.valid.few))))
                (subst (λ (f : ℕ). AnchorIn f (get_or e.decks.members v no_member).voice.anchor) (sym later)
                (anchor_later (get_or e.decks.members v no_member).voice.anchor e.decks.server.played (e.decks.server.played + n) (omega arith) (h.valid.members_in v k)));
          }

      pub served : PlaysBlock e t n x y next x' y'
      served =
          record {
            state_is = state_after;
            finished_is = finished_after;
            x_is = values_after (λ f. f.x) x x' xs (ap (take n) own.x_is ∙ server_values P c n at xs₀ ys₀ t known own_taken (λ f. f.x) xs₀) (rw (length-take-le n xs room_xs) at gx);
            y_is = values_after (λ f. f.y) y y' ys (ap (take n) own.y_is ∙ server_values P c n at xs₀ ys₀ t known own_taken (λ f. f.y) ys₀) (rw (length-take-le n ys room_ys) at gy);
            valid = valid_after;
          }
