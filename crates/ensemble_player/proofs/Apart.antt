-- A block in which each voice plays for itself: what its calls ask, and what they give together. Assumes nothing.
use Rattle.std.proofs.Common.{◌≡◌, ℕ, ◌+◌, ◌*◌, ◌^◌, ◌<◌, ◌≤◌, false, cond, List, ◌++◌, map, length, get_or, take, drop, sym, refl, ap, ◌∙◌, subst, arith, length-append, length-drop, length-take-le, get_or-take, take_at, None}
use lib.ListN.{get_or-append, length-map}
use lib.Ieee.{Float, nan}
use Rattle.settings.specs.declared.record.Settings.{Settings}
use Rattle.settings.specs.declared.record.Transport.{Transport}
use Rattle.clock.specs.declared.ready.Prepared.{Prepared}
use Rattle.clock.specs.Ready.{prepared_of}
use Rattle.reach.specs.Bounds.{AnchorIn, TransportIn}
use Rattle.reach.proofs.Reach.{anchor_later, sample_count_in}
use Rattle.voice.specs.Frame.{Frame}
use Rattle.slot.specs.Moved.{LoopbackIn}
use Rattle.slot.specs.Slot.{Lfo, slot_curve, LfoIn}
use Rattle.slot.proofs.Blocks as blocks
use Rattle.slot.proofs.Curves.{searchable}
use Rattle.columns.specs.Columns.{interleaved}
use Rattle.ensemble.specs.declared.Member.{Member}
use Rattle.ensemble.specs.declared.BlockPage.{BlockPage}
use Rattle.ensemble.specs.Pages.{block_page}
use Rattle.ensemble.specs.Ensemble.{page_curve, member_after, member_outs, no_member, AllReady, PlaysAll}
use Rattle.columns.proofs.Places.{get_or_map_in}
use Rattle.ensemble.proofs.Curves.{page_curve_lem}
use Rattle.questions.proofs.Facts.{transport_is_in}
use Rattle.calls.specs.Blocks.{played_state, values, finished}
use Rattle.player.specs.declared.Deck.{Deck}
use Rattle.player.specs.Player.{Valid as PlayerValid}
use Rattle.ensemble_calls.specs.Ensembles.{VoiceRecord, EnsembleState, with_pending}
use Rattle.ensemble_calls.specs.Blocks.{playing, played_record, played_ensemble, voice_values, voice_finished, ensemble_values}
use Rattle.ensemble_calls.proofs.Blocks.{Taken}
use Rattle.ensemble_player.specs.declared.Decks.{Decks}
use Rattle.ensemble_player.specs.declared.Ensemble.{Ensemble}
use Rattle.ensemble_player.specs.Ensembles.{record_of, state_of, with_decks, Valid}
use Rattle.ensemble_player.specs.Plays.{ReadyAt, PlaysBlock}
use Rattle.ensemble_player.proofs.Voices.{map_through, map_map}
use Rattle.ensemble_player.proofs.Blocks.{facts}

module _ (e : Ensemble) (t : Transport) (n : ℕ) (x y : List Float) (h : ReadyAt e t n x y) where
  abbrev S : EnsembleState
  S = state_of e

  abbrev lfo : Lfo
  lfo = S.lfo

  abbrev s : Settings
  s = lfo.settings

  abbrev f : ℕ
  f = e.decks.server.played

  abbrev ready : Prepared
  ready = prepared_of s lfo.clock t n

  abbrev valid : Valid e
  valid = h.ready.valid

  abbrev i : LfoIn f lfo
  i = valid.server_valid.lfo_in

  abbrev yes : Taken e.count f h.codes n (length x) (length y)
  yes = facts h.ready

  transport_within : TransportIn t
  transport_within = transport_is_in h.codes yes.transport t h.known

  -- what `prepare` asks
  pub count_small : e.decks.server.clock.n + n < 2 ^ 64
  count_small = blocks.count_small lfo t f n i transport_within yes.short yes.within_life

  -- what `block_page` asks
  pub loopback_small : LoopbackIn e.page.shape.loopback 64
  loopback_small = blocks.loopback_more e.page.shape.loopback _ _ i.shape_in.short i.shape_in.loopback_is_in

  -- what the sum of the frames asks
  pub within_life : f + n ≤ 2 ^ 40
  within_life = yes.within_life

  -- ---- of the block and the page that the code made

  module _ (p : Prepared) (prepared : p ≡ ready) (page : BlockPage) (paged : page ≡ block_page e.page p.block n e.count) where
    abbrev all : BlockPage
    all = block_page e.page ready.block n e.count

    page_is : page ≡ all
    page_is = paged ∙ ap (λ (z : Prepared). block_page e.page z.block n e.count) prepared

    curve_is : page_curve all ≡ slot_curve s.kind lfo
    curve_is = page_curve_lem e.page ready.block n e.count lfo.clock valid.server_valid.lists_in

    all_ready : AllReady all e.decks.members x y
    all_ready =
        record {
          page_in =
              record {
                searchable = rw curve_is (searchable lfo i s.kind);
                short = yes.short;
                few = valid.few;
                clock_small = blocks.clock_small lfo t f n i transport_within yes.short yes.within_life;
              };
          listed = omega (arith, valid.listed, valid.few);
          members_in = λ (v : ℕ) (k : v < e.count). omega (arith, sample_count_in (get_or e.decks.members v no_member).voice.anchor f (valid.members_in v k), yes.within_life);
          room_x = yes.room_x;
          room_y = yes.room_y;
        }

    -- what `play_members` asks
    pub members_ready : AllReady page e.decks.members x y
    members_ready = rw page_is all_ready

    -- ---- what the calls give together

    module _ (off : e.shared ≡ false) (members : List Member) (x' y' : List Float) (plays : PlaysAll page e.decks.members x y members x' y') where
      own : PlaysAll all e.decks.members x y members x' y'
      own = subst (λ (z : BlockPage). PlaysAll z e.decks.members x y members x' y') page_is plays

      abbrev server : Deck
      server = record { clock = p.clock; voice = e.decks.server.voice; kept = e.decks.server.kept; played = f + n }

      abbrev next : Decks
      next = record { server = server; asked = None; members = members }

      abbrev after : VoiceRecord → VoiceRecord
      after z = cond e.shared (with_pending z None) (played_record S t n z)

      -- a voice's block is its record's
      after_is : (m : Member) → record_of (member_after all m) ≡ after (record_of m)
      after_is m = unfold member_after played_record played_state in rw (off, curve_is) refl

      outs_are : (g : Frame → Float) (m : Member) → member_outs all g m ≡ voice_values S t n g (record_of m)
      outs_are g m = unfold member_outs voice_values playing values in rw (off, curve_is) refl

      done_is : (m : Member) → (member_after all m).finished ≡ voice_finished S t n (record_of m)
      done_is m = unfold member_after voice_finished playing finished in rw (off, ← curve_is) refl

      abbrev first : List Member
      first = take e.count e.decks.members

      length_first : length first ≡ e.count
      length_first = length-take-le e.count e.decks.members (omega (arith, valid.listed, valid.few))

      first_are : take e.count members ≡ map (member_after all) first
      first_are =
          ap (take e.count) own.voices_are
          ∙ take_at (map (member_after all) first) (drop e.count e.decks.members) e.count (length-map first (member_after all) ∙ length_first)

      state_after : state_of (with_decks e next) ≡ played_ensemble S t n
      state_after =
          go prepared
          (ap (map record_of) first_are ∙ map_map record_of (member_after all) first ∙ map_through (λ (m : Member). record_of (member_after all m)) after after_is first)
        where
          go : {z : Prepared} {l : List VoiceRecord} → z ≡ ready → l ≡ map after S.voices
              → ◌≡◌ {A = EnsembleState} (record { lfo = record { settings = s; shape = lfo.shape; path = lfo.path; buses = lfo.buses; clock = z.clock }; shared = e.shared; voices = l; server = record { voice = e.decks.server.voice; pending = None }; played = f + n })
              (played_ensemble S t n)
          go z l = unfold played_ensemble in rw (z, l, off) refl

      finished_after : map (λ m. m.finished) (take e.count members) ≡ map (voice_finished S t n) S.voices
      finished_after =
          ap (map (λ (m : Member). m.finished)) first_are ∙ map_map (λ (m : Member). m.finished) (member_after all) first
          ∙ map_through (λ (m : Member). (member_after all m).finished) (voice_finished S t n) done_is first

      values_after : (g : Frame → Float) (l l' : List Float) → l' ≡ interleaved nan n (map (member_outs all g) first) ++ drop (n * e.count) l → l' ≡ ensemble_values S t n g ++ drop (n * e.count) l
      values_after g l l' is =
          unfold ensemble_values in is ∙ ap (λ (cols : List (List Float)). interleaved nan n cols ++ drop (n * e.count) l) (map_through (member_outs all g) (voice_values S t n g) (outs_are g) first)

      member_at : (v : ℕ) → v < e.count → get_or members v no_member ≡ member_after all (get_or e.decks.members v no_member)
      member_at v k =
          ap (λ (l : List Member). get_or l v no_member) own.voices_are
          ∙ get_or-append (map (member_after all) first) (drop e.count e.decks.members) no_member v (omega (arith, length-map first (member_after all), length_first))
          ∙ get_or_map_in (member_after all) first v no_member no_member (omega (arith, length_first))
          ∙ ap (member_after all) (get_or-take e.count e.decks.members v no_member k)

      anchor_after : (m : Member) → AnchorIn f m.voice.anchor → AnchorIn (f + n) (member_after all m).voice.anchor
      unfolding member_after
      anchor_after m a = rw curve_is (blocks.voice_in lfo t f n i transport_within yes.short yes.within_life m.voice a m.pending)

      server_after : PlayerValid (record { page = e.page; deck = server })
      server_after =
          record {
            within = yes.within_life;
            lfo_in = rw prepared (blocks.clocked_in lfo t f n i transport_within yes.short yes.within_life);
            anchor_in = anchor_later e.decks.server.voice.anchor f (f + n) (omega arith) valid.server_valid.anchor_in;
            lists_in = valid.server_valid.lists_in;
            kept_for = valid.server_valid.kept_for;
          }

      valid_after : Valid (with_decks e next)
      valid_after =
          record {
            server_valid = server_after;
            listed =
                ap length own.voices_are ∙ length-append (map (member_after all) first) (drop e.count e.decks.members)
                ∙ omega (arith, length-map first (member_after all), length_first, length-drop e.count e.decks.members, valid.listed, valid.few);
            several = valid.several;
            few = valid.few;
            members_in = λ (v : ℕ) (k : v < e.count).
                subst (λ (m : Member). AnchorIn (f + n) m.voice.anchor) (sym (member_at v k)) (anchor_after (get_or e.decks.members v no_member) (valid.members_in v k));
          }

      pub apart : PlaysBlock e t n x y next x' y'
      apart =
          record {
            state_is = state_after;
            finished_is = finished_after;
            x_is = values_after (λ g. g.x) x x' own.x_is;
            y_is = values_after (λ g. g.y) y y' own.y_is;
            valid = valid_after;
          }
