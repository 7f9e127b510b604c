-- One list of calls: the frames from its restart are frames of the voice as the restart leaves it. Assumes nothing.
use Rattle.std.specs.Prelude.{Option, Some, None}
use Prim.Native.Nat.{ℕ, ◌+◌, ◌-◌}
use mathlib.Core.Path.{◌≡◌, refl, sym, ap, ap₂, ◌∙◌, subst}
use mathlib.Core.Bool.{true}
use mathlib.Core.List.{List, ◌++◌}
use lib.ListN.{drop}
use lib.Ieee.{Float}
use borrow.Author.Tests.{eq-eqb}
use Rattle.settings.specs.declared.record.Settings.{Settings}
use Rattle.settings.specs.declared.record.Transport.{Transport}
use Rattle.clock.specs.declared.block.Block.{Block}
use Rattle.clock.specs.Ready.{prepared_of}
use Rattle.voice.specs.declared.Voice.{Voice}
use Rattle.voice.specs.Curve.{Curve}
use Rattle.voice.specs.Voice.{triggered_voice}
use Rattle.bank.specs.Parts.{reaching, restarted}
use Rattle.slot.specs.Slot.{Lfo, slot_curve}
use Rattle.codes.specs.declared.RestartCodes.{RestartCodes}
use Rattle.calls.specs.State.{State}
use Rattle.calls.specs.Blocks.{pending_of, played_state, values}
use Rattle.calls.specs.Calls.{answer, accepts}
use Rattle.restart.specs.Heard.{Side, read, heard, window}
use Rattle.restart.specs.Rule.{RestartFrom, restart_block, state_at, state_past, frame_at, frames_from, throughout, word_at, TransportFields, Gets, Every}
use Rattle.restart.proofs.Constants.{Constants, constants_of}
use Rattle.restart.proofs.Frames.{Running}
use Rattle.restart.proofs.Stream.{running_later, plays_add}
use Rattle.restart.proofs.Parts.{restarted_is, restarted_runs, from_outs, from_voice}
use Rattle.restart.proofs.Accepted.{Passes}
use Rattle.restart.proofs.Ready.{inc_number}
use Rattle.restart.proofs.Steps.{value_of, block_runs, read_values, Has, values_parts, played_voice, has_played}
use Rattle.restart.proofs.Cuts.{head, tail, Standing, standing, constants_stand, unlocked, ahead, sounds, Steady, GoesOn, heard_plays}

pending_at : (r : RestartCodes) → r.code ≡ 1 → pending_of r ≡ Some r.frame
unfolding pending_of
pending_at r e = rw e refl

module _ (s : Settings) (q : Curve) (fields : TransportFields) (S : Standing s fields) {from : State} (r : RestartFrom from) (T : Passes r.transport)
    (h : Has s q (state_at r)) (ev : Every (Gets s fields) (throughout r)) where
  abbrev P : State
  P = state_at r

  abbrev t : Transport
  t = T.t

  abbrev k : ℕ
  k = frame_at r

  -- how many frames of the block come from the restart on
  abbrev own : ℕ
  own = r.frames - k

  abbrev b₀ : Block
  b₀ = standing s fields S

  -- the restart's block
  abbrev b : Block
  b = (prepared_of s P.lfo.clock t r.frames).block

  -- the voice as the restart leaves it
  abbrev start : Voice
  start = restarted s q b r.frames P.voice k

  gets : Gets s fields r.transport
  unfolding throughout
  gets = head ev

  pub like : constants_of b ≡ constants_of b₀
  like = constants_stand s fields S P.lfo.clock r.transport T gets r.frames

  pub free : b.song_lock ≡ None
  free = unlocked s fields S P.lfo.clock r.transport T gets r.frames

  taken : accepts P (restart_block r) ≡ true
  taken = eq-eqb (answer P (restart_block r)) 0 r.accepted

  -- the player after the block
  abbrev past : State
  past = played_state P t r.frames (Some r.restart.frame)

  past_is : state_past r ≡ past
  past_is =
      block_runs P r.transport r.frames r.restart r.x r.y t T.is taken ∙ ap (λ (at : Option ℕ). played_state P t r.frames at) (pending_at r.restart r.carried)

  past_voice : past.voice ≡ ahead s q fields S own start
  past_voice =
      played_voice s q P h t r.frames (Some r.restart.frame)
      ∙ from_voice s q b₀ b r.frames P.voice S.mode free like (inc_number s S.settled P.lfo.clock t T.within r.frames) r.restart.frame

  start_runs : Running s.kind b₀.inc start
  start_runs =
      subst (λ (z : Float). Running s.kind z start) (ap (λ (z : Constants). z.inc) like)
      (restarted_runs s b S.mode free (inc_number s S.settled P.lfo.clock t T.within r.frames) q r.frames P.voice k)

  steady : Steady s q fields S past
  steady =
      record {
        has = has_played s q P h t r.frames (Some r.restart.frame);
        running = rw past_voice (running_later s.kind s.mode s.direction q b₀ b₀.inc own start start_runs);
      }

  rest_plays : (side : Side) → GoesOn s q fields S side past (heard side past r.rest)
  unfolding throughout
  rest_plays side =
      heard_plays s q fields S side r.rest past steady (subst (λ (z : State). Every (Gets s fields) (window z r.rest)) past_is (tail ev))

  -- what the block leaves in the buffer
  own_values : (side : Side) → drop k (read side P r.transport r.frames r.restart r.x r.y) ≡ sounds s q fields S side own start
  own_values side =
      ap (λ (l : List Float). drop k l)
      (read_values P r.transport r.frames r.restart r.x r.y t T.is taken side
      ∙ ap (λ (at : Option ℕ). values P t r.frames at (value_of side)) (pending_at r.restart r.carried)
      ∙ values_parts s q P h t r.frames (Some r.restart.frame) (value_of side))
      ∙ from_outs s q b₀ b r.frames P.voice S.mode free like (inc_number s S.settled P.lfo.clock t T.within r.frames) r.restart.frame (value_of side)

  pub from_plays : (side : Side) → (N : ℕ) × (frames_from r side ≡ sounds s q fields S side N start)
  unfolding frames_from
  from_plays side =
      let z = rest_plays side in (
        own + z.0,
        ap₂ (λ (a l : List Float). a ++ l) (own_values side)
            (ap (λ (p : State). heard side p r.rest) past_is ∙ z.1 ∙ ap (λ (v : Voice). sounds s q fields S side z.0 v) past_voice)
            ∙ sym (plays_add s.kind s.mode s.direction q b₀ (value_of side) own z.0 start),
      )

  -- the restarted voice and the random word, of the voice that reaches the restart
  pub start_is : start ≡ triggered_voice s b (reaching s q b r.frames P.voice k)
  start_is = restarted_is s b S.mode free (inc_number s S.settled P.lfo.clock t T.within r.frames) q r.frames P.voice k

  pub word_is : word_at r ≡ (reaching s q b r.frames P.voice k).source.rng
  unfolding word_at
  word_is = rw T.is (word_cong P.lfo.settings P.lfo P.voice h.settings h.curve)
    where
      word_cong : (s' : Settings) (lfo : Lfo) (v : Voice) → s' ≡ s → slot_curve s.kind lfo ≡ q
          → (reaching s' (slot_curve s'.kind lfo) (prepared_of s' lfo.clock t r.frames).block r.frames v k).source.rng
          ≡ (reaching s q (prepared_of s lfo.clock t r.frames).block r.frames v k).source.rng
      word_cong s' lfo v e c = rw (e, c) refl
