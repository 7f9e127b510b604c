-- The restart rule of players holds: what two sessions left in their buffers is what the rule of lists of calls is about. Assumes nothing.
use Prim.Native.Nat.{◌<◌}
use mathlib.Core.Path.{◌≡◌, refl, sym, ap, ◌∙◌, subst}
use mathlib.Core.List.{List, ◌∷◌}
use lib.ListN.{length}
use lib.Ieee.{Float}
use borrow.Author.Tests.{eq-eqb}
use Rattle.calls.specs.State.{State}
use Rattle.calls.specs.Calls.{Call, block, answer, step, after}
use Rattle.player.specs.Player.{state_of, with_deck}
use Rattle.player.specs.Promises.{deck_after}
use Rattle.codes.specs.declared.TransportCodes.{TransportCodes}
use Rattle.restart.specs.Heard.{Side, window}
use Rattle.restart.specs.Rule.{RestartFrom, AtRestart, Hypotheses, JustMade, new_player}
use Rattle.restart.specs.Rule as Rule
use Rattle.restart.proofs.RestartRule.{restart_rule}
use Rattle.players_rule.specs.Rule.{Session, frame_at, written_from, throughout, at_restart, PlayersRule}
use Rattle.reached.proofs.Traces.{history_state}
use Rattle.players_rule.proofs.Calls.{read_is, written_heard, transports_window}

module _ (s : Session) where
  abbrev call : Call
  call = block s.transport s.frames s.restart s.x s.y

  pub player : JustMade
  player = record { codes = s.history.codes; seed = s.history.seed; accepted = eq-eqb _ 0 (sym s.history.makes.answer_is ∙ s.made) }

  -- the player that the restart's block gets, and the one that it leaves
  at_is : state_of s.at ≡ after (new_player player) s.history.calls
  unfolding player
  at_is = history_state s.history

  past_is : state_of (with_deck s.at (deck_after s.at s.block)) ≡ step (after (new_player player) s.history.calls) call
  past_is = s.plays.state_is ∙ ap (λ (z : State). step z call) at_is

  pub restart : RestartFrom (new_player player)
  restart =
      record {
        before = s.history.calls;
        transport = s.transport;
        frames = s.frames;
        restart = s.restart;
        x = s.x;
        y = s.y;
        rest = s.rest;
        accepted = ap (λ (z : State). answer z call) (sym at_is) ∙ sym s.plays.answer_is ∙ s.accepted;
        carried = s.carried;
      }

  -- a block's own, and what follows
  frames_from_lem : (side : Side) → written_from s side ≡ Rule.frames_from restart side
  unfolding restart written_from Rule.frames_from
  frames_from_lem side =
      let own = read_is side s.at s.transport s.frames s.restart s.x s.y s.block s.x' s.y' s.plays in
      let later = written_heard side s.from_block in
      rw (own, later, at_is, past_is) refl

  -- of the player that the block gets, with these transports after the block's
  abbrev with : State → List TransportCodes → AtRestart
  with z l = record { state = z; transports = s.transport ∷ l; word = Rule.word_after z s.transport s.frames (frame_at s) }

  at_restart_lem : at_restart s ≡ Rule.at_restart restart
  unfolding restart throughout Rule.throughout Rule.word_at
  at_restart_lem =
      let later = transports_window s.from_block ∙ ap (λ (z : State). window z s.rest) past_is in
      ap (λ (l : List TransportCodes). with (state_of s.at) l) later ∙ ap (λ (z : State). with z (window (step (after (new_player player) s.history.calls) call) s.rest)) at_is

pub players_rule : PlayersRule
players_rule s₁ s₂ fields h side n u v =
    rw (frames_from_lem s₁ side, frames_from_lem s₂ side)
    (restart_rule (player s₁) (player s₂) (restart s₁) (restart s₂) fields
    (subst (λ (z : AtRestart). Hypotheses z (Rule.at_restart (restart s₂)) fields) (at_restart_lem s₁)
    (subst (λ (z : AtRestart). Hypotheses (at_restart s₁) z fields) (at_restart_lem s₂) h))
    side n
    (subst (λ (z : List Float). n < length z) (frames_from_lem s₁ side) u)
    (subst (λ (z : List Float). n < length z) (frames_from_lem s₂ side) v))
