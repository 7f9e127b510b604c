-- `play` meets its contract. Assumes nothing.
use Rattle.std.proofs.Common.{sym, ◌∙◌}
use Rattle.questions.proofs.Results.{passed_on}
use Rattle.ensemble_player.proofs.Blocks.{block_refused, block_known, block_ready, block_ready_at, block_played}
use Rattle.ensemble_player.specs.Plays.{PlaysBlock}
use Rattle.ensemble_player.proofs.playing.play.Goals as goal
use Rattle.ensemble_player.proofs.playing.play.Goals.{Joined-e as Played, then-e, else-e}

pub returns-in_err-play_answer : goal.returns-in_err-play_answer
returns-in_err-play_answer c =
    rw (passed_on _ c.from_residual.ensures) (block_refused _ c.requires _ _ _ _ _ c.in_err-play_answer.ensures)

pub returns-in_err-transport : goal.returns-in_err-transport
returns-in_err-transport c =
    absurd (block_known _ c.requires _ _ _ _ c.in_ok-play_answer.ensures (sym c.from_codes.ensures ∙ c.in_err-transport.ensures.ok_part))

pub play_shared-decks-requires : goal.play_shared-decks-requires
play_shared-decks-requires c =
    (block_ready _ c.requires _ _ _ _ c.in_ok-play_answer.ensures, c.if-e.true)

pub play_apart-decks-requires : goal.play_apart-decks-requires
play_apart-decks-requires c =
    (block_ready_at _ c.requires _ _ _ _ c.in_ok-play_answer.ensures _ (sym c.from_codes.ensures ∙ c.in_ok-transport.ensures.ok_part), c.if-e.false)

-- what either way gives
block : (c : Played) → PlaysBlock c.args.e c.in_ok-transport.transport c.args.frames c.args.x.now c.args.y.now c.if-e.decks c.if-e.x c.if-e.y
block c =
    elim c.if-e.branch [
      | then-e w ↦ rw (w.decks-is, w.x-is, w.y-is) (w.play_shared-decks.ensures _ (sym c.from_codes.ensures ∙ c.in_ok-transport.ensures.ok_part))
      | else-e w ↦ rw (w.decks-is, w.x-is, w.y-is) w.play_apart-decks.ensures
    ]

pub returns : goal.returns
returns c =
    block_played _ c.requires _ _ _ _ c.in_ok-play_answer.ensures _ (sym c.from_codes.ensures ∙ c.in_ok-transport.ensures.ok_part) _ _ _ _ (block (goal.at.returns c).Joined-e) c.finished_of-finished.ensures
