-- `play` meets its contract. Assumes nothing.
use mathlib.Core.Path.{sym, ◌∙◌}
use native.Mathlib.Omega.{arith}
use Rattle.questions.proofs.Results.{passed_on}
use Rattle.player.proofs.Blocks.{block_refused, block_known, within_life, count_small, block_stretch, block_played}
use Rattle.player.proofs.playing.play.Goals as goal

pub returns-in_err-block_answer : goal.returns-in_err-block_answer
returns-in_err-block_answer c = rw (passed_on _ c.from_residual.ensures) (block_refused _ c.requires _ _ _ _ _ _ c.in_err-block_answer.ensures)

pub returns-in_err-transport : goal.returns-in_err-transport
returns-in_err-transport c =
    absurd (block_known _ c.requires _ _ _ _ _ c.in_ok-block_answer.ensures (sym c.from_codes.ensures ∙ c.in_err-transport.ensures.ok_part))

pub prepare-prepared-requires : goal.prepare-prepared-requires
prepare-prepared-requires c =
    let a = c.args in
    count_small a.p c.requires a.t a.frames a.restart a.x.now a.y.now c.in_ok-block_answer.ensures _ (sym c.from_codes.ensures ∙ c.in_ok-transport.ensures.ok_part)

pub render_parts-r-requires : goal.render_parts-r-requires
render_parts-r-requires c =
    let a = c.args in
    block_stretch a.p c.requires a.t a.frames a.restart a.x.now a.y.now c.in_ok-block_answer.ensures _ (sym c.from_codes.ensures ∙ c.in_ok-transport.ensures.ok_part)
    _ _ c.point_count.ensures c.loop_point.ensures _ c.prepare-prepared.ensures

pub overflow_add-deck : goal.overflow_add-deck
overflow_add-deck c =
    let a = c.args in
    record { fits = omega (arith, within_life a.p c.requires a.t a.frames a.restart a.x.now a.y.now c.in_ok-block_answer.ensures) }

pub returns : goal.returns
returns c =
    let a = c.args in
    block_played a.p c.requires a.t a.frames a.restart a.x.now a.y.now c.in_ok-block_answer.ensures _ (sym c.from_codes.ensures ∙ c.in_ok-transport.ensures.ok_part)
    _ _ c.point_count.ensures c.loop_point.ensures _ c.prepare-prepared.ensures _ c.pending.ensures _ _ _ _
    c.render_parts-r.ensures c.finished-finished.ensures
