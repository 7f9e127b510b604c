-- `set_settings` meets its contract. Assumes nothing.
use mathlib.Core.Path.{sym, ◌∙◌}
use Rattle.questions.proofs.Facts.{settings_given}
use Rattle.questions.proofs.Results.{passed_on}
use Rattle.player.proofs.Sets.{settings_refused, settings_set}
use Rattle.player.proofs.edits.set_settings.Goals as goal

pub returns-in_err-settings_answer : goal.returns-in_err-settings_answer
returns-in_err-settings_answer c = rw (passed_on _ c.from_residual.ensures) (settings_refused _ c.requires _ _ c.in_err-settings_answer.ensures)

pub returns-in_err-s : goal.returns-in_err-s
returns-in_err-s c =
    absurd (settings_given _ (sym c.in_ok-settings_answer.ensures) (sym c.from_codes.ensures ∙ c.in_err-s.ensures.ok_part))

pub returns : goal.returns
returns c =
    let known = sym c.from_codes.ensures ∙ c.in_ok-s.ensures.ok_part in
    -- the last field of the settings is a u16
    let grid = c.clamped.type_inv.1.1.1.1.1.1.1.1.1.1.1.1.1.0.1 in
    settings_set _ c.requires _ c.in_ok-settings_answer.ensures _ _ known c.clamped.ensures grid _ c.of.ensures _ c.edited.ensures
