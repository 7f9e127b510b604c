-- `whole::round_f32` meets its contract, by the laws of proofs/Half.antt.
-- Assumes nothing.
use Rattle.std.proofs.Common.{sym, ◌∙◌}
use Rattle.floatlaws.specs.Whole.{to_half}
use Rattle.floatlaws.proofs.Extrema.{is_itself}
use Rattle.whole.proofs.Half.{plus_of_minus, turned, nan_stays}
use Rattle.whole.proofs.round_f32.Goals as goal

pub is_sign_negative-requires : goal.is_sign_negative-requires
is_sign_negative-requires c = is_itself c.args.x c.if-x.false

pub half_up-requires : goal.half_up-requires
half_up-requires c = plus_of_minus c.args.x (sym c.is_sign_negative.ensures ∙ c.if-is_sign_negative.true)

pub returns-then-x : goal.returns-then-x
returns-then-x c = nan_stays to_half c.args.x c.if-x.true

pub returns-then-is_sign_negative : goal.returns-then-is_sign_negative
returns-then-is_sign_negative c = turned c.args.x c.half_up.result c.half_up.ensures
