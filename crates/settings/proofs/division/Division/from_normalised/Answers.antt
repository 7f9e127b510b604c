-- `Division::from_normalised` meets its contract: the number that is cast is at most 14. Assumes nothing.
use Rattle.std.proofs.Common.{◌≡◌, ℕ, ◌^◌, ◌<◌, ap, ◌∙◌, le_trans, le_of_eq, lt_of_le_of_lt, lit<, lit≤}
use lib.Ieee.{Float, binary32, to_unsigned}
use Rattle.floatlaws.specs.Whole.{whole_of, to_half}
use Rattle.floatlaws.specs.Rounded.{◌×₃₂◌}
use Rattle.floatlaws.specs.Numbers.{f32_14}
use Rattle.settings.specs.Divisions.{nearest_place, nearest_division}
use Rattle.floatlaws.proofs.Casts.{unsigned_narrow}
use Rattle.settings.proofs.Knob.{place_le}
use Rattle.settings.proofs.division.Division.from_normalised.Goals as goal
use Rattle.settings.proofs.division.Division.from_normalised.Goals.{After-f64_to_u64-index}

small : (n : Float) (k : ℕ) → k ≡ to_unsigned 64 (nearest_place n) → k < 2 ^ 8
small n k e = lt_of_le_of_lt (le_trans (le_of_eq e) (place_le n)) (lit< tt)

abbrev knob : After-f64_to_u64-index → Float
knob c = c.args.n

place : (c : After-f64_to_u64-index) → c.f64_to_u64-index.result ≡ to_unsigned 64 (nearest_place (knob c))
unfolding nearest_place
place c =
    c.f64_to_u64-index.ensures
    ∙ ap (to_unsigned 64)
    (c.f32_to_f64_with_nan-nearest.ensures
    ∙ c.round_f32.ensures
    ∙ ap (λ (x : Float). whole_of binary32 to_half (x ×₃₂ f32_14)) c.clamp-k.ensures)

pub overflow_cast-index : goal.overflow_cast-index
overflow_cast-index c = record { fits = small (knob (goal.at.overflow_cast-index c).After-f64_to_u64-index) c.f64_to_u64-index.result (place (goal.at.overflow_cast-index c).After-f64_to_u64-index) }

pub returns : goal.returns
unfolding nearest_division
returns c = rw (place (goal.at.returns c).After-f64_to_u64-index, unsigned_narrow 8 64 (nearest_place (knob (goal.at.returns c).After-f64_to_u64-index)) (lit≤ tt) (lt_of_le_of_lt (place_le (knob (goal.at.returns c).After-f64_to_u64-index)) (lit< tt)))
