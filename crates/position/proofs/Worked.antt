-- The table of the worked positions and swings holds: a test of it that computes, and what the test shows. Assumes nothing.
use mathlib.Core.Bool.{Bool, true, ◌&&◌}
use mathlib.Core.List.{List, [], ◌∷◌}
use lib.Dec.{T}
use lib.Ieee.{round, of_bits, add, sub, mul, div, rem, neg, lt, eq, is_nan, to_signed}
use lib.Ieee.Fits.{and_l, and_r}
use Rattle.floatlaws.specs.Extrema.{max_of}
use Rattle.floatlaws.specs.Whole.{whole_of}
use Rattle.floatlaws.specs.Euclid.{rem_euclid}
use Rattle.floatlaws.proofs.Same.{same_number, same_number_lem}
use Rattle.position.specs.Position.{swung_of, into_pair, odd_cycle, cyclic_of, forward_once, forward_loop, reverse_once, reverse_loop, back_once, bounced, ping_pong_once, ping_pong_loop, position_of}
use Rattle.position.specs.Table.{Row, place, swing, table, Says, Each, TableRule}

holds : Row → Bool
holds (place m d c l r) = same_number (position_of m d c l) r
holds (swing first c r) = same_number (swung_of c first) r

all : List Row → Bool
all [] = true
all (r ∷ rows) = holds r && all rows

all_hold : T (all table)
unfolding table all holds same_number round of_bits add sub mul div rem neg lt eq is_nan to_signed max_of whole_of rem_euclid swung_of into_pair odd_cycle cyclic_of forward_once forward_loop reverse_once reverse_loop back_once bounced ping_pong_once ping_pong_loop
all_hold = tt

-- ---- what the test shows

says : (r : Row) → T (holds r) → Says r
unfolding holds
says (place m d c l r) h = same_number_lem (position_of m d c l) r h
says (swing first c r) h = same_number_lem (swung_of c first) r h

each : (rows : List Row) → T (all rows) → Each rows
unfolding all Each
each [] h = tt
each (r ∷ rows) h = (says r (and_l (holds r) (all rows) h), each rows (and_r (holds r) (all rows) h))

pub worked : TableRule
worked = each table all_hold
