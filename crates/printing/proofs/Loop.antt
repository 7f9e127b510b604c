-- What the loop of `print_sheet` keeps. Assumes nothing.
--     taken_in, fine_wanting     after some turns
use Prim.Native.Nat.{ℕ, ◌+◌, ◌-◌, ◌≤◌, ◌<◌, ◌^◌}
use mathlib.Core.Path.{◌≡◌, sym}
use mathlib.Core.Bool.{Bool, true, false, not, false≢true}
use mathlib.Core.List.{List}
use native.Mathlib.Omega.{arith}
use lib.ListN.{length, drop, length-drop}
use lib.Seq.{length-take-le}
use lib.Ieee.{Float}
use Rattle.sittings.proofs.Pieces.{wants_few}
use Rattle.turns.specs.declared.Sitting.{Sitting}
use Rattle.turns.specs.declared.Step.{Step}
use Rattle.turns.specs.Turns.{stage_of, index_of, ValidSitting, is_over, SomeTurns}
use Rattle.turns.proofs.Several.{goes_wanting}
use Rattle.printing.specs.Windows.{held}

pub record Fine (t : Sitting) (window out : List ℕ) (x y : List Float) (from have left : ℕ) : Type 0 where
  pub from_in : from ≤ have
  pub have_in : have ≤ 65536
  pub window_long : length window ≡ 65536
  pub out_long : length out ≡ 319488
  pub x_long : length x ≡ 4096
  pub y_long : length y ≡ 4096
  pub valid : ValidSitting t
  -- the events of all bytes that are still to come can be counted
  pub few : index_of t + (have - from) + left + 1 < 2 ^ 64

module _ {t : Sitting} {window out : List ℕ} {x y : List Float} {from have left : ℕ} (f : Fine t window out x y from have left) where
  pub held_long : length (held window from have) ≡ have - from
  held_long = length-take-le (have - from) (drop from window) (omega (arith, f.from_in, f.have_in, f.window_long, length-drop from window))

  module _ {r : Step} {out' : List ℕ} (s : SomeTurns t (held window from have) out r out') where
    pub taken_in : from + r.taken ≤ have
    taken_in = omega (arith, s.inside, held_long, f.from_in)

    -- where more bytes are wanted the window has room
    pub fine_wanting : r.full ≡ false → is_over r.sitting ≡ false → have - (from + r.taken) < 65536
    fine_wanting e goes =
        let small = wants_few (stage_of r.sitting) (drop r.taken (held window from have)) (goes_wanting s e goes) in
        omega (arith, small, held_long, length-drop r.taken (held window from have))

pub not_over : {b c : Bool} → b ≡ c → not b ≡ true → c ≡ false
not_over {b = true} e z = absurd (false≢true z)
not_over {b = false} e z = sym e
