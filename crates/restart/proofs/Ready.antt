-- What holds of a block that is made of settings and a transport as accepted calls leave them. Assumes nothing.
use Prim.Native.Nat.{ℕ, ◌<◌}
use mathlib.Core.Path.{◌≡◌}
use mathlib.Core.Logic.{◌⊎◌, inr}
use mathlib.Core.Bool.{Bool, true, false, ◌&&◌, cond}
use lib.Dec.{T, ltb, ltb→lt, lit≤}
use lib.Ieee.{nan, eq}
use lib.Ieee.Bits.{is_true}
use Rattle.floatlaws.proofs.NoNan.{finite_number}
use Rattle.floatlaws.proofs.Order.{eq_refl_at}
use Rattle.floatlaws.specs.Size.{Size}
use Rattle.floatlaws.proofs.Size.{size_finite, size_more}
use Rattle.settings.specs.declared.record.Settings.{Settings}
use Rattle.settings.specs.declared.record.Transport.{Transport}
use Rattle.clock.specs.declared.free.Clock.{Clock}
use Rattle.clock.specs.Ready.{phase_of, snapped, start_phase, pace_at, block_of, prepared_of}
use Rattle.reach.specs.Bounds.{TransportIn, SwingIn}
use Rattle.reach.proofs.Prepared.{phase_in, prepared_in}
use Rattle.reach.proofs.Swing.{swing_in}
use Rattle.restart.proofs.Restarted.{Starts}
use Rattle.restart.proofs.Settled.{ungridded, Settled}
use Rattle.restart.proofs.Snapped.{snapped_near}

-- Phase is small, if it is a number
phase_near : (s : Settings) → Settled s → (start_phase s ≡ nan) ⊎ Size (start_phase s) 2
unfolding start_phase
phase_near s i = go s.phase_snap (ltb 0 s.grid_x) (ltb→lt 0 s.grid_x)
  where
    plain : Size (phase_of s) 1
    plain = at s.phase_snap (phase_in (ungridded s) i)
      where
        at : (p : Bool) → Size (cond (p && false) (snapped (phase_of s) 0) (phase_of s)) 1 → Size (phase_of s) 1
        at true z = z
        at false z = z

    go : (p q : Bool) → (T q → 0 < s.grid_x)
        → (cond (p && q) (snapped (phase_of s) s.grid_x) (phase_of s) ≡ nan) ⊎ Size (cond (p && q) (snapped (phase_of s) s.grid_x) (phase_of s)) 2
    go true true h = snapped_near (phase_of s) s.grid_x plain (h tt)
    go true false h = inr (size_more (lit≤ tt) plain)
    go false q h = inr (size_more (lit≤ tt) plain)

module _ (s : Settings) (i : Settled s) (k : Clock) (t : Transport) (J : TransportIn t) (n : ℕ) where
  pub inc_in : Size (prepared_of s k t n).block.inc 1
  unfolding prepared_of block_of pace_at
  inc_in = (prepared_in (ungridded s) k t n i J).inc_in

  -- the increment is a number
  pub inc_number : eq (prepared_of s k t n).block.inc (prepared_of s k t n).block.inc ≡ true
  inc_number = is_true _ (eq_refl_at (prepared_of s k t n).block.inc (finite_number (prepared_of s k t n).block.inc (size_finite inc_in)))

  pub starts : Starts (prepared_of s k t n).block
  unfolding prepared_of block_of
  starts = (phase_near s i, inc_in)

  pub swing_fits : SwingIn (prepared_of s k t n).block.swing
  unfolding prepared_of block_of
  swing_fits = swing_in (pace_at s t).cycles s.swing t.swing J.swing_number
