-- What holds of a new player and of one that is edited. Assumes nothing.
use Prim.Native.Nat.{ℕ, ◌<◌}
use mathlib.Core.Path.{◌≡◌, refl, ◌∙◌}
use mathlib.Core.Bool.{Bool, true, false}
use mathlib.Core.List.{List}
use native.Mathlib.Omega.{arith}
use borrow.Author.Tests.{eqb-true, eqb-false}
use lib.Dec.{T, eqb, lit≤}
use lib.ListN.{get_or, set, length-set}
use lib.Seq.{get_or-set_same, get_or-set_other}
use lib.Ieee.{Float, nan}
use lib.Ieee.Scale.{finite}
use Rattle.points.specs.Modulation.{FiniteBuses}
use Rattle.shape.specs.declared.Shape.{Shape}
use Rattle.path.specs.declared.Path.{Path}
use Rattle.settings.specs.declared.record.Settings.{Settings}
use Rattle.reach.specs.Bounds.{SettingsIn}
use Rattle.slot.specs.Slot.{ShapeIn, PathIn, BusesIn}
use Rattle.slot.specs.Page.{page_of}
use Rattle.slot.proofs.Curves.{void_for}
use Rattle.slot.proofs.Slots.{new_lfo_in, new_voice_in}
use Rattle.player.specs.declared.Player.{Player}
use Rattle.player.specs.Player.{new_player, edited_player, Valid}

pub new_valid : (s : Settings) (seed : ℕ) → SettingsIn s → Valid (new_player s seed)
new_valid s seed i = record { within = lit≤ tt; lfo_in = new_lfo_in s i; anchor_in = new_voice_in seed; lists_in = refl; kept_for = void_for _ _ }

-- its voice and its clock stay
pub edited_valid : (p : Player) (s : Settings) (shape : Shape) (path : Path) (buses : List Float) → Valid p
    → SettingsIn s → ShapeIn shape → PathIn path → BusesIn buses → Valid (edited_player p (page_of s shape path buses))
edited_valid p s shape path buses v i j k l =
    record {
      within = v.within;
      lfo_in = record { settings_in = i; shape_in = j; path_in = k; buses_in = l; clock_in = v.lfo_in.clock_in };
      anchor_in = v.anchor_in;
      lists_in = refl;
      kept_for = void_for _ _;
    }

-- one bus at another finite value
pub bus_in : (buses : List Float) (k : ℕ) (value : Float) → BusesIn buses → k < 16 → T (finite value) → BusesIn (set buses k value)
bus_in buses k value i h f = record { long = length-set buses k value ∙ i.long; finite_all = still }
  where
    still : FiniteBuses (set buses k value)
    still j g = go (eqb j k) refl
      where
        go : (b : Bool) → eqb j k ≡ b → T (finite (get_or (set buses k value) j nan))
        go true e = rw (eqb-true j k e, get_or-set_same buses k value nan (omega (arith, i.long))) f
        go false e = rw (get_or-set_other buses k j value nan (eqb-false j k e)) (i.finite_all j g)
