-- A block of a slot and of a voice that plays it: what it asks of both, and what holds of both after it. Assumes nothing.
use Rattle.std.proofs.Common.{◌≡◌, ℕ, ◌+◌, ◌^◌, ◌<◌, ◌≤◌, List, length, ap, arith, None, Option, Some}
use lib.Ieee.{Float}
use Rattle.shape.specs.declared.Shape.{Shape}
use Rattle.path.specs.declared.Path.{Path}
use Rattle.clock.specs.declared.ready.Prepared.{Prepared}
use Rattle.clock.specs.Block.{free_count}
use Rattle.clock.specs.Ready.{prepared_of}
use Rattle.settings.specs.declared.choices.LfoType.{LfoType}
use Rattle.settings.specs.declared.record.Settings.{Settings}
use Rattle.settings.specs.declared.record.Transport.{Transport}
use Rattle.reach.specs.Bounds.{AnchorIn, BlockIn, FreeIn, ClockIn, TransportIn}
use Rattle.reach.proofs.Reach.{sample_count_in, free_count_in}
use Rattle.reach.proofs.Frame as frame
use Rattle.voice.specs.declared.Voice.{Voice}
use Rattle.voice.specs.declared.generator.Kept.{Kept}
use Rattle.voice.specs.Curve.{Curve, KeptFor}
use Rattle.bank.specs.Render.{Stretch}
use Rattle.bank.specs.Parts.{parts_voice}
use Rattle.slot.specs.declared.moved.Lists.{Lists}
use Rattle.slot.specs.Moved.{LoopbackIn, lists_of, curve_with, moved_curve}
use Rattle.slot.specs.Slot.{Lfo, slot_curve, clocked_lfo, LfoIn}
use Rattle.slot.proofs.Anchors.{parts_in}
use Rattle.slot.proofs.Curves.{searchable}

-- a loopback point among fewer points is one among more
pub loopback_more : (l : Option ℕ) (m n : ℕ) → m ≤ n → LoopbackIn l m → LoopbackIn l n
loopback_more None m n h i = tt
loopback_more (Some k) m n h i = omega arith

-- the curve of lists that belong to a type is the type's
pub curve_is : (kind : LfoType) (shape : Shape) (path : Path) (buses : List Float) (l : Lists) → l ≡ lists_of kind shape path buses
    → curve_with kind shape path l ≡ moved_curve kind shape path buses
unfolding moved_curve
curve_is kind shape path buses l e = ap (λ (m : Lists). curve_with kind shape path m) e

-- ---- a block of `frames` frames, after f frames

module _ (lfo : Lfo) (t : Transport) (f frames : ℕ)
    (i : LfoIn f lfo) (J : TransportIn t) (short : frames ≤ 4096) (within : f + frames ≤ 2 ^ 40) where
  abbrev s : Settings
  s = lfo.settings

  abbrev q : Curve
  q = slot_curve s.kind lfo

  abbrev ready : Prepared
  ready = prepared_of s lfo.clock t frames

  -- ---- the slot

  pub count_small : lfo.clock.n + frames < 2 ^ 64
  count_small = omega (arith, i.clock_in.counted_in, within)

  pub block_in : BlockIn ready.block
  block_in = frame.block_in s lfo.clock t f frames 0 i.settings_in J i.clock_in short within (omega arith)

  clocks_in : FreeIn f ready.block.free × ClockIn (f + frames) ready.clock
  clocks_in = frame.clock_in s lfo.clock t f frames 0 i.settings_in J i.clock_in short within (omega arith)

  pub clock_small : free_count ready.block.free < 2 ^ 63
  clock_small = omega (arith, free_count_in ready.block.free f clocks_in.0, within)

  pub clocked_in : LfoIn (f + frames) (clocked_lfo lfo ready.clock)
  clocked_in = record { settings_in = i.settings_in; shape_in = i.shape_in; path_in = i.path_in; buses_in = i.buses_in; clock_in = clocks_in.1 }

  -- ---- a voice

  module _ (v : Voice) (a : AnchorIn f v.anchor) where
    -- what `render_parts` asks
    pub slot_stretch : (kept : Kept) (x y : List Float) → KeptFor s.kind q kept → frames ≤ length x → frames ≤ length y
        → Stretch s q ready.block v kept 0 frames x y
    slot_stretch kept x y k room_x room_y =
        record {
          searchable = searchable lfo i s.kind;
          kept_for = k;
          short = omega (arith, short);
          room_x = omega (arith, room_x);
          room_y = omega (arith, room_y);
          anchor_small = omega (arith, sample_count_in v.anchor f a, within);
          clock_small = clock_small;
        }

    pub voice_in : (at : Option ℕ) → AnchorIn (f + frames) (parts_voice s q ready.block frames v at).anchor
    voice_in at = parts_in s q ready.block block_in f frames v at short within a
