-- An accepted block of a player is a block of its voice. Assumes nothing.
use Rattle.std.specs.Prelude.{Option, Some}
use Prim.Native.Nat.{ℕ}
use mathlib.Core.Path.{◌≡◌, refl, ap, ◌∙◌}
use mathlib.Core.Bool.{true}
use mathlib.Core.List.{List}
use lib.ListN.{length, drop}
use lib.Seq.{take_at}
use lib.Ieee.{Float}
use Rattle.settings.specs.declared.record.Settings.{Settings}
use Rattle.settings.specs.declared.record.Transport.{Transport}
use Rattle.codes.specs.declared.TransportCodes.{TransportCodes}
use Rattle.settings.specs.Codes.{transport_at}
use Rattle.clock.specs.Ready.{prepared_of}
use Rattle.voice.specs.declared.Voice.{Voice}
use Rattle.voice.specs.Curve.{Curve}
use Rattle.voice.specs.Frame.{Frame}
use Rattle.bank.specs.Parts.{parts_voice, parts_outs}
use Rattle.slot.specs.Slot.{Lfo, slot_curve}
use Rattle.codes.specs.declared.RestartCodes.{RestartCodes}
use Rattle.calls.specs.State.{State}
use Rattle.calls.specs.Blocks.{pending_of, played_state, values}
use Rattle.calls.specs.Calls.{block, accepts, accepted, step, played, buffer}
use Rattle.calls.proofs.Blocks.{block_transport, length_values}
use Rattle.restart.specs.Heard.{Side, x_side, y_side, read}

-- ---- its player, and what it leaves in the buffer

abbrev pub value_of : Side → Frame → Float
value_of x_side = λ f. f.x
value_of y_side = λ f. f.y

module _ (p : State) (c : TransportCodes) (n : ℕ) (r : RestartCodes) (x y : List Float) (t : Transport) (R : transport_at c ≡ Some t) (e : accepts p (block c n r x y) ≡ true) where
  pub block_runs : step p (block c n r x y) ≡ played_state p t n (pending_of r)
  unfolding step accepted
  block_runs = rw (e, R) refl

  -- what it leaves in the buffer is what it plays
  pub read_values : (side : Side) → read side p c n r x y ≡ values p t n (pending_of r) (value_of side)
  unfolding read buffer played
  read_values x_side = rw (e, R) (take_at (values p t n (pending_of r) (value_of x_side)) (drop n x) n (length_values p t n (pending_of r) (value_of x_side)))
  read_values y_side = rw (e, R) (take_at (values p t n (pending_of r) (value_of y_side)) (drop n y) n (length_values p t n (pending_of r) (value_of y_side)))

-- one value of each frame
pub read_length : (p : State) (c : TransportCodes) (n : ℕ) (r : RestartCodes) (x y : List Float) → accepts p (block c n r x y) ≡ true → (side : Side) → length (read side p c n r x y) ≡ n
read_length p c n r x y e side =
    let (t, is) = block_transport p c n r x y e in
    ap length (read_values p c n r x y t is e side) ∙ length_values p t n (pending_of r) (value_of side)

-- ---- of a player with given settings and curve

pub record Has (s : Settings) (q : Curve) (p : State) : Type 0 where
  pub settings : p.lfo.settings ≡ s
  pub curve : slot_curve s.kind p.lfo ≡ q

parts_cong : (s s' : Settings) (lfo : Lfo) (q : Curve) (t : Transport) (n : ℕ) (v : Voice) (at : Option ℕ) → s' ≡ s → slot_curve s.kind lfo ≡ q
    → parts_voice s' (slot_curve s'.kind lfo) (prepared_of s' lfo.clock t n).block n v at ≡ parts_voice s q (prepared_of s lfo.clock t n).block n v at
parts_cong s s' lfo q t n v at e c = rw (e, c) refl

outs_cong : (s s' : Settings) (lfo : Lfo) (q : Curve) (t : Transport) (n : ℕ) (v : Voice) (at : Option ℕ) (f : Frame → Float) → s' ≡ s → slot_curve s.kind lfo ≡ q
    → parts_outs s' (slot_curve s'.kind lfo) (prepared_of s' lfo.clock t n).block n v at f ≡ parts_outs s q (prepared_of s lfo.clock t n).block n v at f
outs_cong s s' lfo q t n v at f e c = rw (e, c) refl

module _ (s : Settings) (q : Curve) (p : State) (h : Has s q p) (t : Transport) (n : ℕ) (at : Option ℕ) where
  pub values_parts : (f : Frame → Float) → values p t n at f ≡ parts_outs s q (prepared_of s p.lfo.clock t n).block n p.voice at f
  unfolding values
  values_parts f = outs_cong s p.lfo.settings p.lfo q t n p.voice at f h.settings h.curve

  pub played_voice : (played_state p t n at).voice ≡ parts_voice s q (prepared_of s p.lfo.clock t n).block n p.voice at
  unfolding played_state
  played_voice = parts_cong s p.lfo.settings p.lfo q t n p.voice at h.settings h.curve

  pub has_played : Has s q (played_state p t n at)
  unfolding played_state
  has_played = record { settings = h.settings; curve = h.curve }
