-- The laws for every count that a player reaches: in a block that `prepare` made of settings and a transport in range, with f frames played before it, the count
-- of each of its frames, swung or not, is at most 2 ^ 50 in size, and its position lies from 0 to 1, as an f32 too, in every mode, direction and swing. Assumes nothing.
use Prim.Native.Nat.{ℕ, ◌+◌, ◌^◌, ◌≤◌}
use native.Mathlib.Nat.{le_trans, le_refl, add-le-add}
use native.Mathlib.Omega.{arith}
use lib.Dec.{T, lit≤}
use lib.Ieee.{binary64, fits, of_bits}
use lib.Ieee.Fits.{add-fits}
use Rattle.floatlaws.specs.Euclid.{rem_euclid}
use Rattle.floatlaws.proofs.Euclid.{euclid_within}
use Rattle.floatlaws.proofs.Unit.{one_float}
use Rattle.floatlaws.specs.Size.{Size}
use Rattle.floatlaws.proofs.Size.{size_finite, size_more, add_size}
use Rattle.settings.specs.declared.choices.Mode.{Mode}
use Rattle.settings.specs.declared.choices.Mode.TheVariants.{Free, Restart, OneShot}
use Rattle.settings.specs.declared.record.Settings.{Settings}
use Rattle.settings.specs.declared.record.Transport.{Transport}
use Rattle.position.specs.Position.{position_of}
use Rattle.clock.specs.Anchor.{anchor_at, cycles_at}
use Rattle.clock.specs.Pace.{tempo_of}
use Rattle.clock.specs.Ready.{pace_at, lock_at, ticked_at, block_of, prepared_of, phase_count_by, phase_count, phase_read}
use Rattle.clock.specs.declared.anchor.Anchor.{Anchor}
use Rattle.clock.specs.declared.anchor.Anchor.TheVariants.{Samples, Beats, Seconds}
use Rattle.clock.specs.declared.block.Block.{Block}
use Rattle.clock.specs.declared.free.Clock.{Clock}
use Rattle.reach.specs.Bounds.{SettingsIn, TransportIn, BlockIn, AnchorIn, FreeIn, ClockIn, SwingIn}
use Rattle.reach.specs.Laws.{frame_count, CountIn, CountFits, FrameIn, FrameNarrowed, PhaseReadIn}
use Rattle.reach.proofs.Range.{position_in, narrowed_in}
use Rattle.reach.proofs.Reach.{reached_size, ticked_in, cycles_size}
use Rattle.reach.proofs.Prepared.{tempo_of_lem, phase_in, prepared_in}
use Rattle.reach.proofs.Swing.{swing_in, swung_in, swung_fits}

anchor_fits : (a : Anchor) (b : Block) (k : ℕ) → T (fits binary64 (anchor_at a b k))
anchor_fits (Samples c0 n inc) b k = add-fits binary64 c0 _
anchor_fits (Beats c0 b0 rate) b k = add-fits binary64 c0 _
anchor_fits (Seconds c0 s0 rate) b k = add-fits binary64 c0 _

cycles_fits : (m : Mode) (b : Block) (a : Anchor) (k : ℕ) → T (fits binary64 (cycles_at m b a k))
cycles_fits Free b a k = add-fits binary64 _ b.phase
cycles_fits Restart b a k = anchor_fits a b k
cycles_fits OneShot b a k = anchor_fits a b k

-- a block of n frames, and its sample k
module _ (s : Settings) (c : Clock) (t : Transport) (f n k : ℕ)
    (I : SettingsIn s) (J : TransportIn t) (C : ClockIn f c) (N : n ≤ 4096) (F : f + n ≤ 2 ^ 40) (K : k ≤ n) where
  abbrev pub ready : Block
  ready = (prepared_of s c t n).block

  pub block_in : BlockIn ready
  block_in = prepared_in s c t n I J

  pub clock_in : FreeIn f ready.free × ClockIn (f + n) (prepared_of s c t n).clock
  unfolding prepared_of block_of pace_at lock_at ticked_at
  clock_in =
      let T = tempo_of_lem t J in
      ticked_in c _ (tempo_of t) t.beats t.seconds f n C block_in.inc_in T.beat_size T.rate_least J.beats_at J.seconds_at N F _ block_in.lock_in

  pub swing_ready : SwingIn ready.swing
  unfolding prepared_of block_of
  swing_ready = swing_in (pace_at s t).cycles s.swing t.swing J.swing_number

  module _ (m : Mode) (a : Anchor) (i : AnchorIn (f + k) a) where
    cycles_in : Size (cycles_at m ready a k) (2 ^ 46)
    cycles_in = cycles_size ready block_in k (le_trans K N) f (room f k n K F) m a clock_in.0 i
      where
        room : (f k n : ℕ) → k ≤ n → f + n ≤ 2 ^ 40 → f + k ≤ 2 ^ 40
        room f k n h F = omega arith

pub count_in : CountIn
count_in s c t f n k I J C N F K m a i =
    let b = (prepared_of s c t n).block in swung_in b.swing (cycles_at m b a k) (cycles_in s c t f n k I J C N F K m a i) (swing_ready s c t f n k I J C N F K)

pub count_fits : CountFits
count_fits s c t f n k I J C N F K m a i = let b = (prepared_of s c t n).block in swung_fits b.swing (cycles_at m b a k) (cycles_fits m b a k)

pub frame_in : FrameIn
frame_in s c t f n k I J C N F K m a i d l j = position_in m d (frame_count s c t n k m a) l (count_fits s c t f n k I J C N F K m a i) (size_finite (count_in s c t f n k I J C N F K m a i)) j

pub frame_narrowed : FrameNarrowed
frame_narrowed s c t f n k I J C N F K m a i d l j = narrowed_in (position_of m d (frame_count s c t n k m a) l) (frame_in s c t f n k I J C N F K m a i d l j)

-- ---- the phase between two blocks, f frames having been played

module _ (s : Settings) (c : Clock) (a : Anchor) (t : Transport) (f : ℕ) (I : SettingsIn s) (J : TransportIn t) (C : ClockIn f c) (A : AnchorIn f a) (F : f ≤ 2 ^ 40) where
  phase_count_in : (m : Mode) → Size (phase_count_by m s c a t) (2 ^ 46)
  phase_count_in Free = size_more room (add_size (le_trans room (lit≤ tt)) C.next_in (phase_in s I))
    where
      room : 2 ^ 45 + f + 1 ≤ 2 ^ 46
      room = le_trans (add-le-add (add-le-add (le_refl (2 ^ 45)) F) (le_refl 1)) (lit≤ tt)
  phase_count_in Restart = size_more (le_trans (add-le-add (le_refl (2 ^ 45)) F) (lit≤ tt)) (reached_size (size_more (lit≤ tt) J.beats_at) (size_more (lit≤ tt) J.seconds_at) f F a A)
  phase_count_in OneShot = size_more (le_trans (add-le-add (le_refl (2 ^ 45)) F) (lit≤ tt)) (reached_size (size_more (lit≤ tt) J.beats_at) (size_more (lit≤ tt) J.seconds_at) f F a A)

pub phase_read_in : PhaseReadIn
unfolding phase_read phase_count of_bits
phase_read_in s c a t f I J C A F =
    let count = phase_count_by s.mode s c a t in
    narrowed_in (rem_euclid binary64 count one_float) (euclid_within binary64 count one_float (size_finite (phase_count_in s c a t f I J C A F s.mode)) tt (unfold fits in tt))
