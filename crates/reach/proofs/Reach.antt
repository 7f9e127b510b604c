-- How far a count gets: the facts of specs/Bounds.antt hold of a new player and are kept, and what they say of a count. A voice that has played `frames` frames has a
-- count of at most 2 ^ 45 + frames in size, and so is where it is anchored anew; a count under song lock is below 2 ^ 45. Within 2 ^ 40 frames a count is below 2 ^ 46,
-- so it is finite. Assumes nothing.
use Rattle.std.specs.Prelude.{Option, None, Some}
use mathlib.Core.Path.{◌≡◌, refl}
use mathlib.Core.Bool.{Bool, true, false, ◌||◌, cond}
use Prim.Native.Nat.{ℕ, ◌+◌, ◌-◌, ◌*◌, ◌^◌, ◌≤◌, zero-le}
use native.Mathlib.Nat.{le_trans, le_refl, le_of_eq, le-add_right, add-le-add, zero-lt-suc, mul-one}
use native.Mathlib.Omega.{arith}
use lib.Dec.{lit≤}
use lib.Ieee.{Float, of_bits, ne, eq}
use Rattle.floatlaws.specs.Rounded.{to_f64}
use Rattle.floatlaws.specs.Numbers.{f64_0}
use Rattle.settings.specs.declared.choices.Mode.{Mode}
use Rattle.settings.specs.declared.choices.Mode.TheVariants.{Free, Restart, OneShot}
use Rattle.clock.specs.Block.{beats_at, seconds_at, free_count, free_at}
use Rattle.clock.specs.Free.{new_clock, restarted_clock, anchored_clock, followed, ticked_of}
use Rattle.clock.specs.Anchor.{new_anchor, along, reached_of, anchor_at, sample_count, next_anchor, locked_beats, locked_seconds, started_by, started_of, is_grounded, from_here, begun_by, begun_of, cycles_at}
use Rattle.clock.specs.declared.block.Block.{Block}
use Rattle.clock.specs.declared.block.FreeClock.{FreeClock}
use Rattle.clock.specs.declared.block.FreeClock.TheVariants as FreeClock
use Rattle.clock.specs.declared.block.SongLock.{SongLock}
use Rattle.clock.specs.declared.block.SongLock.TheVariants as SongLock
use Rattle.clock.specs.declared.free.Clock.{Clock}
use Rattle.clock.specs.declared.pace.Tempo.{Tempo}
use Rattle.clock.specs.declared.anchor.Anchor.{Anchor}
use Rattle.clock.specs.declared.anchor.Anchor.TheVariants.{Samples, Beats, Seconds}
use Rattle.reach.specs.Bounds.{LockIn, BlockIn, AnchorIn, FreeIn, ClockIn}
use Rattle.floatlaws.specs.Size.{Size, AtLeast}
use Rattle.floatlaws.proofs.Size.{size_more, add_size, sub_size, mul_size, div_size, count_size}

-- ---- anchors

pub anchor_later : (a : Anchor) (f g : ℕ) → f ≤ g → AnchorIn f a → AnchorIn g a
anchor_later (Samples c0 n inc) f g h i = (le_trans i.0 h, size_more (grow f g n (2 ^ 45) h) i.1, i.2)
  where
    grow : (f g n c : ℕ) → f ≤ g → c + (f - n) ≤ c + (g - n)
    grow f g n c h = omega arith
anchor_later (Beats c0 b0 rate) f g h i = i
anchor_later (Seconds c0 s0 rate) f g h i = i

pub next_anchor_in : (a : Anchor) (f : ℕ) → AnchorIn f a → AnchorIn (f + 1) (next_anchor a)
next_anchor_in (Samples c0 n inc) f i = (more i.0, size_more (same f n (2 ^ 45)) i.1, i.2)
  where
    more : n ≤ f → n + 1 ≤ f + 1
    more h = omega arith

    same : (f n c : ℕ) → c + (f - n) ≤ c + (f + 1 - (n + 1))
    same f n c = omega arith
next_anchor_in (Beats c0 b0 rate) f i = i
next_anchor_in (Seconds c0 s0 rate) f i = i

zero_size : Size f64_0 0
unfolding of_bits
zero_size = record { sized = lit≤ tt }

pub new_anchor_in : AnchorIn 0 new_anchor
new_anchor_in = (zero-le, size_more zero-le zero_size, size_more zero-le zero_size)

-- start and count, where the count is of no more frames than the start leaves
along_size : {c0 inc : Float} (n f : ℕ) → n ≤ f → f ≤ 2 ^ 40 → Size c0 (2 ^ 45 + (f - n)) → Size inc 1 → Size (along c0 (to_f64 n) inc) (2 ^ 45 + f)
along_size n f h F c i =
    let small : n ≤ 2 ^ 53 = le_trans h (le_trans F (lit≤ tt)) in
    let whole = back f n (2 ^ 45) h in
    size_more whole (add_size (le_trans whole (le_trans (add-le-add (le_refl (2 ^ 45)) F) (lit≤ tt))) c (mul_size (le_trans (le_of_eq (mul-one n)) small) (count_size n small) i))
  where
    back : (f n c : ℕ) → n ≤ f → c + (f - n) + n * 1 ≤ c + f
    back f n c h = omega arith

-- no more samples are counted than frames were played
pub sample_count_in : (a : Anchor) (f : ℕ) → AnchorIn f a → sample_count a ≤ f
sample_count_in (Samples c0 n inc) f i = i.0
sample_count_in (Beats c0 b0 rate) f i = zero-le
sample_count_in (Seconds c0 s0 rate) f i = zero-le

-- at a song position that a block or a transport in range has
module _ {beats seconds : Float} (U : Size beats (2 ^ 31 + 4096 * 1000)) (W : Size seconds (2 ^ 31 + 4096)) (f : ℕ) (F : f ≤ 2 ^ 40) where
  pub reached_size : (a : Anchor) → AnchorIn f a → Size (reached_of a beats seconds) (2 ^ 45 + f)
  reached_size (Samples c0 n inc) i = along_size n f i.0 F i.1 i.2
  reached_size (Beats c0 b0 rate) i =
      size_more (le_trans (lit≤ tt) (le-add_right (2 ^ 45) f)) (add_size (lit≤ tt) i.0 (mul_size (lit≤ tt) (sub_size (lit≤ tt) U i.1) i.2))
  reached_size (Seconds c0 s0 rate) i =
      size_more (le_trans (lit≤ tt) (le-add_right (2 ^ 45) f)) (add_size (lit≤ tt) i.0 (mul_size (lit≤ tt) (sub_size (lit≤ tt) W i.1) i.2))

module _ (b : Block) (B : BlockIn b) where
  pub started_in : (f : ℕ) → AnchorIn f (started_of b)
  unfolding started_of
  started_in f = go b.song_lock B.lock_in
    where
      go : (l : Option SongLock) → LockIn l → AnchorIn f (started_by l b)
      go None i = (zero-le, size_more (le_trans (lit≤ tt) (le-add_right (2 ^ 45) (f - 0))) B.phase_in, B.inc_in)
      go (Some (SongLock.Beats rate)) i = (B.phase_in, zero_size, i)
      go (Some (SongLock.Seconds rate)) i = (B.phase_in, zero_size, i)

  -- ---- at sample k of a block

  module _ (k : ℕ) (K : k ≤ 4096) where
    sample_size : Size (to_f64 k) 4096
    sample_size = size_more K (count_size k (le_trans K (lit≤ tt)))

    pub beats_size : Size (beats_at b k) (2 ^ 31 + 4096 * 1000)
    beats_size = add_size (lit≤ tt) B.beats_in (mul_size (lit≤ tt) sample_size B.beat_in)

    pub seconds_size : Size (seconds_at b k) (2 ^ 31 + 4096)
    seconds_size = add_size (lit≤ tt) B.seconds_in (div_size 4096 (zero-lt-suc 0) (lit≤ tt) (lit≤ tt) sample_size B.rate_in)

    module _ (f : ℕ) (F : f ≤ 2 ^ 40) where
      pub anchor_size : (a : Anchor) → AnchorIn f a → Size (anchor_at a b k) (2 ^ 45 + f)
      anchor_size a i = reached_size beats_size seconds_size f F a i

      -- anchored anew where it stands
      here_in : (a : Anchor) → AnchorIn f a → AnchorIn f (from_here a b k)
      here_in a i = (zero-le, size_more (none f (2 ^ 45)) (anchor_size a i), B.inc_in)
        where
          none : (f c : ℕ) → c + f ≤ c + (f - 0)
          none f c = omega arith

      either : (t : Bool) (x y : Anchor) → AnchorIn f x → AnchorIn f y → AnchorIn f (cond t x y)
      either true x y h k = h
      either false x y h k = k

      pub begun_in : (a : Anchor) → AnchorIn f a → AnchorIn f (begun_of a b k)
      unfolding begun_of
      begun_in a i = go b.song_lock B.lock_in a i
        where
          go : (l : Option SongLock) → LockIn l → (a : Anchor) → AnchorIn f a → AnchorIn f (begun_by l a b k)
          go None j (Samples c0 n inc) i = either (eq inc b.inc) (Samples c0 n inc) (from_here (Samples c0 n inc) b k) i (here_in (Samples c0 n inc) i)
          go None j (Beats c0 b0 rate) i = here_in (Beats c0 b0 rate) i
          go None j (Seconds c0 s0 rate) i = here_in (Seconds c0 s0 rate) i
          go (Some (SongLock.Beats rate)) j (Samples c0 n inc) i = (B.phase_in, zero_size, j)
          go (Some (SongLock.Beats rate)) j (Beats c0 b0 p) i = either (is_grounded b0 p rate c0 b.phase) (Beats c0 b0 p) (locked_beats b.phase rate) i (B.phase_in, zero_size, j)
          go (Some (SongLock.Beats rate)) j (Seconds c0 s0 p) i = (B.phase_in, zero_size, j)
          go (Some (SongLock.Seconds rate)) j (Samples c0 n inc) i = (B.phase_in, zero_size, j)
          go (Some (SongLock.Seconds rate)) j (Beats c0 b0 p) i = (B.phase_in, zero_size, j)
          go (Some (SongLock.Seconds rate)) j (Seconds c0 s0 p) i = either (is_grounded s0 p rate c0 b.phase) (Seconds c0 s0 p) (locked_seconds b.phase rate) i (B.phase_in, zero_size, j)

-- ---- the free clock, in a player that has played `frames` frames before a block

pub free_count_in : (free : FreeClock) (f : ℕ) → FreeIn f free → free_count free ≤ f
free_count_in (FreeClock.Beats p) f i = zero-le
free_count_in (FreeClock.Seconds h) f i = zero-le
free_count_in (FreeClock.Counting c0 n) f i = i.0

pub new_clock_in : ClockIn 0 new_clock
new_clock_in = record { counted_in = zero-le; start_in = size_more zero-le zero_size; next_in = size_more zero-le zero_size }

anchored_in : (k : Clock) (inc : Float) (f : ℕ) → ClockIn f k → ((anchored_clock k inc).n ≤ f) × Size (anchored_clock k inc).c0 (2 ^ 45 + (f - (anchored_clock k inc).n))
unfolding anchored_clock
anchored_in k inc f i = go (k.locked || ne inc k.inc)
  where
    none : (f c : ℕ) → c + f ≤ c + (f - 0)
    none f c = omega arith

    go : (t : Bool) → ((cond t (restarted_clock k inc) k).n ≤ f) × Size (cond t (restarted_clock k inc) k).c0 (2 ^ 45 + (f - (cond t (restarted_clock k inc) k).n))
    go true = (zero-le, size_more (none f (2 ^ 45)) i.next_in)
    go false = (i.counted_in, i.start_in)

-- over a block of n frames
module _ (k : Clock) (inc : Float) (tempo : Tempo) (beats seconds : Float) (f n : ℕ)
    (I : ClockIn f k) (R : Size inc 1) (P : Size tempo.beats_per_sample 1000) (Q : AtLeast tempo.sample_rate 1 1) (U : Size beats (2 ^ 31)) (W : Size seconds (2 ^ 31))
    (N : n ≤ 4096) (F : f + n ≤ 2 ^ 40) where
  grow : (f n m c : ℕ) → c + (f - m) ≤ c + (f + n - m)
  grow f n m c = omega arith

  followed_in : (free : FreeClock) (next : Float) → Size next (2 ^ 45) → ClockIn (f + n) (followed k free next).clock
  followed_in free next i =
      record {
        counted_in = le_trans I.counted_in (le-add_right f n);
        start_in = size_more (grow f n k.n (2 ^ 45)) I.start_in;
        next_in = size_more (le-add_right (2 ^ 45) (f + n)) i;
      }

  pub ticked_in : (l : Option SongLock) → LockIn l → FreeIn f (ticked_of k l inc tempo beats seconds n).free × ClockIn (f + n) (ticked_of k l inc tempo beats seconds n).clock
  unfolding ticked_of
  ticked_in None i =
      let a = anchored_in k inc f I in
      let m = (anchored_clock k inc).n in (
        a,
        record {
          counted_in = add-le-add a.0 (le_refl n);
          start_in = size_more (same f m n (2 ^ 45)) a.1;
          next_in = along_size (m + n) (f + n) (add-le-add a.0 (le_refl n)) F (size_more (same f m n (2 ^ 45)) a.1) R;
        },
      )
    where
      same : (f m n c : ℕ) → c + (f - m) ≤ c + (f + n - (m + n))
      same f m n c = omega arith
  ticked_in (Some (SongLock.Beats p)) i =
      (i, followed_in (FreeClock.Beats p) _ (size_more (lit≤ tt) (mul_size (lit≤ tt) (add_size (lit≤ tt) U (mul_size (lit≤ tt) (size_more N (count_size n (le_trans N (lit≤ tt)))) P)) i)))
  ticked_in (Some (SongLock.Seconds h)) i =
      (i, followed_in (FreeClock.Seconds h) _ (size_more (lit≤ tt) (mul_size (lit≤ tt) (add_size (lit≤ tt) W (div_size 4096 (zero-lt-suc 0) (lit≤ tt) (lit≤ tt) (size_more N (count_size n (le_trans N (lit≤ tt)))) Q)) i)))

-- ---- the count at sample k of a block, before swing

module _ (b : Block) (B : BlockIn b) (k : ℕ) (K : k ≤ 4096) (f : ℕ) (F : f + k ≤ 2 ^ 40) where
  free_size : (free : FreeClock) → FreeIn f free → Size (free_at free b k) (2 ^ 45 + (f + k))
  free_size (FreeClock.Beats p) i = size_more (le_trans (lit≤ tt) (le-add_right (2 ^ 45) (f + k))) (mul_size (lit≤ tt) (beats_size b B k K) i)
  free_size (FreeClock.Seconds h) i = size_more (le_trans (lit≤ tt) (le-add_right (2 ^ 45) (f + k))) (mul_size (lit≤ tt) (seconds_size b B k K) i)
  free_size (FreeClock.Counting c0 n) i = along_size (n + k) (f + k) (add-le-add i.0 (le_refl k)) F (size_more (same f n k (2 ^ 45)) i.1) B.inc_in
    where
      same : (f n k c : ℕ) → c + (f - n) ≤ c + (f + k - (n + k))
      same f n k c = omega arith

  -- with f frames played before the block, and k of the block
  pub cycles_size : (m : Mode) (a : Anchor) → FreeIn f b.free → AnchorIn (f + k) a → Size (cycles_at m b a k) (2 ^ 46)
  cycles_size Free a i j = size_more (room (f + k) (2 ^ 45 + (f + k)) F refl) (add_size (le_trans (room (f + k) (2 ^ 45 + (f + k)) F refl) (lit≤ tt)) (free_size b.free i) B.phase_in)
    where
      room : (f s : ℕ) → f ≤ 2 ^ 40 → s ≡ 2 ^ 45 + f → s + 1 ≤ 2 ^ 46
      room f s h e = omega arith
  cycles_size Restart a i j = size_more (le_trans (add-le-add (le_refl (2 ^ 45)) F) (lit≤ tt)) (anchor_size b B k K (f + k) F a j)
  cycles_size OneShot a i j = size_more (le_trans (add-le-add (le_refl (2 ^ 45)) F) (lit≤ tt)) (anchor_size b B k K (f + k) F a j)
