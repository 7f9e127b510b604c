-- What document 01 says of swing, position and spans, of every count, block and clock within the bounds of Bounds.antt; crate reached has it of every player.
-- And up to which count a loop is known not to come to rest (document 02, W-204). Proved in proofs/Range.antt, proofs/Moving.antt, proofs/Swing.antt, proofs/Limit.antt,
-- proofs/Stopped.antt and proofs/Frame.antt. Assumes nothing.
use Rattle.std.specs.Prelude.{ℕ, ◌+◌, ◌-◌, ◌^◌, ◌≤◌, ◌≡◌, Bool, not, true, false, T, pos, Float, Option, Some}
use Rattle.std.specs.Float.{fin, binary32, binary64}
use Rattle.std.specs.Float.Ieee.{le, fits, is_nan}
use Rattle.std.specs.Float.Ieee.Scale.{finite}
use Rattle.floatlaws.specs.Numbers.{f64, f64_0}
use Rattle.floatlaws.specs.Rounded.{◌×₆₄◌}
use Rattle.floatlaws.specs.Whole.{InUnit}
use Rattle.floatlaws.specs.Narrow.{narrowed}
use Rattle.floatlaws.specs.Size.{Size, AtLeast}
use Rattle.settings.specs.declared.choices.LfoType.{LfoType}
use Rattle.settings.specs.declared.choices.Mode.{Mode}
use Rattle.settings.specs.declared.choices.Mode.TheVariants.{OneShot}
use Rattle.settings.specs.declared.choices.Direction.{Direction}
use Rattle.settings.specs.declared.division.Division.{Division}
use Rattle.settings.specs.declared.times.Span.TheVariants as Span
use Rattle.settings.specs.declared.record.Settings.{Settings}
use Rattle.settings.specs.declared.record.Transport.{Transport}
use Rattle.position.specs.Position.{swung_by, loop_length, loops, position_of}
use Rattle.position.specs.Rest.{loopback_in_force}
use Rattle.position.specs.Laws.{Moves}
use Rattle.clock.specs.Anchor.{cycles_at}
use Rattle.clock.specs.Pace.{limit_of, swing_of}
use Rattle.clock.specs.Spans.{samples_of}
use Rattle.clock.specs.Ready.{prepared_of, phase_read}
use Rattle.clock.specs.declared.anchor.Anchor.{Anchor}
use Rattle.clock.specs.declared.block.Block.{Block}
use Rattle.clock.specs.declared.free.Clock.{Clock}
use Rattle.clock.specs.declared.pace.Cycles.{Cycles}
use Rattle.reach.specs.Bounds.{AnchorIn, ClockIn, SettingsIn, TransportIn, LoopIn, SwingIn}

-- ---- "position lies in 0 to 1, both included": for every finite count, every mode and direction, and every loopback from 0 to 1

abbrev pub PositionIn : Type 0
PositionIn = (m : Mode) (d : Direction) (c : Float) (l : Option Float) → T (fits binary64 c) → T (finite c) → LoopIn l → InUnit (position_of m d c l)

-- "Position becomes f32": it stays in 0 to 1
abbrev pub NarrowedIn : Type 0
NarrowedIn = (x : Float) → InUnit x → InUnit (narrowed binary32 x)

-- ---- a loop does not come to rest, as far as counts are fine enough

-- in a loop of 2^−q or more, at every count up to 2^(50 − q) some greater count has another position: up to 2^20 cycles in every loop, since 10^−9 is more than 2^−30,
-- and up to 2^46 in one of 1/16 or more. Counts are f64s, so it does not go on for ever: going forward with l = 1 − 2^−24 every finite count from 2^28 on is at l.
abbrev pub LoopMoves : Type 0
LoopMoves =
    (d : Direction) (l c : Float) (q : ℕ) → q ≤ 30 → LoopIn (Some l) → T (loops d l) → T (le (f64 1 (2 ^ q)) (loop_length d l)) → T (le c (f64 (2 ^ (50 - q)) 1))
    → Moves OneShot d (Some l) c

-- in every loop
abbrev pub InForceMoves : Type 0
InForceMoves =
    (kind : LfoType) (d : Direction) (l : Option Float) (c : Float) → LoopIn l → loopback_in_force kind d l ≡ true → T (le c (f64 (2 ^ 20) 1))
    → Moves OneShot d l c

-- ---- swing

-- the first cycle takes 1/2 to 3/4 of its pair's time
abbrev pub SwingRule : Type 0
SwingRule = (c : Cycles) (set : Bool) (amount : Float) → T (not (is_nan amount)) → SwingIn (swing_of c set amount)

-- so a swung count is finite
abbrev pub SwungIn : Type 0
SwungIn = (w : Option Float) (c : Float) → Size c (2 ^ 46) → SwingIn w → Size (swung_by w c) (2 ^ 50)

-- ---- increments and spans

-- "Increments above 0.5 are scaled down by 0.5 / inc": neither the scale nor what it makes of the increment is above 1
abbrev pub LimitRule : Type 0
LimitRule = (inc : Float) → T (finite inc) → T (le (fin false 0 (pos 0)) inc) → Size (limit_of inc) 1 × Size (inc ×₆₄ limit_of inc) 1

-- "At tempo 0 a synced span is 10^15."
abbrev pub StoppedSpan : Type 0
StoppedSpan =
    (d : Division) (b : Block) → b.beats_per_sample ≡ f64_0 → Size b.beats_per_bar 64 → AtLeast b.beats_per_bar 1 4
    → samples_of (Span.Synced d) b ≡ 10 ^ 15

-- ---- frame k of a block of n frames, f having been played before it

module _ (s : Settings) (c : Clock) (t : Transport) (n k : ℕ) (m : Mode) (a : Anchor) where
  -- its count, swung where there is swing
  abbrev pub frame_count : Float
  frame_count = let b = (prepared_of s c t n).block in swung_by b.swing (cycles_at m b a k)

-- what is to hold of it, in every block that the questions let through
abbrev pub EachFrame : (Mode → Float → Type 0) → Type 0
EachFrame Law =
    (s : Settings) (c : Clock) (t : Transport) (f n k : ℕ) → SettingsIn s → TransportIn t → ClockIn f c → n ≤ 4096 → f + n ≤ 2 ^ 40 → k ≤ n
    → (m : Mode) (a : Anchor) → AnchorIn (f + k) a → Law m (frame_count s c t n k m a)

abbrev pub CountIn : Type 0
CountIn = EachFrame λ m count. Size count (2 ^ 50)

abbrev pub CountFits : Type 0
CountFits = EachFrame λ m count. T (fits binary64 count)

abbrev pub FrameIn : Type 0
FrameIn = EachFrame λ m count. (d : Direction) (l : Option Float) → LoopIn l → InUnit (position_of m d count l)

abbrev pub FrameNarrowed : Type 0
FrameNarrowed = EachFrame λ m count. (d : Direction) (l : Option Float) → LoopIn l → InUnit (narrowed binary32 (position_of m d count l))

-- the phase that is read between two blocks
abbrev pub PhaseReadIn : Type 0
PhaseReadIn =
    (s : Settings) (c : Clock) (a : Anchor) (t : Transport) (f : ℕ) → SettingsIn s → TransportIn t → ClockIn f c → AnchorIn f a → f ≤ 2 ^ 40
    → InUnit (phase_read s c a t)
