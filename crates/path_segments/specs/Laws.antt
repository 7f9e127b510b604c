-- What holds of a path's times, and of a search among times. Proved in proofs/Ascent.antt, proofs/First.antt, proofs/KeptPath.antt and proofs/RustPath.antt; that every path's legs are 0 to 2 long is `LegsWithin` of crate path. Assumes nothing.
use Rattle.std.specs.Prelude.{ℕ, suc, ◌≤◌, ◌<◌, ◌≡◌, Bool, not, List, T, length, take, get_or, Float}
use Rattle.std.specs.Float.{nan}
use Rattle.std.specs.Float.Ieee.{is_nan}
use Rattle.std.specs.Float.Ieee.Scale.{finite}
use Rattle.floatlaws.specs.Numbers.{f32_0, f32_1}
use Rattle.points.specs.Arrays.{Ascends}
use Rattle.path_segments.specs.Times.{segments_of, times_of, LegsIn}
use Rattle.path_segments.specs.Segments.{empty_path, path_contains, path_segment, rust_path_segment}

-- ---- "Path times are running sums of legs over their total": they ascend from 0, and where there is a segment to exactly 1

pub record LegTimes (legs : List Float) (n : ℕ) : Type 0 where
  pub ascend : Ascends (times_of legs n) (suc n)
  pub start : get_or (times_of legs n) 0 nan ≡ f32_0
  pub end : 0 < n → get_or (times_of legs n) n nan ≡ f32_1

abbrev pub LegTimesRule : Type 0
LegTimesRule = (legs : List Float) (n : ℕ) → LegsIn legs n → n ≤ 64 → LegTimes legs n

-- the first n of more legs are as good as all of them
abbrev pub TimesOfFirst : Type 0
TimesOfFirst = (legs : List Float) (n : ℕ) → n ≤ length legs → times_of (take n legs) (length (take n legs)) ≡ times_of legs n

-- ---- a search

-- the first n of more points are as good as all of them
abbrev pub PathOfFirst : Type 0
PathOfFirst = (xs ys bends times : List Float) (n : ℕ) (closed : Bool) (t : Float) → n ≤ length xs → path_segment (take n xs) ys bends times (length (take n xs)) closed t ≡ path_segment xs ys bends times n closed t

module _ (xs ys bends times : List Float) (len : ℕ) (closed : Bool) where
  -- "It holds lo ≤ x < hi": the segment found for the time t holds t
  abbrev pub PathHolds : Type 0
  PathHolds = (t : Float) → T (finite t) → T (path_contains (path_segment xs ys bends times len closed t) t)

  -- The segment found for q, where it holds p, is the one found for p: so it may be kept while it holds the position.
  abbrev pub PathKept : Type 0
  PathKept = (q p : Float) → T (path_contains (path_segment xs ys bends times len closed q) p) → path_segment xs ys bends times len closed q ≡ path_segment xs ys bends times len closed p

  -- the search finds what the Rust text gives
  abbrev pub PathRust : Type 0
  PathRust = (t : Float) → T (not (is_nan t)) → path_segment xs ys bends times len closed t ≡ rust_path_segment xs ys bends times len closed t

-- each of them where the times ascend, and the last where they ascend from 0
abbrev pub OfTimes : (List Float → List Float → List Float → List Float → ℕ → Bool → Type 0) → Type 0
OfTimes Law = (xs ys bends times : List Float) (len : ℕ) (closed : Bool) → Ascends times (suc (segments_of len closed)) → Law xs ys bends times len closed

abbrev pub OfTimesFrom0 : (List Float → List Float → List Float → List Float → ℕ → Bool → Type 0) → Type 0
OfTimesFrom0 Law = OfTimes λ xs ys bends times len closed. get_or times 0 nan ≡ f32_0 → Law xs ys bends times len closed

-- "After a curve edit or a bus move the kept segment is void": the void segment holds nothing, so the next frame searches
abbrev pub PathVoid : Type 0
PathVoid = (t : Float) → T (path_contains empty_path t) → ⊥
