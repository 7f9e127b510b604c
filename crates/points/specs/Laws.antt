-- What holds of the search and of a bus's offset. Proved in proofs/Partition.antt and proofs/Offsets.antt. Assumes nothing.
use Rattle.std.specs.Prelude.{ℕ, ◌≤◌, ◌<◌, not, List, T, get_or, Float, Option, Some}
use Rattle.std.specs.Float.{nan}
use Rattle.std.specs.Float.Ieee.{le, eq, is_nan}
use Rattle.std.specs.Float.Ieee.Scale.{finite}
use Rattle.floatlaws.specs.Numbers.{Between, f32_0, f32_1}
use Rattle.points.specs.declared.PointMod.{PointMod}
use Rattle.points.specs.Arrays.{Ascends, partition_point}
use Rattle.points.specs.Modulation.{offset_of, moved_of, placed_of}

-- The place parts the first n of xs as Rust's `partition_point` does: those before it are at or before x, those from it on are not. So of equal xs it is after the last.
pub record Parted (xs : List Float) (n : ℕ) (x : Float) : Type 0 where
  pub within : partition_point xs n x ≤ n
  pub before : (k : ℕ) → k < partition_point xs n x → T (le (get_or xs k nan) x)
  pub after : (k : ℕ) → partition_point xs n x ≤ k → k < n → T (not (le (get_or xs k nan) x))

abbrev pub PartitionRule : Type 0
PartitionRule = (xs : List Float) (n : ℕ) (x : Float) → Ascends xs n → Parted xs n x

-- "A point's modulation may name a bus above 15; its offset is then 0."
abbrev pub OffsetAbove : Type 0
OffsetAbove = (bus : ℕ) (depth : Float) (buses : List Float) → 16 ≤ bus → T (finite depth) → T (eq (offset_of (Some (record { bus = bus; depth = depth })) buses) f32_0)

-- a coordinate that its bus moves to a number is placed within 0 to 1
abbrev pub PlacedIn : Type 0
PlacedIn = (x : Float) (m : Option PointMod) (buses : List Float) → T (not (is_nan (moved_of x m buses))) → Between f32_0 (placed_of x m buses) f32_1
