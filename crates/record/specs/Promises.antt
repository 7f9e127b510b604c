-- What the reader and the writer promise of each other, for every list of bytes. Assumes nothing.
use Rattle.std.specs.Prelude.{ℕ, ◌<◌, ◌^◌, min, ◌≡◌, List, ◌↔◌, T, length, take, get_or, Float}
use Rattle.std.specs.Float.{nan, binary32, binary64}
use Rattle.std.specs.Float.Ieee.{fits}
use Rattle.codes.specs.declared.SettingsCodes.{SettingsCodes}
use Rattle.codes.specs.declared.ModCodes.{ModCodes}
use Rattle.codes.specs.declared.PointCodes.{PointCodes}
use Rattle.codes.specs.declared.PathPointCodes.{PathPointCodes}
use Rattle.codes.specs.declared.ShapeCodes.{ShapeCodes}
use Rattle.codes.specs.declared.PathCodes.{PathCodes}
use Rattle.codes.specs.declared.ItemCodes.{ItemCodes}
use Rattle.curves.specs.Given.{no_point_codes, no_path_point_codes}
use Rattle.fields.specs.Parser.{cut_short}
use Rattle.fields.specs.Bytes.{Bytes}
use Rattle.fields.specs.RoundTrip.{RoundTrip}
use Rattle.record.specs.Kept.{kept}
use Rattle.record.specs.Writing.{item_bytes}
use Rattle.record.specs.Questions.{item_answer}
use Rattle.record.specs.Records.{given, refused, accepted_item, read_record, write_record}

-- ---- the numbers of an item are those of their Rust types, which code has by itself

abbrev pub IsF32 : Float → Type 0
IsF32 x = T (fits binary32 x)

abbrev pub IsF64 : Float → Type 0
IsF64 x = T (fits binary64 x)

pub record SettingsTyped (c : SettingsCodes) : Type 0 where
  pub hz : IsF32 c.rate.hz
  pub fade : IsF32 c.fade_in.seconds
  pub delay : IsF32 c.delay.seconds
  pub coefficient : IsF32 c.smooth.coefficient
  pub phase : IsF32 c.phase
  pub grid : c.grid_x < 2 ^ 16

pub record ModTyped (c : ModCodes) : Type 0 where
  pub bus : c.bus < 2 ^ 8
  pub depth : IsF32 c.depth

pub record PointTyped (c : PointCodes) : Type 0 where
  pub x : IsF32 c.x
  pub y : IsF32 c.y
  pub curve : IsF32 c.curve
  pub x_mod : ModTyped c.x_mod
  pub y_mod : ModTyped c.y_mod

pub record PathPointTyped (c : PathPointCodes) : Type 0 where
  pub x : IsF32 c.x
  pub y : IsF32 c.y
  pub bend : IsF32 c.bend
  pub x_mod : ModTyped c.x_mod
  pub y_mod : ModTyped c.y_mod

-- of the points that are kept
abbrev pub ShapeTyped : ShapeCodes → Type 0
ShapeTyped c = (k : ℕ) → k < min c.count 64 → PointTyped (get_or c.points k no_point_codes)

abbrev pub PathTyped : PathCodes → Type 0
PathTyped c = (k : ℕ) → k < min c.count 64 → PathPointTyped (get_or c.points k no_path_point_codes)

pub record Typed (i : ItemCodes) : Type 0 where
  pub settings : SettingsTyped i.settings
  pub shape : ShapeTyped i.shape
  pub path : PathTyped i.path
  pub sixteen : length i.buses ≡ 16
  pub buses : (k : ℕ) → k < 16 → IsF32 (get_or i.buses k nan)
  pub seed : i.seed < 2 ^ 64
  pub tempo : IsF64 i.tempo
  pub bar : IsF64 i.beats_per_bar
  pub swing : IsF32 i.swing
  pub percent : IsF32 i.scale.percent

-- ---- whole records

-- "the reader .. gives that item back, points as kept"
abbrev pub GivesBack : Type 0
GivesBack = (i : ItemCodes) → Typed i → (s : List ℕ) → write_record i ≡ given s → read_record s ≡ given (kept i)

-- "the reader accepts exactly what the writer can give": an item that is accepted is one that is kept, and the writer gives its bytes
pub record Accepted (s : List ℕ) (i : ItemCodes) : Type 0 where
  pub typed : Typed i
  pub is_kept : kept i ≡ i
  pub written : write_record i ≡ given s

abbrev pub AcceptsWritten : Type 0
AcceptsWritten = (s : List ℕ) → Bytes s → (i : ItemCodes) → (read_record s ≡ given i) ↔ Accepted s i

-- "Each item has one record"
abbrev pub OneRecord : Type 0
OneRecord = (s t : List ℕ) → Bytes s → Bytes t → (i : ItemCodes) → read_record s ≡ given i → read_record t ≡ given i → s ≡ t

-- "a record cut short gives 12", wherever it is cut
abbrev pub CutShort : Type 0
CutShort = (i : ItemCodes) → Typed i → (s : List ℕ) → write_record i ≡ given s → (j : ℕ) → j < length s → read_record (take j s) ≡ refused cut_short

-- ---- an item in front of other bytes

pub record Acceptable (i : ItemCodes) : Type 0 where
  pub typed : Typed i
  pub is_kept : kept i ≡ i
  pub answer : item_answer i ≡ 0

abbrev pub InFront : Type 0
InFront = RoundTrip accepted_item item_bytes Acceptable (λ i. Unit {0})
