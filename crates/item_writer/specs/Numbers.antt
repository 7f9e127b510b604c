-- The numbers of a record in a list, and the bytes that they stand for. Assumes nothing.
use Rattle.std.specs.Prelude.{ℕ, ◌+◌, ◌≤◌, ◌≡◌, List, ◌++◌, length, take}
use Rattle.codes.specs.declared.SettingsCodes.{SettingsCodes}
use Rattle.codes.specs.declared.ItemCodes.{ItemCodes}
use Rattle.replies.specs.Replies.{bytes_of}
use Rattle.fields.specs.Bytes.{number_bytes, f32_bytes, row_bytes}
use Rattle.record.specs.Kept.{kept_shape, kept_path}
use Rattle.record.specs.Writing.{rate_bytes, settings_bytes, shape_bytes, path_bytes}

-- behind the first `at` numbers of x numbers are put that make the bytes l, at most so many of them; they end at r, and the list is then y
pub record Adds (x : List ℕ) (at : ℕ) (l : List ℕ) (most : ℕ) (r : ℕ) (y : List ℕ) : Type 0 where
  pub bytes : bytes_of (take r y) ≡ bytes_of (take at x) ++ l
  pub few : r ≤ at + most
  pub long : length y ≡ length x

-- the bytes of settings up to swing
abbrev pub first_bytes : SettingsCodes → List ℕ
first_bytes c =
    number_bytes c.kind ++ number_bytes c.mode ++ number_bytes c.direction ++ rate_bytes c.rate ++ number_bytes c.song_lock ++ number_bytes c.swing

-- and of an item up to its buses, its points as they are kept
abbrev pub front_bytes : ItemCodes → List ℕ
front_bytes i = settings_bytes i.settings ++ shape_bytes (kept_shape i.shape) ++ path_bytes (kept_path i.path) ++ row_bytes f32_bytes i.buses
