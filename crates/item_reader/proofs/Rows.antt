-- Curves, by the arrays that their points fill. Assumes nothing.
use Prim.Native.Nat.{ℕ}
use mathlib.Core.Path.{◌≡◌}
use mathlib.Core.List.{List}
use Rattle.listlaws.specs.Tables.{padded}
use Rattle.codes.specs.declared.ShapeCodes.{ShapeCodes}
use Rattle.codes.specs.declared.PathCodes.{PathCodes}
use Rattle.codes.specs.Blanks.{blank_point, blank_path_point}
use Rattle.fields.specs.Parser.{read, after, ◌then◌, done, row}
use Rattle.fields.specs.Fields.{up_to, yes_no}
use Rattle.fields.proofs.Loops.{row_then}
use Rattle.record.specs.Reading.{last_x, point, path_point, loopback, shape, path}

module _ (s : List ℕ) (at n next : ℕ) (counts : read n next ≡ up_to 64 s at) where
  pub shape_is : shape s at
      ≡ after ((row (λ l. point (last_x l)) n then λ l. done (padded 64 blank_point l)) s next)
      (λ points. (loopback then λ loopback. done (record { points = points; count = n; loopback = loopback })) s)
  unfolding shape after
  shape_is =
      rw (← counts)
      (row_then {B = ShapeCodes} (λ l. point (last_x l)) n 64 blank_point (λ points. loopback then λ loopback. done (record { points = points; count = n; loopback = loopback })) s next)

  pub path_is : (closed end : ℕ) → read closed end ≡ yes_no s next → path s at
      ≡ after ((row (λ l. path_point) n then λ l. done (padded 64 blank_path_point l)) s end)
      (λ points. done (record { points = points; count = n; closed = closed }) s)
  unfolding path after
  path_is closed end closes =
      rw (← counts, ← closes)
      (row_then {B = PathCodes} (λ l. path_point) n 64 blank_path_point (λ points. done (record { points = points; count = n; closed = closed })) s end)
