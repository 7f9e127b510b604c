-- One column written to all: what each turn of the loop makes of the buffer. Assumes nothing.
use mathlib.Core.Path.{◌≡◌, refl, sym, ap, ◌∙◌}
use Prim.Native.Nat.{ℕ, ◌+◌, ◌*◌, ◌<◌}
use native.Mathlib.Omega.{arith}
use mathlib.Core.List.{List, ◌++◌}
use lib.ListN.{length, drop, replicate, length-replicate, replicate-append-replicate}
use lib.Ieee.{Float, nan}
use Rattle.columns.specs.Columns.{strided, interleaved, FitAll}
use Rattle.columns.proofs.Interleave.{woven, woven_none, woven_more, woven_all}

module _ (col : List Float) (stride : ℕ) (l : List Float) (f : FitAll (length col) stride col l) where
  -- after v columns
  abbrev pub served : ℕ → List Float
  served v = woven nan stride (length col) (replicate v col) l

  pub served_none : served 0 ≡ l
  served_none = woven_none nan stride (length col) l

  pub served_more : (v : ℕ) → v < stride → strided stride v col (served v) ≡ served (v + 1)
  served_more v h =
      ap (λ (k : ℕ). strided stride k col (served v)) (sym (length-replicate v col))
      ∙ woven_more nan stride (length col) (replicate v col) col l (omega (arith, length-replicate v col)) refl f.room
      ∙ ap (λ (cs : List (List Float)). woven nan stride (length col) cs l) (replicate-append-replicate v 1 col)

  pub served_all : served stride ≡ interleaved nan (length col) (replicate stride col) ++ drop (length col * stride) l
  served_all = woven_all nan stride (length col) (replicate stride col) l (length-replicate stride col) f.room
