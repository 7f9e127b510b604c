-- An answer's number and values tell its result. Assumes nothing.
use mathlib.Core.Path.{refl}
use mathlib.Core.List.{List, [], ◌∷◌}
use lib.Ieee.{Float, nan}
use Rattle.path_segments.specs.declared.Xy.{Xy}
use Rattle.questions.proofs.Results.{told_by, value_told}
use Rattle.evaluate.specs.Values.{ShapeTold, PathTold}

pub shape_is_told : ShapeTold
shape_is_told = value_told

abbrev place : List Float → Xy
place [] = record { x = nan; y = nan }
place (x ∷ []) = record { x = x; y = nan }
place (x ∷ y ∷ l) = record { x = x; y = y }

pub path_is_told : PathTold
path_is_told = told_by _ place (λ v. refl)
