-- `numbers_of` meets its contract. The loop's invariant: 0 and the first v are there. Assumes nothing.
use Prim.Native.Nat.{ℕ, suc, ◌<◌}
use mathlib.Core.Path.{◌≡◌, sym, ap₂, ◌∙◌}
use mathlib.Core.Bool.{Bool, false}
use mathlib.Core.List.{List, [], ◌∷◌, ◌++◌, map}
use native.Mathlib.Omega.{arith}
use lib.ListN.{length, get_or, set, take, length-map, length-set}
use lib.Seq.{take_all, take-suc, take-suc-set}
use Rattle.columns.proofs.Places.{get_or_map_in}
use Rattle.outputs.specs.Numbers.{flag_of}
use Rattle.ensemble_runner.proofs.block.numbers_of.Given as goal

abbrev pub all : List Bool → List ℕ
all finished = 0 ∷ map flag_of finished

-- what the first v turns leave of the numbers
pub record Filled (finished : List Bool) (v : ℕ) (l : List ℕ) : Type 0 where
  pub long : length l ≡ 17
  pub first : take (suc v) l ≡ take (suc v) (all finished)

module _ (finished : List Bool) (many : length finished ≡ 16) where
  pub filled_more : (v f : ℕ) (l : List ℕ) → v < 16 → f ≡ flag_of (get_or finished v false) → Filled finished v l → Filled finished (suc v) (set l (suc v) f)
  filled_more v f l h f-is w =
      let last : f ≡ get_or (all finished) (suc v) 0 = f-is ∙ sym (get_or_map_in flag_of finished v false 0 (omega (arith, many))) in
      record {
        long = length-set l (suc v) f ∙ w.long;
        first =
            take-suc-set l (suc v) f (omega (arith, w.long))
            ∙ ap₂ (λ (k : List ℕ) (n : ℕ). k ++ (n ∷ [])) w.first last
            ∙ sym (take-suc (all finished) (suc v) 0 (omega (arith, length-map finished flag_of, many)));
      }

  pub filled_all : (v : ℕ) (l : List ℕ) → v ≡ 16 → Filled finished v l → l ≡ all finished
  filled_all v l e w =
      sym (take_all (suc v) l (omega (arith, w.long)))
      ∙ w.first
      ∙ take_all (suc v) (all finished) (omega (arith, length-map finished flag_of, many))

abbrev pub invariant-loop-v : goal.invariant-loop-v
invariant-loop-v l = Filled l.finished l.v l.numbers
