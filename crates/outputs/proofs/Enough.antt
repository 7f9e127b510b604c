-- Each call takes a byte or more, so as many calls as there are bytes are all of them. Assumes nothing.
use Prim.Native.Nat.{ℕ, zero, suc, ◌+◌, ◌≤◌}
use mathlib.Core.Path.{◌≡◌, refl, sym, ap, ◌∙◌}
use mathlib.Core.Bool.{cond}
use mathlib.Core.List.{List, [], ◌∷◌}
use native.Mathlib.Omega.{arith}
use lib.Dec.{ltb}
use lib.ListN.{length}
use Rattle.fields.specs.Parser.{Parsed, read, fault}
use Rattle.runs.proofs.Ahead.{Ahead}
use Rattle.outputs.specs.Output.{Calling, given, given_by}
use Rattle.outputs.proofs.Fitting.{given_past}

module _ {M S A : Type 0} (C : Calling M S A) (forward : Ahead C.asked) (most more : ℕ) (run : List ℕ) (at : ℕ) (h : length run ≤ at + suc most)
    (same : (s : S) (next : ℕ) → length run ≤ next + most → given C (most + more) s run next ≡ given C most s run next) where
  by_call : (s : S) (a : Parsed A) → C.asked run at ≡ a → given_by C s (λ t. given C (most + more) t run) a ≡ given_by C s (λ t. given C most t run) a
  unfolding given_by
  by_call s (fault n) e = refl
  by_call s (read a next) e =
      let far = forward.ahead run at a next e in
      ap (λ l. C.numbers s a ∷ l) (same (C.state_after s a) next (omega arith))

-- where the bound is the number of bytes left, a larger one changes nothing
pub enough : {M S A : Type 0} (C : Calling M S A) → Ahead C.asked → (most more : ℕ) (s : S) (run : List ℕ) (at : ℕ) → length run ≤ at + most
    → given C (most + more) s run at ≡ given C most s run at
unfolding given
enough C forward zero more s run at h = given_past C (zero + more) s run at (omega arith) ∙ sym (given_past C zero s run at (omega arith))
enough C forward (suc most) more s run at h =
    let e : suc most + more ≡ suc (most + more) = omega arith in
    rw e
    (ap (λ l. cond (ltb at (length run)) l [])
    (by_call C forward most more run at h (λ t next w. enough C forward most more t run next w) s (C.asked run at) refl))
