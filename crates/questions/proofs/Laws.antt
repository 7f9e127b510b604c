-- Laws of the tests, for the proofs of the functions. Assumes nothing.
use Prim.Native.Nat.{ℕ, zero, suc, ◌≤◌}
use mathlib.Core.Path.{◌≡◌, refl, sym, ◌∙◌}
use mathlib.Core.Bool.{Bool, true, false, ◌&&◌, ◌||◌, cond, false≢true}
use mathlib.Core.List.{List, [], ◌∷◌}
use native.Mathlib.Omega.{arith}
use lib.ListN.{length, get_or, take}
use Rattle.std.specs.List.{list_all}
use Rattle.std.proofs.Math.Seq.{take-suc}
use Rattle.std.proofs.lemmas.List.Folds.{list_all-append}
use lib.Ieee.{Float, nan, inf, fin, lt, le, eq}
use Rattle.std.specs.Float.{float_is_finite}
use Rattle.std.proofs.Common.{None, Some, Less, Equal, Greater}
use Rattle.std.specs.declared.ops.RangeInclusive.{RangeInclusive}
use Rattle.std.specs.Range.{range_inclusive_start, range_inclusive_end, range_inclusive_exhausted, range_inclusive_contains}
use Rattle.std.specs.Ordering.{is_some_and, is_le, partial_le, float_partial_cmp}
use lib.Ieee.Scale.{finite}
use Rattle.questions.specs.Tests.{every, between}

-- `is_finite` of the library
pub finite_is : (x : Float) → float_is_finite x ≡ finite x
unfolding float_is_finite
finite_is nan = refl
finite_is (inf s) = refl
finite_is (fin s m e) = refl

-- `<=` of the library, as it compares floats
le_cases : (a b c : Bool) → is_some_and is_le (cond a (Some Less) (cond b (Some Equal) (cond c (Some Greater) None))) ≡ (a || b)
le_cases true b c = refl
le_cases false true c = refl
le_cases false false true = refl
le_cases false false false = refl

pub le_is : (x y : Float) → partial_le float_partial_cmp x y ≡ le x y
unfolding le
le_is x y = le_cases (lt x y) (eq x y) (lt y x)

-- `(lo..=hi).contains(&x)`
pub within : (r : RangeInclusive Float) (x : Float) {lo hi : Float} {asked : Bool}
    → asked ≡ range_inclusive_contains float_partial_cmp r x
    → range_inclusive_start r ≡ lo
    → range_inclusive_end r ≡ hi
    → range_inclusive_exhausted r ≡ false
    → asked ≡ between lo x hi
within r x {lo = lo} {hi = hi} e a b d = rw (e, a, d, b, le_is lo x, le_is x hi)

-- ---- a test of the first n of a list

and_true_is : (b : Bool) → (b && true) ≡ b
and_true_is true = refl
and_true_is false = refl

pub every_first : {A : Type 0} (t : A → Bool) (none : A) (l : List A) (n : ℕ) → n ≤ length l → list_all t (take n l) ≡ every (λ k. t (get_or l k none)) n
unfolding every
every_first t none l zero h = refl
every_first t none l (suc n) h =
    rw (take-suc l n none h, list_all-append t (take n l) (get_or l n none ∷ []), every_first t none l n (omega arith), and_true_is (t (get_or l n none)))

-- ---- a question's test, by the branch that was taken

pub no : {asked test : Bool} → asked ≡ test → asked ≡ false → test ≡ false
no e h = sym e ∙ h

pub yes : {asked test : Bool} → asked ≡ test → asked ≡ true → test ≡ true
yes e h = sym e ∙ h

pub and_true : (a b : Bool) → (a && b) ≡ true → (a ≡ true) × (b ≡ true)
and_true true b h = (refl, h)
and_true false b h = absurd (false≢true h)

pub three : (a b c : Bool) → (a && b && c) ≡ true → (a ≡ true) × (b ≡ true) × (c ≡ true)
three a b c h =
    let q = and_true (a && b) c h in
    let p = and_true a b q.0 in
    (p.0, p.1, q.1)

pub five : (a b c d e : Bool) → (a && b && c && d && e) ≡ true → (a ≡ true) × (b ≡ true) × (c ≡ true) × (d ≡ true) × (e ≡ true)
five a b c d e h =
    let q = three (a && b && c) d e h in
    let p = three a b c q.0 in
    (p.0, p.1, p.2, q.1, q.2)

pub seven : (a b c d e f g : Bool) → (a && b && c && d && e && f && g) ≡ true
    → (a ≡ true) × (b ≡ true) × (c ≡ true) × (d ≡ true) × (e ≡ true) × (f ≡ true) × (g ≡ true)
seven a b c d e f g h =
    let q = three (a && b && c && d && e) f g h in
    let p = five a b c d e q.0 in
    (p.0, p.1, p.2, p.3, p.4, q.1, q.2)
