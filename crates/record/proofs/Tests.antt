-- Tests, and what they say of a float and of its clamp. Assumes nothing.
use Prim.Native.Nat.{ℕ, zero, suc, ◌<◌}
use mathlib.Core.Path.{◌≡◌, refl, sym}
use mathlib.Core.Bool.{Bool, true, false, ◌&&◌, cond, true≢false, false≢true}
use native.Mathlib.Nat.{le_refl}
use native.Mathlib.Omega.{arith}
use lib.Dec.{T}
use lib.Ieee.{Float, binary32, neg, of_bits, fits, le}
use lib.Ieee.Bits.{of_bits-fits}
use lib.Ieee.Scale.{finite}
use Rattle.floatlaws.specs.Numbers.{f32_0, f32_1, f32_minus1}
use Rattle.floatlaws.specs.Extrema.{clamp_of}
use Rattle.floatlaws.proofs.Order.{le_not_lt, between_finite}
use Rattle.floatlaws.proofs.Extrema.{clamp_inside, clamp_fits}
use Rattle.floatlaws.proofs.Tests.{yes_so}
use Rattle.points.proofs.Floats.{unit_clamped, bend_clamped}
use Rattle.questions.specs.Tests.{every, between}
use Rattle.questions.proofs.Laws.{and_true}
use Rattle.fields.specs.RoundTrip.{WhenOk}
use Rattle.fields.proofs.Trips.{NoNan}
use Rattle.record.specs.Reading.{in_unit, in_bend}
use Rattle.record.specs.Promises.{IsF32}

pub says : (b : Bool) → T b → b ≡ true
says true h = refl
says false h = absurd h

pub both_say : (a b : Bool) → T a → T b → (a && b) ≡ true
both_say true b p q = says b q
both_say false b p q = absurd p

pub both : {a b : Bool} → a ≡ true → b ≡ true → (a && b) ≡ true
both p q = rw (p, q)

pub every_of : (t : ℕ → Bool) (n : ℕ) → ((k : ℕ) → k < n → t k ≡ true) → every t n ≡ true
unfolding every
every_of t zero h = refl
every_of t (suc n) h = both (every_of t n (λ k l. h k (omega arith))) (h n (le_refl (suc n)))

-- ---- a field that belongs to one case of a choice, and is kept there

module _ {A : Type 0} where
  pub when_same : (chosen : Bool) {blank : A} {Ok : A → Type 0} {a : A} → WhenOk chosen blank Ok a → cond chosen a blank ≡ a
  when_same true h = refl
  when_same false h = sym (h.absent refl)

  pub when_kept : (chosen : Bool) (blank : A) {Ok : A → Type 0} (a : A) → (chosen ≡ true → Ok a) → WhenOk chosen blank Ok (cond chosen a blank)
  when_kept true blank a h = record { there = h; absent = λ e. absurd (true≢false e) }
  when_kept false blank a h = record { there = λ e. absurd (false≢true e); absent = λ _. refl }

  pub test_kept : (t : A → Bool) (chosen : Bool) (blank a : A) → cond chosen (t (cond chosen a blank)) true ≡ cond chosen (t a) true
  test_kept t true blank a = refl
  test_kept t false blank a = refl

-- ---- clamps

pub inside : (lo x hi : Float) → between lo x hi ≡ true → clamp_of x lo hi ≡ x
inside lo x hi h =
    let (from, to) = and_true (le lo x) (le x hi) h in
    sym (clamp_inside x lo hi (le_not_lt x lo (yes_so from)) (le_not_lt hi x (yes_so to)))

pub unit_in : (x : Float) → NoNan x → in_unit (clamp_of x f32_0 f32_1) ≡ true
unit_in x h = let y = clamp_of x f32_0 f32_1 in let (from, to) = unit_clamped x h in both_say (le f32_0 y) (le y f32_1) from to

pub bend_in : (x : Float) → NoNan x → in_bend (clamp_of x f32_minus1 f32_1) ≡ true
bend_in x h = let y = clamp_of x f32_minus1 f32_1 in let (from, to) = bend_clamped x h in both_say (le f32_minus1 y) (le y f32_1) from to

pub unit_finite : (x : Float) → in_unit x ≡ true → finite x ≡ true
unit_finite x h =
    let (from, to) = and_true (le f32_0 x) (le x f32_1) h in
    says _ (between_finite f32_0 x f32_1 (unfold of_bits in tt) (unfold of_bits in tt) (yes_so from) (yes_so to))

pub bend_finite : (x : Float) → in_bend x ≡ true → finite x ≡ true
bend_finite x h =
    let (from, to) = and_true (le f32_minus1 x) (le x f32_1) h in
    says _ (between_finite f32_minus1 x f32_1 (unfold of_bits neg in tt) (unfold of_bits in tt) (yes_so from) (yes_so to))

pub unit_typed : (x : Float) → IsF32 x → IsF32 (clamp_of x f32_0 f32_1)
unit_typed x h = clamp_fits binary32 x f32_0 f32_1 h (of_bits-fits _ _) (of_bits-fits _ _)

pub bend_typed : (x : Float) → IsF32 x → IsF32 (clamp_of x f32_minus1 f32_1)
unfolding fits neg of_bits
bend_typed x h = clamp_fits binary32 x f32_minus1 f32_1 h tt tt
