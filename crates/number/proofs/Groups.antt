-- How many bytes a number takes: one for each seven bits begun, by the place of its highest bit. Assumes nothing.
use Rattle.std.proofs.Common.{ℕ, ◌+◌, ◌*◌, ◌-◌, ◌/◌, ◌%◌, ◌^◌, ◌≤◌, ◌<◌, ◌≡◌, refl, Bool, true, false, List, ◌∷◌, length, max, arith}
use Rattle.std.proofs.Math.Pow.{pow_mono}
use Rattle.std.proofs.lemmas.Nat.{pow-add}
use borrow.Author.Tests.{leb-true, leb-false}
use lib.Dec.{leb}
use Rattle.number.specs.Encoded.{encoded}
use Rattle.number.proofs.Form.{by_form}

exponent_by : (i j : ℕ) (t : Bool) → leb j i ≡ t → 2 ^ i < 2 ^ j → i < j
exponent_by i j true e h = let up : 2 ^ j ≤ 2 ^ i = pow_mono (leb-true j i e) in absurd (omega arith)
exponent_by i j false e h = leb-false j i e

exponent : (i j : ℕ) → 2 ^ i < 2 ^ j → i < j
exponent i j h = exponent_by i j (leb j i) refl h

-- k is the place of the highest bit of n, and 0 for 0
record Highest (k n : ℕ) : Type 0 where
  low : 2 ^ k ≤ max n 1
  high : max n 1 < 2 * 2 ^ k

last : (n : ℕ) → n < 128 → (k : ℕ) → Highest k n → k / 7 + 1 ≡ 1
last n h k b = let few : k < 7 = exponent k 7 (omega (arith, b.low)) in omega arith

seven : (j k : ℕ) → k ≡ 7 + j → 2 ^ k ≡ 128 * 2 ^ j
seven j k e = rw e (pow-add 2 7 j)

more : (n : ℕ) (l : List ℕ) → 128 ≤ n → ((k : ℕ) → Highest k (n / 128) → k / 7 + 1 ≡ length l) → (k : ℕ) → Highest k n
    → k / 7 + 1 ≡ length ((n % 128 + 128) ∷ l)
more n l h p k b =
    let most : 6 < k = exponent 6 k (omega (arith, b.high)) in
    let e : 2 ^ k ≡ 128 * 2 ^ (k - 7) = seven (k - 7) k (omega arith) in
    let rest : Highest (k - 7) (n / 128) = record { low = omega (arith, b.low); high = omega (arith, b.high) } in
    omega (arith, p (k - 7) rest)

pub size_is : (n : ℕ) → n < 2 ^ 64 → {m : ℕ} (k : ℕ) → m ≡ max n 1 → 2 ^ k ≤ m → m < 2 * 2 ^ k → k / 7 + 1 ≡ length (encoded n)
size_is n small {m} k e low high =
    by_form (λ n l. (k : ℕ) → Highest k n → k / 7 + 1 ≡ length l) last more n small k (record { low = omega (arith, e); high = omega (arith, e) })
