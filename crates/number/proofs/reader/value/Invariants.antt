-- `number::reader::value` meets its contract. The invariant: `sum` is the value of the bytes from `i` up to `end`. It fits, since that of
-- all bytes does. Assumes nothing.
use Prim.Native.Nat.{ℕ, suc, ◌+◌, ◌*◌, ◌%◌, ◌-◌, ◌^◌, ◌≤◌, ◌<◌}
use mathlib.Core.Path.{◌≡◌}
use mathlib.Core.List.{List}
use native.Mathlib.Omega.{arith}
use lib.ListN.{length, get_or}
use lib.Seq.{slice, slice-cons, drop-drop}
use Rattle.number.specs.Read.{number_of}
use Rattle.number.proofs.Value.{value_drop}
use Rattle.number.proofs.reader.value.Given as goal

-- the value of the bytes from i up to `end`
abbrev pub part : List ℕ → ℕ → ℕ → ℕ
part s i end = number_of (slice i end s)

pub part_cons : (s : List ℕ) (i end : ℕ) → i < end → end ≤ length s → part s i end ≡ get_or s i 0 % 128 + 128 * part s (suc i) end
unfolding number_of
part_cons s i end h k = rw (slice-cons i end s 0 h k)

pub part_le : (s : List ℕ) (at i end : ℕ) → at ≤ i → part s i end ≤ part s at end
part_le s at i end h =
    let e : at + (i - at) ≡ i = omega arith in
    rw e at (rw drop-drop at (value_drop (slice at end s) (i - at)))

pub record Summing (s : List ℕ) (at end sum i : ℕ) : Type 0 where
  pub from : at ≤ i
  pub within : i ≤ end
  pub sum_is : sum ≡ part s i end

-- one turn, at which the sum still fits
module _ {s : List ℕ} {at end sum i : ℕ} (p : Summing s at end sum i) (taken : at < i) (long : end ≤ length s) where
  pub turn : sum * 128 + get_or s (i - 1) 0 % 128 ≡ part s (i - 1) end
  turn =
      let e : suc (i - 1) ≡ i = omega arith in
      omega (arith, rw e at (part_cons s (i - 1) end (omega arith) long))

  pub fits : part s at end < 2 ^ 64 → sum * 128 + get_or s (i - 1) 0 % 128 < 2 ^ 64
  fits all = omega (arith, turn, part_le s at (i - 1) end (omega arith))

abbrev pub invariant-loop-i : goal.invariant-loop-i
invariant-loop-i l = Summing l.s l.at l.end l.sum l.i
