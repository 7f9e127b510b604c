-- `number::reader::read` meets its contract: the bytes from `at` through the last byte are those that the definition judges, by
-- `judged_by_end`. Assumes nothing.
use Prim.Native.Nat.{ℕ, suc, ◌+◌, ◌-◌, ◌^◌, ◌≤◌, ◌<◌}
use mathlib.Core.Path.{◌≡◌, sym, ap₂, ◌∙◌}
use mathlib.Core.Bool.{true, false, cond}
use mathlib.Core.List.{List}
use native.Mathlib.Omega.{arith}
use borrow.Author.Tests.{le-ltb}
use lib.ListN.{length, take, drop, get_or, length-drop}
use lib.Seq.{slice, take-add, drop_at, length-take-le, get_or-drop}
use Rattle.std.specs.Prelude.{Ok, Err}
use Rattle.number.specs.declared.Fault.TheVariants.{CutShort, BadNumber}
use Rattle.number.specs.Read.{Reading, leading, number_of, read_from, read_at, right_end}
use Rattle.number.proofs.Judge.{judged_by_end, right_fits}
use Rattle.number.proofs.reader.read.Goals as goal

cut_short : (s : List ℕ) (at : ℕ) → length s ≤ at + leading (drop at s) → Err CutShort ≡ read_at s at
unfolding read_at read_from
cut_short s at h = rw (le-ltb (leading (drop at s)) (length (drop at s)) (rw length-drop (omega arith)))

module _ (s : List ℕ) (at last : ℕ) (e : last ≡ at + leading (drop at s)) (h : last < length s) where
  inside : leading (drop at s) < length (drop at s)
  inside = rw length-drop (omega arith)

  same_next : last + 1 ≡ at + suc (leading (drop at s))
  same_next = omega arith

  same_bytes : slice at (last + 1) s ≡ take (suc (leading (drop at s))) (drop at s)
  same_bytes = rw (same_next, take-add) (drop_at (take at s) _ at (length-take-le at s (omega arith)))

  same_end : right_end (last - at) (get_or s last 0) ≡ right_end (leading (drop at s)) (get_or (drop at s) (leading (drop at s)) 0)
  same_end = ap₂ right_end (omega arith) (rw (get_or-drop, ← e))

  fits : right_end (last - at) (get_or s last 0) ≡ true → number_of (slice at (last + 1) s) < 2 ^ 64
  fits right = rw same_bytes (right_fits (drop at s) inside (sym same_end ∙ right))

  judged_here : cond {A = Reading} (right_end (last - at) (get_or s last 0)) (Ok (number_of (slice at (last + 1) s), last + 1)) (Err BadNumber) ≡ read_at s at
  unfolding read_at
  judged_here = rw (same_end, same_bytes, same_next) (sym (judged_by_end (drop at s) inside at))

  accepted : {v : ℕ} → v ≡ number_of (slice at (last + 1) s) → right_end (last - at) (get_or s last 0) ≡ true → ◌≡◌ {A = Reading} (Ok (v, last + 1)) (read_at s at)
  accepted e' right = rw e' (rw right at judged_here)

  refused : right_end (last - at) (get_or s last 0) ≡ false → Err BadNumber ≡ read_at s at
  refused wrong = rw wrong at judged_here

pub returns-in_default : goal.returns-in_default
returns-in_default c = cut_short _ _ (omega (arith, c.in_default.ensures))

pub returns-then-not-ends_right : goal.returns-then-not-ends_right
returns-then-not-ends_right c =
    let (e, h) = c.in-Some.ensures in
    refused _ _ _ e h (sym c.ends_right.ensures ∙ c.if-not-ends_right.true)

pub value-requires : goal.value-requires
value-requires c =
    let (e, h) = c.in-Some.ensures in
    (omega arith, omega arith, fits _ _ _ e h (sym c.ends_right.ensures ∙ c.if-not-ends_right.false))

pub returns : goal.returns
returns c =
    let (e, h) = c.in-Some.ensures in
    accepted _ _ _ e h c.value.ensures (sym c.ends_right.ensures ∙ c.if-not-ends_right.false)
