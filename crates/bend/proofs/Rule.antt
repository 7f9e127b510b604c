-- The rule of the entries: one test over the whole table, and each entry's rule from it. So an entry has 31 binary digits, but for the last, 2 ^ 31. Assumes nothing.
use Rattle.std.proofs.Common.{◌≡◌, ℕ, ◌+◌, ◌*◌, ◌^◌, ◌<◌, ◌≤◌, Bool, ◌&&◌, T, ltb, leb, refl, ap, ◌∙◌, inl, inr, le_of_eq, le-add_right, lt_of_le_of_lt, le_of_lt, eq-or-lt_of_le, lt_of_not-le, not-le_of_lt, arith, ltb→lt, leb→le, pow_mono}
use native.Mathlib.Nat.{pow-le-pow_left}
use lib.Pow.{pow-lt}
use lib.Ieee.Fits.{and_l, and_r}
use Rattle.bend.specs.Entries.{WholePart, entries, entry_of, EntriesRule, OneWholePart}
use Rattle.listlaws.proofs.Everywhere.{everywhere, everywhere_at}

test : ℕ → ℕ → Bool
test k e = leb (e ^ 256) (2 ^ (30 * 256 + k)) && ltb (2 ^ (30 * 256 + k)) ((e + 1) ^ 256)

tested : T (everywhere test 0 entries)
unfolding test entries
tested = tt

says : (k e : ℕ) → T (test k e) → WholePart k e
unfolding test
says k e t =
    let a = leb (e ^ 256) (2 ^ (30 * 256 + k)) in
    let b = ltb (2 ^ (30 * 256 + k)) ((e + 1) ^ 256) in
    (leb→le (e ^ 256) (2 ^ (30 * 256 + k)) (and_l a b t), ltb→lt (2 ^ (30 * 256 + k)) ((e + 1) ^ 256) (and_r a b t))

pub entries_rule : EntriesRule
unfolding entry_of
entries_rule k h = says k (entry_of k) (everywhere_at test 0 entries tested k (unfold entries in omega arith))

-- ---- a number that is below by its 256th power

below : (a b : ℕ) → a ^ 256 < b ^ 256 → a < b
below a b h = lt_of_not-le (λ (l : b ≤ a). not-le_of_lt h (pow-le-pow_left l 256))

pub only_one : OneWholePart
only_one k e f p q = join (below e (f + 1) (lt_of_le_of_lt p.0 q.1)) (below f (e + 1) (lt_of_le_of_lt q.0 p.1))
  where
    join : e < f + 1 → f < e + 1 → e ≡ f
    join h l = omega arith

pub entry_least : (k : ℕ) → k ≤ 256 → 2 ^ 30 ≤ entry_of k
entry_least k h = go (entry_of k) (below (2 ^ 30) (entry_of k + 1) (lt_of_le_of_lt (pow_mono (le-add_right (30 * 256) k)) (entries_rule k h).1))
  where
    go : (e : ℕ) → 1073741824 < e + 1 → 1073741824 ≤ e
    go e l = omega arith

pub entry_under : (k : ℕ) → k < 256 → entry_of k < 2 ^ 31
entry_under k h = below (entry_of k) (2 ^ 31) (lt_of_le_of_lt (entries_rule k (omega arith)).0 (pow-lt {i = 30 * 256 + k} {j = 31 * 256} (omega arith)))

last : entry_of 256 ≡ 2 ^ 31
unfolding entry_of entries
last = refl

pub entry_most : (k : ℕ) → k ≤ 256 → entry_of k ≤ 2 ^ 31
entry_most k h = elim (eq-or-lt_of_le h) [ inl e ↦ le_of_eq (ap entry_of e ∙ last) | inr l ↦ le_of_lt (entry_under k l) ]
