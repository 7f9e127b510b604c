-- Parsers of which one takes all that the other takes, and reads it alike. Assumes nothing.
--     within_same, within_then     one after the other
--     within_number, within_below, within_narrow     numbers of which one field takes fewer
--     within_that, within_when     a value that is judged, a field of one case
--     within_row                   points, in a row of their own and in an array
use Prim.Native.Nat.{ℕ, zero, suc, ◌-◌, ◌≤◌, ◌<◌}
use mathlib.Core.Path.{◌≡◌, refl, sym, ap, ◌∙◌}
use mathlib.Core.Bool.{Bool, true, false, cond}
use mathlib.Core.List.{List, [], ◌∷◌, ◌++◌, append_assoc}
use native.Mathlib.Omega.{arith}
use lib.ListN.{length, set, replicate, length-append}
use Rattle.listlaws.specs.Tables.{padded}
use Rattle.std.specs.Prelude.{Ok}
use Rattle.number.specs.Read.{read_at}
use Rattle.number.proofs.Exact.{below_small, below_keeps}
use Rattle.fields.specs.Parser.{read, fault, after, Parser, ◌then◌, done, ◌that◌, when, row}
use Rattle.fields.specs.Fields.{number, below}
use Rattle.fields.proofs.Chains.{was_read, same_value, same_place, no_fault}
use Rattle.fields.proofs.Trips.{parsed_read}
use Rattle.runs.specs.Curves.{kept}

pub record Within {A : Type 0} (p q : Parser A) : Type 0 where
  pub same : (s : List ℕ) (at : ℕ) (a : A) (next : ℕ) → p s at ≡ read a next → q s at ≡ read a next

pub within_same : {A : Type 0} {p : Parser A} → Within p p
within_same = record { same = λ s at a next e. e }

module _ {A B : Type 0} {p q : Parser A} (f g : A → Parser B) where
  pub within_then : Within p q → ((a : A) → Within (f a) (g a)) → Within (p then f) (q then g)
  unfolding after
  within_then w v =
      record {
        same = λ s at b end e.
            let (a, next, first, rest) = was_read (p s at) _ e in
            rw (w.same s at a next first) ((v a).same s next b end rest);
      }

-- ---- numbers

module _ (limit : ℕ) (s : List ℕ) (at v next : ℕ) (e : below limit s at ≡ read v next) where
  small_there : (v < limit) × (read_at s at ≡ Ok (v, next))
  unfolding below
  small_there = below_small limit (read_at s at) v next (parsed_read _ e)

  number_there : number s at ≡ read v next
  unfolding number
  number_there = rw small_there.1

  below_there : (wide : ℕ) → limit ≤ wide → below wide s at ≡ read v next
  unfolding below
  below_there wide h = rw (small_there.1, below_keeps wide v next (omega (arith, small_there.0)))

module _ {B : Type 0} (limit : ℕ) (f g : ℕ → Parser B) (v : (n : ℕ) → n < limit → Within (f n) (g n)) where
  pub within_below : Within (below limit then f) (number then g)
  unfolding after
  within_below =
      record {
        same = λ s at b end e.
            let (n, next, first, rest) = was_read (below limit s at) _ e in
            rw (number_there limit s at n next first) ((v n (small_there limit s at n next first).0).same s next b end rest);
      }

  pub within_narrow : (wide : ℕ) → limit ≤ wide → Within (below limit then f) (below wide then g)
  unfolding after
  within_narrow wide h =
      record {
        same = λ s at b end e.
            let (n, next, first, rest) = was_read (below limit s at) _ e in
            rw (below_there limit s at n next first wide h) ((v n (small_there limit s at n next first).0).same s next b end rest);
      }

pub within_number : (limit : ℕ) → Within (below limit) number
within_number limit = record { same = λ s at v next e. number_there limit s at v next e }

-- ---- fields

module _ {A : Type 0} (p : Parser A) (t : A → Bool) where
  by_test : (s : List ℕ) (a b : A) (m next : ℕ) (ok : Bool) → cond {A = Parser A} ok (done a) (λ s at. fault 13) s m ≡ read b next → read a m ≡ read b next
  by_test s a b m next true e = e
  by_test s a b m next false e = absurd (no_fault e)

  pub within_that : Within (p that t) p
  unfolding ◌that◌
  within_that =
      record {
        same = λ s at b next e.
            let (a, m, first, rest) = was_read (p s at) _ e in
            first ∙ by_test s a b m next (t a) rest;
      }

pub within_when : {A : Type 0} {p q : Parser A} → Within p q → (blank : A) (chosen : Bool) → Within (when chosen blank p) (when chosen blank q)
unfolding when
within_when w blank true = w
within_when w blank false = within_same

-- ---- points

module _ {A : Type 0} (z : A) where
  set_there : (f : List A) (a b : A) (rest : List A) → set (f ++ (b ∷ rest)) (length f) a ≡ f ++ (a ∷ rest)
  set_there [] a b rest = refl
  set_there (c ∷ f) a b rest = ap (λ l. c ∷ l) (set_there f a b rest)

  one_more : (f : List A) (a : A) → length f < 64 → set (padded 64 z f) (length f) a ≡ padded 64 z (f ++ (a ∷ []))
  one_more f a h =
      let k = 64 - suc (length f) in
      let here : 64 - length f ≡ suc k = omega arith in
      let after : 64 - length (f ++ (a ∷ [])) ≡ k = omega (arith, length-append f (a ∷ [])) in
      rw (here, after) (set_there f a z (replicate k z) ∙ sym (append_assoc f (a ∷ []) (replicate k z)))

module _ {A : Type 0} (z : A) (p : List A → Parser A) (q : Parser A) (w : (l : List A) → Within (p l) q) where
  kept_more : (n : ℕ) (s : List ℕ) (at : ℕ) (f : List A) (m : ℕ) (a : A) (next : ℕ) → n < 64 → length f ≡ n → kept z q n s at ≡ read (padded 64 z f) m → q s m ≡ read a next
      → kept z q (suc n) s at ≡ read (padded 64 z (f ++ (a ∷ []))) next
  unfolding kept after
  kept_more n s at f m a next h long there e = rw (there, e, ← long) (ap (λ x. read x next) (one_more z f a (omega arith)))

  row_there : (n : ℕ) → n ≤ 64 → (s : List ℕ) (at : ℕ) (l : List A) (next : ℕ) → row p n s at ≡ read l next
      → (length l ≡ n) × (kept z q n s at ≡ read (padded 64 z l) next)
  unfolding row kept after
  row_there zero h s at l next e =
      let is : [] ≡ l = same_value e in
      (ap length (sym is), ap (λ x. read (padded 64 z x) at) is ∙ ap (read (padded 64 z l)) (same_place e))
  row_there (suc n) h s at l next e =
      let (f, m, first, more) = was_read (row p n s at) _ e in
      let (a, m', second, last) = was_read (p f s m) _ more in
      let is : f ++ (a ∷ []) ≡ l = same_value last in
      let (long, there) = row_there n (omega arith) s at f m first in (
        ap length (sym is) ∙ omega (arith, length-append f (a ∷ [])),
        kept_more n s at f m a m' h long there ((w f).same s m a m' second) ∙ ap (λ x. read (padded 64 z x) m') is ∙ ap (read (padded 64 z l)) (same_place last),
      )

  pub within_row : {B : Type 0} (n : ℕ) → n ≤ 64 → (f g : List A → Parser B) → ((l : List A) → Within (f l) (g (padded 64 z l))) → Within (row p n then f) (kept z q n then g)
  unfolding after
  within_row n h f g v =
      record {
        same = λ s at b end e.
            let (l, next, first, rest) = was_read (row p n s at) _ e in
            rw (row_there n h s at l next first).1 ((v l).same s next b end rest);
      }
