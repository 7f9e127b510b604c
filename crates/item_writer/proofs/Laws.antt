-- Numbers put one behind the other. Assumes nothing.
--     one, none                       a number, or none
--     ◌then◌                          and then more
--     row_none, row_more     a row, by the turns of a loop
--     at_most                         a row that is not longer
use Prim.Native.Nat.{ℕ, ◌+◌, ◌<◌, ◌≤◌}
use mathlib.Core.Path.{◌≡◌, refl, sym, ap, ◌∙◌}
use mathlib.Core.List.{List, [], ◌++◌, append-nil, append_assoc}
use native.Mathlib.Numerals.{add-one}
use native.Mathlib.Omega.{arith}
use lib.ListN.{length, set, take, get_or, length-set}
use lib.Seq.{take-suc, take-suc-set}
use Rattle.number.specs.Encoded.{encoded}
use Rattle.fields.specs.Bytes.{row_bytes}
use Rattle.fields.proofs.Rows.{row_bytes_snoc}
use Rattle.replies.specs.Replies.{bytes_of}
use Rattle.replies.proofs.Laws.{bytes_append}
use Rattle.item_writer.specs.Numbers.{Adds}

pub one : (x : List ℕ) (at n : ℕ) → at < length x → Adds x at (encoded n) 1 (at + 1) (set x at n)
unfolding bytes_of
one x at n h =
    record {
      bytes = rw (add-one, take-suc-set x at n h, bytes_append) (ap (λ (l : List ℕ). bytes_of (take at x) ++ l) (append-nil (encoded n)));
      few = omega arith;
      long = length-set x at n;
    }

pub none : (x : List ℕ) (at most : ℕ) → Adds x at [] most at x
none x at most = record { bytes = sym (append-nil (bytes_of (take at x))); few = omega arith; long = refl }

infixl 20 ◌then◌
pub ◌then◌ : {x y z : List ℕ} {at r end : ℕ} {l k : List ℕ} {m n : ℕ} → Adds x at l m r y → Adds y r k n end z → Adds x at (l ++ k) (m + n) end z
◌then◌ {x} {at = at} {l = l} {k} a b =
    record {
      bytes = b.bytes ∙ ap (λ (h : List ℕ). h ++ k) a.bytes ∙ append_assoc (bytes_of (take at x)) l k;
      few = omega (arith, a.few, b.few);
      long = b.long ∙ a.long;
    }

pub at_most : {x y : List ℕ} {at r : ℕ} {l : List ℕ} {m n : ℕ} → Adds x at l m r y → m ≤ n → Adds x at l n r y
at_most a h = record { bytes = a.bytes; few = omega (arith, a.few); long = a.long }

module _ {A : Type 0} (w : A → List ℕ) (l : List A) where
  pub row_none : (x : List ℕ) (at most : ℕ) → Adds x at (row_bytes w []) most at x
  unfolding row_bytes
  row_none x at most = none x at most

  pub row_more : (i : ℕ) (a : A) → i < length l → a ≡ get_or l i a → {x y z : List ℕ} {at place end m k n : ℕ} → Adds x at (row_bytes w (take i l)) m place y
      → Adds y place (w a) k end z → m + k ≤ n → Adds x at (row_bytes w (take (i + 1) l)) n end z
  row_more i a h is p q e = rw (add-one, take-suc l i a h, row_bytes_snoc) (at_most (p then rw is at q) e)
