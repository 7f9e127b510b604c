-- Numbers counted one by one, what is done and what is still to come; and written. Assumes nothing.
use Prim.Native.Nat.{ℕ, suc, ◌+◌, ◌*◌, ◌≤◌, ◌<◌}
use mathlib.Core.Path.{◌≡◌, refl, sym, ap, ◌∙◌}
use mathlib.Core.List.{List, [], ◌∷◌, ◌++◌, append_assoc, map}
use native.Mathlib.Omega.{arith}
use lib.ListN.{length, drop, get_or, length-append, length-map}
use lib.Seq.{drop-cons, drop-length}
use Rattle.std.proofs.lemmas.List.{append-nil}
use lib.Ieee.{Float, binary32, to_bits}
use Rattle.listlaws.specs.Write as Write
use Rattle.listlaws.proofs.Write.{puts_more, puts_room}
use Rattle.number.specs.Encoded.{encoded}
use Rattle.number.proofs.Form.{encoded_length}
use Rattle.replies.specs.Replies.{bytes_of, bits_of, listed, Puts}

pub bytes_length : (l : List ℕ) → length (bytes_of l) ≤ 10 * length l
unfolding bytes_of
bytes_length [] = omega arith
bytes_length (n ∷ l) = rw length-append (omega (arith, encoded_length n, bytes_length l))

pub bytes_append : (a b : List ℕ) → bytes_of (a ++ b) ≡ bytes_of a ++ bytes_of b
unfolding bytes_of
bytes_append [] b = refl
bytes_append (n ∷ a) b = ap (λ (l : List ℕ). encoded n ++ l) (bytes_append a b) ∙ sym (append_assoc (encoded n) (bytes_of a) (bytes_of b))

pub bits_length : (l : List Float) → length (bits_of l) ≡ length l
bits_length l = length-map l (to_bits binary32)

-- ---- the number at a place, and those behind it

pub number_at : {A : Type 0} (f : A → ℕ) (s : List A) (i : ℕ) (a : A) → i < length s → a ≡ get_or s i a → map f (drop i s) ≡ f a ∷ map f (drop (suc i) s)
number_at f s i a h e = ap (map f) (drop-cons s i a h) ∙ ap (λ b. f b ∷ map f (drop (suc i) s)) (sym e)

-- none from the end on
pub none_left : {A : Type 0} (f : A → ℕ) (s : List A) (i : ℕ) → length s ≤ i → i ≤ length s → map f (drop i s) ≡ []
none_left f s i h h' = let e : i ≡ length s = omega arith in rw (e, drop-length s)

-- the bytes of the next number, and those behind it
pub bytes_next : {rest rest' : List ℕ} {n : ℕ} → rest ≡ n ∷ rest' → bytes_of rest ≡ encoded n ++ bytes_of rest'
unfolding bytes_of
bytes_next e = ap bytes_of e

pub bytes_none : {rest : List ℕ} → rest ≡ [] → bytes_of rest ≡ []
unfolding bytes_of
bytes_none e = ap bytes_of e

-- ---- counted

-- `sum` bytes are counted, of all the bytes but those of the rest
pub record Counting (all : List ℕ) (sum : ℕ) (rest : List ℕ) : Type 0 where
  pub total : sum + length (bytes_of rest) ≡ length (bytes_of all)

pub counted_one : {all rest rest' : List ℕ} {sum n : ℕ} → Counting all sum rest → rest ≡ n ∷ rest' → {size : ℕ} → size ≡ length (encoded n)
    → Counting all (sum + size) rest'
unfolding bytes_of
counted_one {all} {rest} {rest'} {sum} {n} p e size_is =
    record { total = rw size_is (omega (arith, p.total, ap (λ l. length (bytes_of l)) e, length-append (encoded n) (bytes_of rest'))) }

-- it stays small
pub count_small : {all rest rest' : List ℕ} {sum n : ℕ} → Counting all sum rest → rest ≡ n ∷ rest' → {size : ℕ} → size ≡ length (encoded n)
    → sum + size ≤ 10 * length all
unfolding bytes_of
count_small {all} {rest} {rest'} {sum} {n} p e size_is =
    omega (arith, p.total, size_is, bytes_length all, ap (λ l. length (bytes_of l)) e, length-append (encoded n) (bytes_of rest'))

pub counted : {all rest : List ℕ} {sum : ℕ} → Counting all sum rest → rest ≡ [] → sum ≡ length (bytes_of all)
unfolding bytes_of
counted p e = omega (arith, p.total, ap (λ l. length (bytes_of l)) e)

-- ---- numbers, and then two lists of floats

pub listed_length : (l : List ℕ) (x y : List Float)
    → length (bytes_of (listed l x y)) ≡ length (bytes_of l) + length (bytes_of (bits_of x)) + length (bytes_of (bits_of y))
unfolding listed
listed_length l x y = simp (bytes_append, length-append)

pub listed_none : (l : List ℕ) → listed l [] [] ≡ l
unfolding listed
listed_none l = rw (append-nil, append-nil)

module _ (o : List ℕ) (at : ℕ) (l : List ℕ) (x y : List Float) (room : at + length (bytes_of (listed l x y)) ≤ length o) where
  pub room_first : at + length (bytes_of l) ≤ length o
  room_first = omega (arith, listed_length l x y)

  module _ {m : ℕ} {o' : List ℕ} (p : Puts o at l m o') where
    pub room_second : m + length (bytes_of (bits_of x)) ≤ length o'
    room_second = puts_room p _ (omega (arith, listed_length l x y))

    module _ {m' : ℕ} {o'' : List ℕ} (q : Puts o' m (bits_of x) m' o'') where
      both : Write.Puts o at (bytes_of l ++ bytes_of (bits_of x)) m' o''
      both = puts_more p q (omega (arith, listed_length l x y))

      both_length : length (bytes_of l ++ bytes_of (bits_of x)) ≡ length (bytes_of l) + length (bytes_of (bits_of x))
      both_length = length-append (bytes_of l) (bytes_of (bits_of x))

      pub room_third : m' + length (bytes_of (bits_of y)) ≤ length o''
      room_third = puts_room both _ (omega (arith, listed_length l x y, both_length))

      pub put_lists : {r : ℕ} {z : List ℕ} → Puts o'' m' (bits_of y) r z → Puts o at (listed l x y) r z
      unfolding listed
      put_lists w = rw (bytes_append, bytes_append) (puts_more both w (omega (arith, listed_length l x y, both_length)))
