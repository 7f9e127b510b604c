-- Parsers whose bytes come in pieces: a law for each way of making a parser. Assumes nothing.
--     number_streams, below_streams, f32_streams, f64_streams     at most ten bytes
--     done_streams, then_streams, that_streams, when_streams, row_streams
--     wider       at most so many bytes, and so at most more
--     Ahead, number_ahead, below_ahead, begins     a byte or more
use Prim.Native.Nat.{ℕ, zero, suc, ◌+◌, ◌*◌, ◌≤◌, ◌<◌, ◌^◌}
use mathlib.Core.Path.{◌≡◌, refl, sym, ap, ◌∙◌}
use mathlib.Core.Bool.{Bool, true, false, cond, false≢true}
use mathlib.Core.List.{List, [], ◌∷◌, ◌++◌}
use native.Mathlib.Omega.{arith}
use borrow.Author.Tests.{ltb-true, ltb-false, eqb-true, lt-ltb, le-ltb}
use lib.Dec.{ltb, eqb}
use lib.ListN.{length, take, drop, get_or, length-append, length-drop, get_or-append}
use lib.Seq.{take-append-le, drop-append-le}
use lib.Ieee.{binary32, binary64, of_bits}
use Rattle.std.specs.Prelude.{Ok, Err}
use Rattle.number.specs.declared.Fault.TheVariants.{CutShort, BadNumber}
use Rattle.number.specs.Read.{Reading, leading, number_of, shortest, right_end, read_from, read_at}
use Rattle.number.specs.Read as Read
use Rattle.number.proofs.Judge.{judged_by_end}
use Rattle.number.proofs.Exact.{err_is_none, same_parts, below_small}
use Rattle.fields.specs.Parser.{Parsed, read, fault, cut_short, bad_number, after, Parser, ◌then◌, done, ◌that◌, when, row}
use Rattle.fields.specs.Fields.{parsed, number, below, up_to, f32, f64}
use Rattle.streams.specs.Streams.{unending, Streams}
use Rattle.fields.proofs.Chains.{no_fault, same_place, was_read}
use Rattle.fields.proofs.Trips.{parsed_read}

-- ---- a number in the front of some bytes

-- with a last byte in l, what follows is not looked at
front : (l more : List ℕ) → leading l < length l → leading (l ++ more) ≡ leading l
unfolding leading
front [] more h = absurd (omega arith)
front (b ∷ l) more h = by_test (ltb b 128) h (front l more)
  where
    by_test : (t : Bool) → cond t 0 (suc (leading l)) < suc (length l) → (leading l < length l → leading (l ++ more) ≡ leading l)
        → cond t 0 (suc (leading (l ++ more))) ≡ cond t 0 (suc (leading l))
    by_test true h same = refl
    by_test false h same = ap suc (same (omega arith))

-- with none, the bytes with the top bit set go on in what follows
on : (l more : List ℕ) → length l ≤ leading l → leading (l ++ more) ≡ length l + leading more
unfolding leading
on [] more h = omega arith
on (b ∷ l) more h = by_test (ltb b 128) h (on l more)
  where
    by_test : (t : Bool) → suc (length l) ≤ cond t 0 (suc (leading l)) → (length l ≤ leading l → leading (l ++ more) ≡ length l + leading more)
        → cond t 0 (suc (leading (l ++ more))) ≡ suc (length l) + leading more
    by_test true h same = absurd (omega arith)
    by_test false h same = omega (arith, same (omega arith))

same_front : (l more : List ℕ) (at : ℕ) → leading l < length l → read_from (l ++ more) at ≡ read_from l at
unfolding read_from
same_front l more at h =
    let longer : leading l < length (l ++ more) = omega (arith, length-append l more) in
    rw (front l more h, lt-ltb (leading l) (length l) h, lt-ltb (leading l) (length (l ++ more)) longer, get_or-append l more 0 (leading l) h, take-append-le (suc (leading l)) l more h)

-- a number with a last byte has at most ten bytes, or is bad
module _ (l : List ℕ) (at : ℕ) where
  few : (k b : ℕ) → right_end k b ≡ true → k ≤ 9
  unfolding right_end
  few k b = by_form (shortest k b) (ltb k 9) refl (eqb k 9) refl
    where
      by_form : (t u : Bool) → ltb k 9 ≡ u → (v : Bool) → eqb k 9 ≡ v → cond t (cond u true (cond v (ltb b 2) false)) false ≡ true → k ≤ 9
      by_form true true less v nine e = omega (arith, ltb-true k 9 less)
      by_form true false less true nine e = omega (arith, eqb-true k 9 nine)
      by_form true false less false nine e = absurd (false≢true e)
      by_form false u less v nine e = absurd (false≢true e)

  there : leading l < length l → (v next : ℕ) → read_from l at ≡ Ok (v, next) → (next ≡ at + suc (leading l)) × (leading l ≤ 9)
  there h v next e = by_end (right_end (leading l) (get_or l (leading l) 0)) refl (sym (judged_by_end l h at) ∙ e)
    where
      by_end : (t : Bool) → right_end (leading l) (get_or l (leading l) 0) ≡ t
          → cond {A = Reading} t (Ok (number_of (take (suc (leading l)) l), at + suc (leading l))) (Err BadNumber) ≡ Ok (v, next) → (next ≡ at + suc (leading l)) × (leading l ≤ 9)
      by_end true right e = ((same_parts e).1, few (leading l) (get_or l (leading l) 0) right)
      by_end false right e = absurd (err_is_none e)

  long_bad : leading l < length l → 9 < leading l → read_from l at ≡ Err BadNumber
  long_bad h long = judged_by_end l h at ∙ by_end (right_end (leading l) (get_or l (leading l) 0)) refl
    where
      by_end : (t : Bool) → right_end (leading l) (get_or l (leading l) 0) ≡ t
          → cond {A = Reading} t (Ok (number_of (take (suc (leading l)) l), at + suc (leading l))) (Err BadNumber) ≡ Err BadNumber
      by_end true right = absurd (omega (arith, few (leading l) (get_or l (leading l) 0) right))
      by_end false right = refl

other_fault : ◌≡◌ {A = Reading} (Err BadNumber) (Err CutShort) → ⊥
other_fault e = cc

-- without a last byte it is cut short
none : (l : List ℕ) (at : ℕ) → length l ≤ leading l → read_from l at ≡ Err CutShort
unfolding read_from
none l at h = rw (le-ltb (leading l) (length l) h)

pub all_leads : (l : List ℕ) (at : ℕ) → read_from l at ≡ Err CutShort → length l ≤ leading l
all_leads l at e = by_test (ltb (leading l) (length l)) refl
  where
    by_test : (t : Bool) → ltb (leading l) (length l) ≡ t → length l ≤ leading l
    by_test true h = by_end (right_end (leading l) (get_or l (leading l) 0)) (sym (judged_by_end l (ltb-true _ _ h) at) ∙ e)
      where
        by_end : (u : Bool) → cond {A = Reading} u (Ok (number_of (take (suc (leading l)) l), at + suc (leading l))) (Err BadNumber) ≡ Err CutShort → length l ≤ leading l
        by_end true z = absurd (err_is_none (sym z))
        by_end false z = absurd (other_fault z)
    by_test false h = ltb-false _ _ h

fault_same : {A : Type 0} {m n : ℕ} → ◌≡◌ {A = Parsed A} (fault m) (fault n) → m ≡ n
fault_same e = cc

-- ---- at a place

module _ (s more : List ℕ) (at : ℕ) where
  -- what is read or bad has a last byte, and so its place is within the bytes
  pub ends : (r : Reading) → read_at s at ≡ r → (r ≡ Err CutShort → ⊥) → leading (drop at s) < length (drop at s)
  unfolding read_at
  ends r e some = by_test (ltb (leading (drop at s)) (length (drop at s))) refl
    where
      by_test : (t : Bool) → ltb (leading (drop at s)) (length (drop at s)) ≡ t → leading (drop at s) < length (drop at s)
      by_test true h = ltb-true _ _ h
      by_test false h = absurd (some (sym e ∙ none (drop at s) at (ltb-false _ _ h)))

  dropped : at ≤ length s → drop at (s ++ more) ≡ drop at s ++ more
  dropped h = drop-append-le at s more h

  same_reading : leading (drop at s) < length (drop at s) → read_at (s ++ more) at ≡ read_at s at
  unfolding read_at
  same_reading h =
      let here : at ≤ length s = omega (arith, length-drop at s) in
      rw (dropped here) (same_front (drop at s) more at h)

  -- cut short, and more than ten bytes long
  long_reading : read_at s at ≡ Err CutShort → at + 10 < length s → read_at (s ++ more) at ≡ cond (ltb (leading more) (length more)) (Err BadNumber) (Err CutShort)
  unfolding read_at
  long_reading e far =
      let here : at ≤ length s = omega arith in
      let long : 10 < length (drop at s) = omega (arith, length-drop at s) in
      rw (dropped here) (by_test long (all_leads (drop at s) at e) (ltb (leading more) (length more)) refl)
    where
      by_test : 10 < length (drop at s) → length (drop at s) ≤ leading (drop at s) → (t : Bool) → ltb (leading more) (length more) ≡ t
          → read_from (drop at s ++ more) at ≡ cond t (Err BadNumber) (Err CutShort)
      by_test long all true h =
          let count = on (drop at s) more all in
          long_bad (drop at s ++ more) at (omega (arith, length-append (drop at s) more, ltb-true (leading more) (length more) h)) (omega arith)
      by_test long all false h =
          let count = on (drop at s) more all in
          none (drop at s ++ more) at (omega (arith, length-append (drop at s) more, ltb-false (leading more) (length more) h))

-- ---- a number, of which a field makes what it will

module _ {A : Type 0} (f : Reading → Parsed A) (cut : f (Err CutShort) ≡ fault cut_short) (bad : f (Err BadNumber) ≡ fault bad_number)
    (place : (v n next : ℕ) (a : A) → f (Ok (v, n)) ≡ read a next → n ≡ next) (no_cut : (v n : ℕ) → f (Ok (v, n)) ≡ fault cut_short → ⊥) where
  was_cut : (r : Reading) → f r ≡ fault cut_short → r ≡ Err CutShort
  was_cut (Ok (v, n)) e = absurd (no_cut v n e)
  was_cut (Err CutShort) e = refl
  was_cut (Err BadNumber) e = let z : ◌≡◌ {A = ℕ} 13 12 = fault_same (sym bad ∙ e) in absurd (omega arith)

  not_cut : {x : Parsed A} (r : Reading) → f r ≡ x → (x ≡ fault cut_short → ⊥) → r ≡ Err CutShort → ⊥
  not_cut r e some is = some (sym e ∙ ap f is ∙ cut)

  number_within : (s : List ℕ) (at : ℕ) (r : Reading) (next : ℕ) (a : A) → read_at s at ≡ r → f r ≡ read a next → (at ≤ next) × (next ≤ length s) × (next ≤ at + 10)
  unfolding read_at
  number_within s at (Ok (v, n)) next a is e =
      let h = ends s [] at (Ok (v, n)) is (λ z. err_is_none (sym z)) in
      let p = there (drop at s) at h v n is in
      let same = place v n next a e in
      (omega arith, omega (arith, length-drop at s), omega arith)
  number_within s at (Err CutShort) next a is e = absurd (no_fault (sym cut ∙ e))
  number_within s at (Err BadNumber) next a is e = absurd (no_fault (sym bad ∙ e))

  pub reading_streams : Streams (λ s at. f (read_at s at)) 10
  unfolding unending
  reading_streams =
      record {
        reads = λ s more at next a e.
            let h = ends s more at (read_at s at) refl (not_cut (read_at s at) e (λ z. no_fault (sym z))) in
            ap f (same_reading s more at h) ∙ e;
        within = λ s at next a here e. number_within s at (read_at s at) next a refl e;
        faults = λ s more at n e other.
            let h = ends s more at (read_at s at) refl (not_cut (read_at s at) e (λ z. other (fault_same z))) in
            ap f (same_reading s more at h) ∙ e;
        cut = λ s more at e far.
            ap f (long_reading s more at (was_cut (read_at s at) e) far) ∙ by_test (ltb (leading more) (length more));
      }
    where
      by_test : (t : Bool) → f (cond t (Err BadNumber) (Err CutShort)) ≡ fault (cond t bad_number cut_short)
      by_test true = bad
      by_test false = cut

pub number_streams : Streams number 10
unfolding number
number_streams = reading_streams parsed refl refl (λ v n next a e. same_place e) (λ v n e. no_fault (sym e))

pub below_streams : (limit : ℕ) → Streams (below limit) 10
unfolding below Read.below
below_streams limit = reading_streams (λ r. parsed (Read.below limit r)) refl refl (λ v n next a e. by_limit (ltb v limit) v n next a e) (λ v n e. bad_limit (ltb v limit) v n e)
  where
    by_limit : (t : Bool) (v n next a : ℕ) → parsed (cond {A = Reading} t (Ok (v, n)) (Err BadNumber)) ≡ read a next → n ≡ next
    by_limit true v n next a e = same_place e
    by_limit false v n next a e = absurd (no_fault e)

    bad_limit : (t : Bool) (v n : ℕ) → parsed (cond {A = Reading} t (Ok (v, n)) (Err BadNumber)) ≡ fault cut_short → ⊥
    bad_limit true v n e = no_fault (sym e)
    bad_limit false v n e = let z : ◌≡◌ {A = ℕ} 13 12 = fault_same e in omega arith

pub number_ahead : (s : List ℕ) (at v next : ℕ) → number s at ≡ read v next → at < next
unfolding number read_at
number_ahead s at v next e =
    let is = parsed_read (read_at s at) e in
    let h = ends s [] at (Ok (v, next)) is (λ z. err_is_none (sym z)) in
    let p = there (drop at s) at h v next is in
    omega arith

-- a parser that takes a byte or more
abbrev pub Ahead : {A : Type 0} → Parser A → Type 0
Ahead {A} p = (s : List ℕ) (at next : ℕ) (a : A) → at ≤ length s → p s at ≡ read a next → at < next

pub below_ahead : (limit : ℕ) → Ahead (below limit)
unfolding below Read.below number
below_ahead limit s at next v here e = by_reading (read_at s at) refl e
  where
    by_limit : (t : Bool) (w m : ℕ) → number s at ≡ read w m → parsed (cond {A = Reading} t (Ok (w, m)) (Err BadNumber)) ≡ read v next → at < next
    by_limit true w m is e = let far = number_ahead s at w m is in let same = same_place e in omega arith
    by_limit false w m is e = absurd (no_fault e)

    by_reading : (r : Reading) → read_at s at ≡ r → parsed (Read.below limit r) ≡ read v next → at < next
    by_reading (Ok (w, m)) is e = by_limit (ltb w limit) w m (ap parsed is) e
    by_reading (Err CutShort) is e = absurd (no_fault e)
    by_reading (Err BadNumber) is e = absurd (no_fault e)

-- ---- a number of more than ten bytes, and some bytes more of it

pub unending_front : (l more : List ℕ) → leading l < length l → unending (l ++ more) ≡ bad_number
unfolding unending
unending_front l more h = rw (front l more h, lt-ltb (leading l) (length (l ++ more)) (omega (arith, length-append l more)))

pub unending_on : (l more : List ℕ) → length l ≤ leading l → unending (l ++ more) ≡ unending more
unfolding unending
unending_on l more h = by_test (ltb (leading more) (length more)) refl
  where
    by_test : (t : Bool) → ltb (leading more) (length more) ≡ t → cond (ltb (leading (l ++ more)) (length (l ++ more))) bad_number cut_short ≡ cond t bad_number cut_short
    by_test true e = rw (lt-ltb (leading (l ++ more)) (length (l ++ more)) (omega (arith, on l more h, length-append l more, ltb-true (leading more) (length more) e)))
    by_test false e = rw (le-ltb (leading (l ++ more)) (length (l ++ more)) (omega (arith, on l more h, length-append l more, ltb-false (leading more) (length more) e)))

-- ---- parsers made of parsers

pub done_streams : {A : Type 0} (a : A) → Streams (done a) 0
done_streams a =
    record {
      reads = λ s more at next b e. e;
      within = λ s at next b here e. let same = same_place e in (omega arith, omega arith, omega arith);
      faults = λ s more at n e other. absurd (no_fault (sym e));
      cut = λ s more at e far. absurd (no_fault (sym e));
    }

-- a fault that is said of any bytes
pub fault_streams : {A : Type 0} (n : ℕ) → (n ≡ cut_short → ⊥) → Streams {A = A} (λ s at. fault n) 0
fault_streams n other =
    record {
      reads = λ s more at next b e. e;
      within = λ s at next b here e. absurd (no_fault e);
      faults = λ s more at m e _. e;
      cut = λ s more at e far. absurd (other (fault_same e));
    }

pub wider : {A : Type 0} {p : Parser A} {k : ℕ} → Streams p k → (m : ℕ) → k ≤ m → Streams p m
wider h m le =
    record {
      reads = h.reads;
      within = λ s at next a here e. let w = h.within s at next a here e in (w.0, w.1, omega arith);
      faults = h.faults;
      cut = λ s more at e far. h.cut s more at e (omega arith);
    }

-- one after the other; what follows may go by what can be read
module _ {A B : Type 0} {p : Parser A} (f : A → Parser B) {j k : ℕ} (first : Streams p j) {Can : A → Type 0}
    (can : (s : List ℕ) (at next : ℕ) (a : A) → p s at ≡ read a next → Can a) (next_of : (a : A) → Can a → Streams (f a) k) where
  -- a fault is the first one's, or that of what follows its value
  by_first : {C : Type 0} (s : List ℕ) (n : ℕ) (q : Parsed A) → after q (λ a. f a s) ≡ fault n → (q ≡ fault n → C)
      → ((a : A) (m : ℕ) → q ≡ read a m → f a s m ≡ fault n → C) → C
  unfolding after
  by_first s n (read a m) e k l = l a m refl e
  by_first s n (fault i) e k l = k (ap fault (fault_same e))

  pub then_streams_if : Streams (p then f) (j + k)
  unfolding after
  then_streams_if =
      record {
        reads = λ s more at next b e.
            let (a, m, e₁, e₂) = was_read (p s at) _ e in
            rw (first.reads s more at m a e₁) ((next_of a (can s at m a e₁)).reads s more m next b e₂);
        within = λ s at next b here e.
            let (a, m, e₁, e₂) = was_read (p s at) _ e in
            let w = first.within s at m a here e₁ in
            let v = (next_of a (can s at m a e₁)).within s m next b w.1 e₂ in
            (omega arith, v.1, omega arith);
        faults = λ s more at n e other.
            by_first s n (p s at) e
            (λ e₁. rw (first.faults s more at n e₁ other))
            (λ a m e₁ e₂. rw (first.reads s more at m a e₁) ((next_of a (can s at m a e₁)).faults s more m n e₂ other));
        cut = λ s more at e far.
            by_first s cut_short (p s at) e
            (λ e₁. rw (first.cut s more at e₁ (omega arith)))
            (λ a m e₁ e₂.
            let w = first.within s at m a (omega arith) e₁ in
            rw (first.reads s more at m a e₁) ((next_of a (can s at m a e₁)).cut s more m e₂ (omega arith)));
      }

pub then_streams : {A B : Type 0} {p : Parser A} (f : A → Parser B) {j k : ℕ} → Streams p j → ((a : A) → Streams (f a) k) → Streams (p then f) (j + k)
then_streams f first next_of = then_streams_if f first {Can = λ a. Unit {0}} (λ s at next a e. tt) (λ a _. next_of a)

-- the same where the first of them takes a byte or more
pub begins : {A B : Type 0} {p : Parser A} {f : A → Parser B} {j k : ℕ} → Streams p j → Ahead p → ((a : A) → Streams (f a) k) → Streams (p then f) (j + k) × Ahead (p then f)
unfolding after
begins {p = p} {f = f} first far next_of = (
  then_streams f first next_of,
  λ s at next b here e.
      let (a, m, e₁, e₂) = was_read (p s at) _ e in
      let w = first.within s at m a here e₁ in
      let v = (next_of a).within s m next b w.1 e₂ in
      omega (arith, far s at m a here e₁),
)

-- a count of at most `most`
pub counted_streams : {B : Type 0} (most : ℕ) (f : ℕ → Parser B) {k : ℕ} → ((n : ℕ) → n ≤ most → Streams (f n) k) → Streams (up_to most then f) (10 + k)
unfolding below
counted_streams most f next_of =
    then_streams_if f (below_streams (suc most)) {Can = λ n. n ≤ most}
    (λ s at next n e. let small = below_small (suc most) (read_at s at) n next (parsed_read _ e) in omega arith)
    next_of

-- a value that is judged
pub that_streams : {A : Type 0} {p : Parser A} {k : ℕ} → Streams p k → (t : A → Bool) → Streams (p that t) (k + 0)
unfolding ◌that◌
that_streams {A} h t = then_streams (λ a. cond (t a) (done a) (λ s at. fault bad_number)) h (λ a. by_test a (t a))
  where
    by_test : (a : A) (u : Bool) → Streams (cond u (done a) (λ s at. fault bad_number)) 0
    by_test a true = done_streams a
    by_test a false = fault_streams bad_number (λ e. omega arith)

pub when_streams : {A : Type 0} {p : Parser A} {k : ℕ} → Streams p k → (chosen : Bool) (blank : A) → Streams (when chosen blank p) k
unfolding when
when_streams h true blank = h
when_streams h false blank = wider (done_streams blank) _ (omega arith)

pub row_streams : {A : Type 0} (p : List A → Parser A) (k : ℕ) → ((l : List A) → Streams (p l) k) → (n : ℕ) → Streams (row p n) (n * k)
unfolding row
row_streams p k h zero = wider (done_streams []) _ (omega arith)
row_streams p k h (suc n) =
    wider (then_streams _ (row_streams p k h n) (λ l. then_streams _ (h l) (λ a. done_streams (l ++ (a ∷ []))))) (suc n * k) (omega arith)

-- ---- floats

pub f32_streams : Streams f32 10
unfolding f32
f32_streams = then_streams _ (below_streams (2 ^ 32)) (λ bits. done_streams (of_bits binary32 bits))

pub f64_streams : Streams f64 10
unfolding f64
f64_streams = then_streams _ number_streams (λ bits. done_streams (of_bits binary64 bits))
