-- The agreement of a parser with a writer. Assumes nothing.
use Rattle.std.specs.Prelude.{ℕ, ◌+◌, ◌<◌, ◌≡◌, Bool, true, false, List, ◌++◌, length, take, drop, get_or}
use Rattle.fields.specs.Parser.{Parser, read, fault, cut_short}
use Rattle.fields.specs.Bytes.{Bytes}

-- the bytes l are read as a, whatever stands behind them
pub record Gives {A : Type 0} (p : Parser A) (l : List ℕ) (a : A) : Type 0 where
  pub reads : (s rest : List ℕ) (at : ℕ) → drop at s ≡ l ++ rest → p s at ≡ read a (at + length l)

-- where a front of l, and not all of it, is what is left, it is cut short
pub record Cuts {A : Type 0} (p : Parser A) (l : List ℕ) : Type 0 where
  pub cuts : (s : List ℕ) (at j : ℕ) → j < length l → drop at s ≡ take j l → p s at ≡ fault cut_short

-- from the place `at` up to `next` stand the bytes l, and nothing else
pub record Stands (s : List ℕ) (at next : ℕ) (l : List ℕ) : Type 0 where
  pub place : next ≡ at + length l
  pub bytes : drop at s ≡ l ++ drop next s

-- p reads back each value that the writer w may be handed (`Ok`), and its bytes cut anywhere are cut short. What p reads is such a value, and its bytes are those that w gives; of NaN
-- this does not hold, which has many patterns, so it is said of values without one (`Sure`).
pub record RoundTrip {A : Type 0} (p : Parser A) (w : A → List ℕ) (Ok Sure : A → Type 0) : Type 0 where
  pub gives : (a : A) → Ok a → Gives p (w a) a
  pub cut : (a : A) → Ok a → Cuts p (w a)
  pub takes : (s : List ℕ) → Bytes s → (at next : ℕ) (a : A) → p s at ≡ read a next → Sure a → Ok a × Stands s at next (w a)

-- ---- the values of a field that belongs to one case of a choice, and of a row

pub record WhenOk {A : Type 0} (chosen : Bool) (blank : A) (Ok : A → Type 0) (a : A) : Type 0 where
  pub there : chosen ≡ true → Ok a
  pub absent : chosen ≡ false → a ≡ blank

abbrev pub WhenSure : {A : Type 0} → Bool → (A → Type 0) → A → Type 0
WhenSure chosen Sure a = chosen ≡ true → Sure a

-- n of a kind, each fit to stand after those before it; d is what `get_or` gives past the end, where nothing looks
abbrev pub RowOk : {A : Type 0} → A → (List A → A → Type 0) → ℕ → List A → Type 0
RowOk d Ok n l = (length l ≡ n) × ((k : ℕ) → k < n → Ok (take k l) (get_or l k d))

abbrev pub RowSure : {A : Type 0} → A → (A → Type 0) → List A → Type 0
RowSure d Sure l = (k : ℕ) → k < length l → Sure (get_or l k d)
