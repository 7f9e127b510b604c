-- Parsers whose bytes come in pieces. Assumes nothing.
use Rattle.std.specs.Prelude.{ℕ, ◌+◌, ◌≤◌, ◌<◌, ◌≡◌, cond, List, ◌++◌, ltb, length}
use Rattle.number.specs.Read.{leading}
use Rattle.fields.specs.Parser.{Parser, read, fault, cut_short, bad_number}

-- The fault of a number that has more than ten bytes already, all with the top bit set, by the bytes that follow: bad where it ends in them, cut short where they end first.
unfoldable pub unending : List ℕ → ℕ
unending l = cond (ltb (leading l) (length l)) bad_number cut_short

-- What p says of some bytes it says whatever follows them, except that they are cut short. It reads at most `most` bytes: of more than these, cut short, only a number's end is
-- still open.
pub record Streams {A : Type 0} (p : Parser A) (most : ℕ) : Type 0 where
  pub reads : (s more : List ℕ) (at next : ℕ) (a : A) → p s at ≡ read a next → p (s ++ more) at ≡ read a next
  pub within : (s : List ℕ) (at next : ℕ) (a : A) → at ≤ length s → p s at ≡ read a next → (at ≤ next) × (next ≤ length s) × (next ≤ at + most)
  pub faults : (s more : List ℕ) (at n : ℕ) → p s at ≡ fault n → (n ≡ cut_short → ⊥) → p (s ++ more) at ≡ fault n
  pub cut : (s more : List ℕ) (at : ℕ) → p s at ≡ fault cut_short → at + most < length s → p (s ++ more) at ≡ fault (unending more)
