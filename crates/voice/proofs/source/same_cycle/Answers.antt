-- `same_cycle` meets its contract. The machine compares the bits. Two signed numbers that fit have the same bits where they are the same. Assumes nothing.
use Rattle.std.proofs.Common.{◌≡◌, ℕ, suc, ◌-◌, ◌^◌, ◌<◌, Bool, true, false, eqb, ℤ, pos, negsuc, sym, refl, arith, w64, SFits, of_z, eq-eqb, ne_eqb, eqb-true}
use borrow.Author.Tests.{eqb-false}
use Rattle.voice.specs.Source.{same_cycle}
use Rattle.voice.proofs.source.same_cycle.Goals as goal

-- two numbers below 0 have the same bits where they are the same
below : (m n : ℕ) → m < 2 ^ 63 → n < 2 ^ 63 → (t : Bool) → eqb m n ≡ t → eqb (2 ^ 64 - suc m) (2 ^ 64 - suc n) ≡ t
below m n hm hn true e = eq-eqb (2 ^ 64 - suc m) (2 ^ 64 - suc n) (omega (arith, eqb-true m n e))
below m n hm hn false e = ne_eqb (2 ^ 64 - suc m) (2 ^ 64 - suc n) (λ (h : 2 ^ 64 - suc m ≡ 2 ^ 64 - suc n). eqb-false m n e (omega arith))

-- a number below 0 and one that is not have different bits
apart : (m n : ℕ) → m < 2 ^ 63 → n < 2 ^ 63 → m ≡ 2 ^ 64 - suc n → ⊥
apart m n hm hn e = omega arith

same_bits : (a b : ℤ) → SFits w64 a → SFits w64 b → eqb (of_z w64 a) (of_z w64 b) ≡ same_cycle a b
unfolding same_cycle
same_bits (pos m) (pos n) f g = refl
same_bits (pos m) (negsuc n) f g = ne_eqb _ _ (apart m n f.sfits g.sfits)
same_bits (negsuc m) (pos n) f g = ne_eqb _ _ (λ h. apart n m g.sfits f.sfits (sym h))
same_bits (negsuc m) (negsuc n) f g = below m n f.sfits g.sfits (eqb m n) refl

pub returns : goal.returns
returns c = same_bits c.args.a c.args.b c.ranges.a c.ranges.b
