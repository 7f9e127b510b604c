-- `random::xorshift::draw` meets its contract. Assumes nothing.
use Rattle.std.proofs.Common.{◌≡◌, ℕ, ◌*◌, ◌/◌, ◌%◌, ◌^◌, ◌<◌, false, pos, sym, ap, subst, arith}
use lib.Ieee as Ieee
use lib.Ieee.{Float, fin, binary32}
use Rattle.random.specs.Mix.{xor_shr}
use Rattle.random.specs.Draw.{xor_shl, stepped, output, top24, fraction, drawn, DrawnFrom}
use Rattle.random.specs.declared.Draw.{Draw}
use Rattle.random.proofs.xorshift.Words.{step_alive}
use Rattle.random.proofs.xorshift.Fractions.{fraction_is, fraction_exact, is_number, at_least_zero, below_one}
use Rattle.random.proofs.xorshift.draw.Goals as goal

-- the top of a number of 64 bits has 24
top_lt : (n : ℕ) → n % 2 ^ 64 / 2 ^ 40 < 2 ^ 24
top_lt n = omega arith

drawn_from : (word : ℕ) → DrawnFrom word (drawn word)
unfolding drawn top24 output
drawn_from word =
    let small = top_lt (stepped word * 0x2545F4914F6CDD1D) in
    let exact = fraction_exact (top24 (stepped word)) small in
    record {
      exact = exact;
      number = is_number (fraction (top24 (stepped word))) (top24 (stepped word)) (2 ^ 24) exact;
      from_zero = at_least_zero (fraction (top24 (stepped word))) (top24 (stepped word)) exact;
      below_one = below_one (fraction (top24 (stepped word))) (top24 (stepped word)) small exact;
      alive = step_alive word;
    }

-- what the program returns
abbrev returned : ℕ → Draw
returned word =
    record {
      word = stepped word;
      value = Ieee.div binary32 (Ieee.of_int binary32 (pos (stepped word * 0x2545F4914F6CDD1D % 2 ^ 64 / 2 ^ 40))) (fin false 1 (pos 24));
    }

returned_is : (word : ℕ) → returned word ≡ drawn word
unfolding drawn top24 output
returned_is word =
    ap (λ (v : Float). record { word = stepped word; value = v })
    (fraction_is (stepped word * 0x2545F4914F6CDD1D % 2 ^ 64 / 2 ^ 40) (top_lt (stepped word * 0x2545F4914F6CDD1D)))

pub returns : goal.returns
unfolding stepped xor_shr xor_shl Ieee.of_bits
returns c =
    let is = returned_is c.args.word in
    record { value = is; drawn_from = subst (λ (d : Draw). DrawnFrom c.args.word d) (sym is) (drawn_from c.args.word) }
