-- What the proof of `floor_to_i64` cites: with +0 added, the floor of an x of less than 2 ^ 51 in size is a whole number that the cast takes, and the cast gives the same integer. Assumes nothing.
use Rattle.std.proofs.Common.{◌≡◌, ℕ, zero, suc, ◌+◌, ◌-◌, ◌*◌, ◌^◌, ◌≤◌, Bool, true, false, cond, T, ltb, pos, sym, refl, ap, ◌∙◌, subst, zero-le, le_trans, lt_of_le_of_lt, zero-lt-suc, mul-one, arith, lit<, lit≤, le→leb, lt→ltb}
use lib.Arith.{le→nltb}
use lib.Ieee.{Float, nan, inf, fin, binary64, up, down, round, add, lt, of_int, to_signed, in_signed, in_float, whole}
use lib.Ieee.Back.{round_whole, positive_back, negative_back}
use lib.Ieee.Bits.{is_true, is_false}
use Rattle.floatlaws.specs.Whole.{to_floor, whole_size, whole_of}
use Rattle.floatlaws.proofs.Values.{add_by_value, sum_like, sum_unlike}
use Rattle.whole.proofs.Near.{top, bottom, size_most}

abbrev pub nought : Float
nought = fin false 0 (pos 0)

-- a cast that is taken, of what the floor r becomes, to the integer of r
abbrev pub Cast : Float → Float → Type 0
Cast y r = T (in_signed binary64 63 y) × (to_signed 63 y ≡ to_signed 63 r)

plus_nought : (c : ℕ) → c ≤ 2 ^ 53 → add binary64 (round binary64 false c 1) nought ≡ round binary64 false c 1
plus_nought c h =
    add_by_value (round binary64 false c 1) nought false false c 1 0 1 (zero-lt-suc 0) (zero-lt-suc 0) binary64 (round_whole binary64 false c h) (refl, refl)
    ∙ sum_like binary64 false (c * 1) (0 * 1) (1 * 1)
    ∙ ap (λ (z : ℕ). round binary64 false z 1) (tidy c)
  where
    tidy : (c : ℕ) → c * 1 + 0 * 1 ≡ c
    tidy c = omega arith

minus_nought : (c : ℕ) → suc c ≤ 2 ^ 53 → add binary64 (round binary64 true (suc c) 1) nought ≡ round binary64 true (suc c) 1
minus_nought c h =
    add_by_value (round binary64 true (suc c) 1) nought true false (suc c) 1 0 1 (zero-lt-suc 0) (zero-lt-suc 0) binary64 (round_whole binary64 true (suc c) h) (refl, refl)
    ∙ sum_unlike binary64 true (suc c * 1) (0 * 1) (1 * 1)
    ∙ ap (λ (z : ℕ). cond (ltb z 0) (round binary64 false (0 - z) 1) (round binary64 (ltb 0 z) (z - 0) 1)) (mul-one (suc c))
    ∙ ap (λ (b : Bool). cond b (round binary64 false (0 - suc c) 1) (round binary64 (ltb 0 (suc c)) (suc c - 0) 1)) (is_false (ltb (suc c) 0) (le→nltb (suc c) 0 zero-le))
    ∙ ap (λ (b : Bool). round binary64 b (suc c - 0) 1) (is_true (ltb 0 (suc c)) (lt→ltb 0 (suc c) (zero-lt-suc c)))
    ∙ ap (λ (z : ℕ). round binary64 true z 1) (tidy c)
  where
    tidy : (c : ℕ) → suc c - 0 ≡ suc c
    tidy c = omega arith

nought_nought : add binary64 (round binary64 true 0 1) nought ≡ nought
unfolding add round
nought_nought = refl

sized : (s : Bool) (c : ℕ) → c ≤ 2 ^ 51 → Cast (add binary64 (round binary64 s c 1) nought) (round binary64 s c 1)
unfolding of_int in_float
sized false c h =
    let e = plus_nought c (le_trans h (lit≤ tt)) in
    let k = positive_back binary64 63 c (le→leb c (2 ^ 53) (le_trans h (lit≤ tt))) (lt_of_le_of_lt h (lit< tt)) in
    (subst (λ (y : Float). T (in_signed binary64 63 y)) (sym e) k.0, ap (to_signed 63) e)
sized true zero h = (
  subst (λ (y : Float). T (in_signed binary64 63 y)) (sym nought_nought) (unfold in_signed whole in tt),
  ap (to_signed 63) nought_nought ∙ (unfold to_signed round in refl),
)
sized true (suc c) h =
    let e = minus_nought c (le_trans h (lit≤ tt)) in
    let k = negative_back binary64 63 c (lt→ltb c (2 ^ 53) (le_trans h (lit≤ tt))) (le_trans h (lit≤ tt)) in
    (subst (λ (y : Float). T (in_signed binary64 63 y)) (sym e) k.0, ap (to_signed 63) e)

floor_cast : (x : Float) → T (lt bottom x) → T (lt x top) → Cast (add binary64 (whole_of binary64 to_floor x) nought) (whole_of binary64 to_floor x)
unfolding whole_of
floor_cast nan lo hi = absurd (unfold lt in lo)
floor_cast (inf true) lo hi = absurd (unfold lt in lo)
floor_cast (inf false) lo hi = absurd (unfold lt in hi)
floor_cast (fin s m e) lo hi = sized s (whole_size to_floor s (m * up e) (down e)) (size_most s m e lo hi)

pub cast : (x r : Float) → T (lt bottom x) → T (lt x top) → r ≡ whole_of binary64 to_floor x → Cast (add binary64 r nought) (whole_of binary64 to_floor x)
cast x r lo hi h = subst (λ (z : Float). Cast (add binary64 z nought) (whole_of binary64 to_floor x)) (sym h) (floor_cast x lo hi)
