-- At tempo 0 a synced span is 10 ^ 15 samples, for every division and every bar of 1/4 to 64 beats. Assumes nothing.
use mathlib.Core.Path.{◌≡◌, refl, sym, ap, ◌∙◌, subst}
use mathlib.Core.Bool.{Bool, true, false, cond}
use Prim.Native.Nat.{ℕ, suc, ◌+◌, ◌*◌, ◌/◌, ◌%◌, ◌^◌, ◌≤◌, ◌<◌}
use native.Mathlib.Nat.{le_trans, le_of_eq, le_step, zero-lt-suc, mul-pos, mul-one, mul_comm, mul_assoc, mul-le-mul_left, mul-le-mul_right, le-div_iff_mul-le}
use native.Mathlib.Omega.{arith}
use lib.Dec.{T, leb, lit≤}
use lib.IntN.{pos, negsuc}
use lib.Ieee.{Float, nan, inf, fin, binary64, up, down, round, div, lt, eq, le, is_nan, of_bits, to_unsigned}
use lib.Ieee.Bits.{is_true}
use lib.Ieee.Fits.{down_pos}
use lib.Ieee.Order.{round_mono}
use Rattle.floatlaws.specs.Extrema.{max_of, clamp_of}
use Rattle.floatlaws.specs.Whole.{whole_of, whole_size, to_half}
use Rattle.floatlaws.proofs.Order.{le_says, le_not_lt, lt→le, lt_of_lt_of_le_at, lt_trans_at}
use Rattle.floatlaws.proofs.Extrema.{clamp_high}
use Rattle.floatlaws.specs.Numbers.{f64_0, f64_least, f64_longest}
use Rattle.settings.specs.Divisions.{beats_of, span_division}
use Rattle.settings.specs.Times.{clamped_span}
use Rattle.clock.specs.Spans.{length_of, span_length, samples_of}
use Rattle.floatlaws.specs.Size.{Least}
use Rattle.floatlaws.proofs.Size.{div_is}
use Rattle.reach.specs.Laws.{StoppedSpan}
use Rattle.reach.proofs.Prepared.{beats_in}

abbrev large : Float
large = fin false 1 (pos 60)

large_is : round binary64 false (2 ^ 60) 1 ≡ large
unfolding round
large_is = refl

-- 1 / 128 or more, divided by 2 ^ -1022
quotient_large : (x : Float) → Least x 1 128 → T (le large (div binary64 x f64_least))
unfolding of_bits
quotient_large nan h = absurd h
quotient_large (inf s) h = absurd h
quotient_large (fin true m e) h = absurd h
quotient_large (fin false m e) h =
    subst (λ (z : Float). T (le large z)) (sym (div_is false false m 0 e (negsuc 1021)))
    (subst (λ (z : Float). T (le z (round binary64 false (m * up e * 2 ^ 1022) (1 * 1 * down e)))) large_is
    (round_mono binary64 (2 ^ 60) 1 (m * up e * 2 ^ 1022) (1 * 1 * down e) (zero-lt-suc 0) (mul-pos (zero-lt-suc 0) (down_pos e)) (far (m * up e) (down e) h)))
  where
    far : (n d : ℕ) → 1 * d ≤ 128 * n → 2 ^ 60 * (1 * 1 * d) ≤ n * 2 ^ 1022 * 1
    far n d h = scaled (2 ^ 60) (2 ^ 1022) (lit≤ tt)
      where
        scaled : (a c : ℕ) → a * 128 ≤ c → a * (1 * d) ≤ n * c * 1
        scaled a c k = le_trans (mul-le-mul_left a h) (le_trans (le_of_eq (sym (mul_assoc a 128 n))) (le_trans (mul-le-mul_right n k) (le_of_eq (mul_comm c n ∙ sym (mul-one (n * c))))))

-- a large float to the nearest whole number
whole_large : (y : Float) → T (le large y) → T (lt f64_longest (whole_of binary64 to_half y))
unfolding whole_of of_bits
whole_large nan h = absurd (unfold le in h)
whole_large (inf true) h = absurd (unfold le in h)
whole_large (inf false) h = unfold lt in tt
whole_large (fin true m e) h = absurd (clash (m * up e) (down e) (down_pos e) (le_says false true (1 * 2 ^ 60 * down e) (m * up e * 1) (unfold le in h)))
  where
    clash : (n d : ℕ) → 0 < d → 1 * 2 ^ 60 * d + n * 1 ≤ 0 + 0 → ⊥
    clash n d D h = omega arith
whole_large (fin false m e) h =
    let q = whole_size to_half false (m * up e) (down e) in
    lt_of_lt_of_le_at f64_longest (round binary64 false (2 ^ 60) 1) (round binary64 false q 1) (unfold lt round in tt)
    (round_mono binary64 (2 ^ 60) 1 q 1 (zero-lt-suc 0) (zero-lt-suc 0)
    (tidy q (at_least (leb (down e) (m * up e % down e * 2)) (m * up e / down e) ((le-div_iff_mul-le (down_pos e)).1 (plain (m * up e) (down e) (le_says false false (1 * 2 ^ 60 * down e) (m * up e * 1) (unfold le in h)))))))
  where
    plain : (n d : ℕ) → 1 * 2 ^ 60 * d + 0 ≤ n * 1 + 0 → 2 ^ 60 * d ≤ n
    plain n d h = omega arith

    at_least : (b : Bool) (q : ℕ) → 2 ^ 60 ≤ q → 2 ^ 60 ≤ cond b (suc q) q
    at_least true q h = le_step h
    at_least false q h = h

    tidy : (q : ℕ) → 2 ^ 60 ≤ q → 2 ^ 60 * 1 ≤ q * 1
    tidy q h = omega arith

capped : (w : Float) → T (lt f64_longest w) → clamp_of w f64_0 f64_longest ≡ f64_longest
capped w h =
    let above = lt_trans_at f64_0 f64_longest w (unfold lt of_bits in tt) h in
    sym (clamp_high w f64_0 f64_longest (le_not_lt w f64_0 (lt→le f64_0 w above)) (is_true (lt f64_longest w) h))

no_beat : max_of f64_0 f64_least ≡ f64_least
unfolding max_of of_bits lt eq is_nan
no_beat = refl

cap_is : to_unsigned 64 f64_longest ≡ 10 ^ 15
unfolding to_unsigned of_bits
cap_is = refl

pub stopped_span : StoppedSpan
unfolding samples_of span_length length_of clamped_span
stopped_span d b e S A =
    let x = beats_of (span_division d) b.beats_per_bar in
    let h = whole_large (div binary64 x f64_least) (quotient_large x (beats_in (span_division d) b.beats_per_bar S A).1.least) in
    ap (λ (z : Float). to_unsigned 64 (clamp_of (whole_of binary64 to_half (div binary64 x z)) f64_0 f64_longest)) (ap (λ (z : Float). max_of z f64_least) e ∙ no_beat)
    ∙ ap (to_unsigned 64) (capped (whole_of binary64 to_half (div binary64 x f64_least)) h)
    ∙ cap_is
