-- The strength differs from 2 ^ (4 × curve) by less than one part in 2 ^ 23: the rule of its entry, and half of the last digit that is kept. Assumes nothing.
use Rattle.std.proofs.Common.{◌≡◌, ℕ, ◌+◌, ◌-◌, ◌*◌, ◌^◌, ◌<◌, ◌≤◌, min, Bool, true, false, cond, T, ◌⊎◌, sym, ap, ◌∙◌, inl, inr, true≢false, le_trans, le_of_eq, lt_of_lt_of_le, lt_of_le_of_lt, mul-le-mul_right, mul_assoc, mul_comm, mul-lt-mul_of_pos_right, mul-pos, suc-ne-zero, le_of_mul-le-mul_right, mul-div_cancel, mul_left_comm, arith, lit<, pow_pos, pow-add}
use native.Mathlib.Nat.{eq_of_mul-eq-mul_right}
use lib.Ieee.{Float, nan, inf, fin, up, down, binary32, of_bits, is_nan}
use lib.Ieee.Exact.{HasValue}
use lib.Ieee.Fits.{down_pos}
use Rattle.floatlaws.specs.Size.{Sized}
use Rattle.floatlaws.specs.Multiples.{multiples_in}
use Rattle.bend.specs.Grid.{clamped_curve, grid_index}
use Rattle.bend.specs.Strengths.{octave_of, strength_at, strength_of, Close, Near, StrengthRule}
use Rattle.bend.proofs.Rule.{entries_rule, entry_least}
use Rattle.bend.proofs.Grid.{clamped_size}
use Rattle.bend.proofs.Powers.{pow_pow, above_root, below_root}
use Rattle.bend.proofs.Pattern.{cut, cut_low, cut_high, entry_index, entry_at, field_at, pattern, entry_index_most, strength_value, strength_is}

-- ---- at the index i: 2 ^ (4 × curve) is the 256th root of 2 ^ (i - 1024) or, below 1024, of 1 / 2 ^ (1024 - i)

module _ (i : ℕ) (H : i ≤ 2048) (a c : ℕ) (C : 0 < c) (A : a * 2 ^ 149 ≡ cut (entry_at i) * 2 ^ field_at i * c) where
  abbrev v : ℕ
  v = 2 ^ octave_of i

  -- with which both powers are made whole 256th powers, but for the entry's own
  abbrev f : ℕ
  f = 2 ^ (min i 1024 + 7680)

  numerator : 2 ^ (i - 1024) * f ≡ v ^ 256 * 2 ^ (7680 + entry_index i)
  numerator =
      sym (pow-add 2 (i - 1024) (min i 1024 + 7680))
      ∙ ap (λ (z : ℕ). 2 ^ z) split
      ∙ pow-add 2 (256 * octave_of i) (7680 + entry_index i)
      ∙ ap (λ (z : ℕ). z * 2 ^ (7680 + entry_index i)) (sym (pow_pow 2 (octave_of i) 256))
    where
      split : i - 1024 + (min i 1024 + 7680) ≡ 256 * octave_of i + (7680 + entry_index i)
      split = omega arith

  denominator : 2 ^ (1024 - i) * f ≡ (2 ^ 34) ^ 256
  denominator = sym (pow-add 2 (1024 - i) (min i 1024 + 7680)) ∙ ap (λ (z : ℕ). 2 ^ z) split
    where
      split : 1024 - i + (min i 1024 + 7680) ≡ 8704
      split = omega arith

  digits : 2 ^ 23 * a * 2 ^ 34 ≡ cut (entry_at i) * 2 ^ 30 * (c * v)
  digits =
      eq_of_mul-eq-mul_right (2 ^ 92) (pow_pos 92) (2 ^ 23 * a * 2 ^ 34) (cut (entry_at i) * 2 ^ 30 * (c * v))
      (one (2 ^ 23) a (2 ^ 34) (2 ^ 92) ∙ A ∙ ap (λ (z : ℕ). cut (entry_at i) * z * c) (pow-add 2 (octave_of i) 122) ∙ two (cut (entry_at i)) v (2 ^ 30) (2 ^ 92) c)
    where
      one : (x a y z : ℕ) → x * a * y * z ≡ a * (x * y * z)
      one x a y z = simp (mul_assoc, mul_left_comm)

      two : (g v x z c : ℕ) → g * (v * (x * z)) * c ≡ g * x * (c * v) * z
      two g v x z c = simp (mul_assoc, mul_comm, mul_left_comm)

  regroup : (p c v e : ℕ) → p * c * v * e ≡ p * e * (c * v)
  regroup p c v e = simp (mul_assoc, mul_comm, mul_left_comm)

  -- with the entry's root from e up to e + 1, and the digits within 64 of e
  pub close_at : Close (2 ^ (i - 1024)) (2 ^ (1024 - i)) a c
  close_at =
      let r = entries_rule (entry_index i) (entry_index_most i H) in
      let least = entry_least (entry_index i) (entry_index_most i H) in
      let G : 0 < c * v = mul-pos C (pow_pos (octave_of i)) in (
        above_root 256 (2 ^ 23 - 1) c (2 ^ 23 * a) (2 ^ (i - 1024)) (2 ^ (1024 - i)) f v (2 ^ 34) (entry_at i) (2 ^ (7680 + entry_index i)) numerator denominator
            (mul-pos (mul-pos (lit< tt) C) (pow_pos (octave_of i))) r.1
            (le_trans (le_of_eq (regroup (2 ^ 23 - 1) c v (entry_at i + 1))) (le_trans (mul-le-mul_right (c * v) (low (entry_at i) (cut (entry_at i)) least (cut_low (entry_at i)))) (le_of_eq (sym digits)))),
        below_root 256 (2 ^ 23 + 1) c (2 ^ 23 * a) (2 ^ (i - 1024)) (2 ^ (1024 - i)) f v (2 ^ 34) (entry_at i) (2 ^ (7680 + entry_index i)) numerator denominator
            (suc-ne-zero 255) r.0
            (lt_of_le_of_lt (le_of_eq digits) (lt_of_lt_of_le (mul-lt-mul_of_pos_right (high (entry_at i) (cut (entry_at i)) least (cut_high (entry_at i))) G) (le_of_eq (sym (regroup (2 ^ 23 + 1) c v (entry_at i)))))),
      )
    where
      low : (e g : ℕ) → 1073741824 ≤ e → e ≤ 128 * g + 64 → 8388607 * (e + 1) ≤ g * 1073741824
      low e g h l = omega arith

      high : (e g : ℕ) → 1073741824 ≤ e → 128 * g ≤ e + 64 → g * 1073741824 < 8388609 * e
      high e g h l = omega arith

near_value : (i : ℕ) → i ≤ 2048 → (x : Float) → HasValue x false (cut (entry_at i) * 2 ^ field_at i) (2 ^ 149) → Near (2 ^ (i - 1024)) (2 ^ (1024 - i)) x
near_value i H nan v = v
near_value i H (inf s) v = v
near_value i H (fin true m g) v = absurd (true≢false v.0)
near_value i H (fin false m g) v = close_at i H (m * up g) (down g) (down_pos g) v.1

near_at : (i : ℕ) → i ≤ 2048 → Near (2 ^ (i - 1024)) (2 ^ (1024 - i)) (strength_at i)
near_at i H = rw (strength_is i H) (near_value i H (of_bits binary32 (pattern i)) (strength_value i H))

-- ---- a curve of n / 1024 or -n / 1024

abbrev index : Bool → ℕ → ℕ
index s n = cond s (1024 - n) (1024 + n)

powers : (i a b : ℕ) → i ≤ 2048 → i - 1024 ≡ a → 1024 - i ≡ b → Near (2 ^ a) (2 ^ b) (strength_at i)
powers i a b H p q = rw (← p, ← q) (near_at i H)

near_index : (s : Bool) (n : ℕ) → n ≤ 1024 → Near (cond s 1 (2 ^ n)) (cond s (2 ^ n) 1) (strength_at (index s n))
near_index true n N = powers (1024 - n) 0 n (omega arith) (omega arith) (omega arith)
near_index false n N = powers (1024 + n) n 0 (omega arith) (omega arith) (omega arith)

index_is : (x : Float) (s : Bool) (n : ℕ) → HasValue x s n 1024 → grid_index x ≡ index s n
unfolding grid_index multiples_in
index_is nan s n v = absurd v
index_is (inf t) s n v = absurd v
index_is (fin t m g) s n v = rw (v.0, v.1, mul-div_cancel n (down_pos g))

most : (x : Float) (s : Bool) (n : ℕ) → T (is_nan x) ⊎ Sized x 1 → HasValue x s n 1024 → n ≤ 1024
unfolding is_nan
most nan s n h v = absurd v
most (inf t) s n h v = absurd v
most (fin t m g) s n (inl h) v = absurd h
most (fin t m g) s n (inr h) v = le_of_mul-le-mul_right (le_trans (le_of_eq (sym v.1)) (times (m * up g) (down g) h)) (down_pos g)
  where
    times : (a c : ℕ) → a ≤ 1 * c → a * 1024 ≤ 1024 * c
    times a c h = omega arith

pub strength_rule : StrengthRule
unfolding strength_of
strength_rule curve s n v = rw (index_is (clamped_curve curve) s n v) (near_index s n (most (clamped_curve curve) s n (clamped_size curve) v))
