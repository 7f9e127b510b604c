-- `root_of` is the nearest f32 and the only one, and what the proof of `root` cites: how far n is scaled, and the pattern that is made. Assumes nothing.
use Rattle.std.proofs.Common.{◌≡◌, ℕ, suc, ◌+◌, ◌-◌, ◌*◌, ◌/◌, ◌%◌, ◌^◌, ◌<◌, ◌≤◌, false, eqb, ◌⊎◌, sym, refl, ap, ◌∙◌, subst, inl, inr, le_trans, le_of_eq, lt_of_lt_of_le, lt_of_le_of_lt, lt_irrefl, mul-le-mul_right, mod-eq_of_lt, mul_assoc, mul_comm, eq-zero-or-pos, mul-lt-mul_of_pos_right, mul-pos, zero-add, arith, lit<, lit≤, pow_pos, pow_mono, pow-add, ne_eqb}
use lib.Count.{count_leading_zeros, leading_top}
use lib.Ieee.{binary32, of_bits}
use lib.Ieee.Bits.{of_bits-fits}
use lib.Ieee.Exact.{HasValue}
use Rattle.floatlaws.specs.Numbers.{f32_0}
use Rattle.floatlaws.proofs.Cut.{pattern_value}
use Rattle.leg.specs.Paper.{◌²}
use Rattle.leg.specs.Root.{NearestRoot, Half, scale_of, significand_of, root_of, RootRule, IsLeg}
use Rattle.leg.proofs.Halves.{le_or_lt, sq_le, half_unique, halved_half}
use Rattle.leg.proofs.Nearest.{four_pow, nearest, nearest_unique}

-- ---- the scale

-- n by s fours has 47 or 48 digits
pub record Scaled (n s : ℕ) : Type 0 where
  pub most : s ≤ 23
  pub big : 2 ^ 46 ≤ n * 4 ^ s
  pub small : n * 4 ^ s < 2 ^ 48

four_twice : (s : ℕ) → 4 ^ s ≡ 2 ^ (s + s)
four_twice s = four_pow s ∙ sym (pow-add 2 s s)

module _ (n : ℕ) (some : 0 < n) (few : n ≤ 2 ^ 25) where
  top : (j : ℕ) × (count_leading_zeros 64 n + suc j ≡ 64) × (2 ^ j ≤ n) × (n < 2 ^ suc j)
  top = leading_top 64 n some (lt_of_le_of_lt few (lit< tt))

  low_top : top.0 ≤ 25
  low_top = go top.0 top.2 (le_or_lt top.0 25)
    where
      go : (j : ℕ) → 2 ^ j ≤ n → (j ≤ 25) ⊎ (25 < j) → j ≤ 25
      go j h (inl k) = k
      go j h (inr k) = absurd (lt_irrefl (2 ^ 25) (lt_of_lt_of_le (lit< tt) (le_trans (pow_mono k) (le_trans h few))))

  pub zeros : 16 ≤ count_leading_zeros 64 n
  zeros = omega (arith, top.1, low_top)

  pub scaled : Scaled n (scale_of n)
  scaled = go (count_leading_zeros 64 n) top.0 top.1 low_top top.2 top.3
    where
      go : (z j : ℕ) → z + suc j ≡ 64 → j ≤ 25 → 2 ^ j ≤ n → n < 2 ^ suc j → Scaled n ((z - 16) / 2)
      go z j e h lo hi =
          let s = (z - 16) / 2 in
          let a : 46 ≤ j + (s + s) = omega arith in
          let b : suc j + (s + s) ≤ 48 = omega arith in
          record {
            most = omega arith;
            big = le_trans (pow_mono a) (le_trans (le_of_eq (pow-add 2 j (s + s) ∙ ap (λ (x : ℕ). 2 ^ j * x) (sym (four_twice s)))) (mul-le-mul_right (4 ^ s) lo));
            small = lt_of_lt_of_le (mul-lt-mul_of_pos_right hi (subst (λ (x : ℕ). 0 < x) (sym (four_twice s)) (pow_pos (s + s)))) (le_trans (le_of_eq (ap (λ (x : ℕ). 2 ^ suc j * x) (four_twice s) ∙ sym (pow-add 2 (suc j) (s + s)))) (pow_mono b));
          }

-- the shift that scales
shift : (n s : ℕ) → n * 2 ^ (2 * s + 2) ≡ 4 * (n * 4 ^ s)
shift n s =
    ap (λ (x : ℕ). n * x) (pow-add 2 (2 * s) 2 ∙ ap (λ (x : ℕ). x * 4) (ap (λ (x : ℕ). 2 ^ x) (double s) ∙ sym (four_twice s)))
    ∙ sym (mul_assoc n (4 ^ s) 4)
    ∙ mul_comm (n * 4 ^ s) 4
  where
    double : (s : ℕ) → 2 * s ≡ s + s
    double s = omega arith

module _ (n s : ℕ) (p : Scaled n s) where
  abbrev y : ℕ
  y = 4 * (n * 4 ^ s)

  pub in_reach : (2 ^ 48 ≤ y) × (y < 2 ^ 50)
  in_reach = go (n * 4 ^ s) p.big p.small
    where
      go : (x : ℕ) → 70368744177664 ≤ x → x < 281474976710656 → (281474976710656 ≤ 4 * x) × (4 * x < 1125899906842624)
      go x a b = (omega arith, omega arith)

  pub shifted : n * 2 ^ (2 * s + 2) % 2 ^ 64 ≡ y
  shifted = ap (λ (x : ℕ). x % 2 ^ 64) (shift n s) ∙ mod-eq_of_lt (lt_of_lt_of_le in_reach.1 (lit≤ tt))

  -- ---- a significand

  sq_back : (a b : ℕ) → a ² < b ² → a < b
  sq_back a b h = go (le_or_lt b a)
    where
      go : (b ≤ a) ⊎ (a < b) → a < b
      go (inl k) = absurd (lt_irrefl (a ²) (lt_of_lt_of_le h (sq_le k)))
      go (inr k) = k

  module _ (m : ℕ) (half : Half y m) where
    pub at_least : 2 ^ 23 ≤ m
    at_least = go m (sq_back (2 ^ 24) (2 * m + 1) (lt_of_le_of_lt in_reach.0 half.1))
      where
        go : (m : ℕ) → 16777216 < 2 * m + 1 → 8388608 ≤ m
        go m h = omega arith

    pub at_most : m ≤ 2 ^ 24
    at_most = go m (sq_back (2 * m - 1) (2 ^ 25) (lt_of_le_of_lt half.0 in_reach.1))
      where
        go : (m : ℕ) → 2 * m - 1 < 33554432 → m ≤ 16777216
        go m h = omega arith

    abbrev pattern : ℕ
    pattern = (137 - s) * 8388608 + m

    pub value_at : HasValue (of_bits binary32 pattern) false (m * 2 ^ (137 - s)) (2 ^ 149)
    value_at = pattern_value binary32 (137 - s) m (λ (h : 0 < 137 - s). at_least) at_most (omega (arith, at_most))

    pub all_units : s + (137 - s) ≡ 137
    all_units = omega (arith, p.most)

    pub nearest_at : NearestRoot n (of_bits binary32 pattern)
    nearest_at = nearest n s (137 - s) m all_units half at_least p.big (of_bits binary32 pattern) (of_bits-fits binary32 pattern, value_at)

  pub significand_half : Half y (significand_of y)
  unfolding significand_of
  significand_half = halved_half 24 (2 ^ 23) y (le_trans (lit≤ tt) in_reach.0) (lt_of_lt_of_le in_reach.1 (lit≤ tt))

-- ---- the root

root_zero : NearestRoot 0 f32_0
root_zero = record { units = 0; held = (of_bits-fits binary32 0, unfold of_bits in (refl, refl)); above = λ x b u h. rw zero-add (mul-pos h h); below = λ x b u h. absurd (none b h) }
  where
    none : (b : ℕ) → b < 0 → ⊥
    none b h = omega arith

pub none_is : IsLeg 0 f32_0
unfolding root_of
none_is = record { is = refl; nearest = root_zero }

pub some_is : (n m : ℕ) → 0 < n → n ≤ 2 ^ 25 → Half (4 * (n * 4 ^ scale_of n)) m → IsLeg n (of_bits binary32 ((137 - scale_of n) * 8388608 + m))
unfolding root_of
some_is n m some few half =
    let s = scale_of n in
    let p = scaled n some few in
    record {
      is = rw (differs n some) (ap (λ (k : ℕ). of_bits binary32 ((137 - s) * 8388608 + k)) (half_unique (4 * (n * 4 ^ s)) m (significand_of (4 * (n * 4 ^ s))) half (significand_half n s p)));
      nearest = nearest_at n s p m half;
    }
  where
    differs : (n : ℕ) → 0 < n → eqb n 0 ≡ false
    differs n h = ne_eqb n 0 (λ (e : n ≡ 0). omega arith)

pub root_nearest : (n : ℕ) → n ≤ 2 ^ 25 → NearestRoot n (root_of n)
root_nearest n few = go (eq-zero-or-pos n)
  where
    go : (n ≡ 0) ⊎ (0 < n) → NearestRoot n (root_of n)
    go (inl e) = rw e (subst (NearestRoot 0) none_is.is none_is.nearest)
    go (inr h) =
        let l = some_is n (significand_of (4 * (n * 4 ^ scale_of n))) h few (significand_half n (scale_of n) (scaled n h few)) in
        subst (NearestRoot n) l.is l.nearest

pub root_rule : RootRule
root_rule n few = let z = root_nearest n few in (z, λ r y. nearest_unique n r (root_of n) y z)
