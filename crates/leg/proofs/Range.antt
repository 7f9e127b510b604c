-- Every leg is the nearest root, on the paper that of what lies between its ends; it lies within 0 to 2, which the laws of a path's times ask; and it is 0 or at least one square. Assumes nothing.
use Rattle.std.proofs.Common.{◌≡◌, ℕ, ◌+◌, ◌^◌, ◌<◌, ◌≤◌, false, T, ◌⊎◌, sym, refl, ap, ◌∙◌, inl, inr, zero-le, le_trans, le_of_eq, lt_of_lt_of_le, add-le-add, lt_irrefl, mul-le-mul_right, eq-zero-or-pos, mul-le-mul_left, mul-one, arith, lit<, lit≤, pow_pos}
use lib.Ieee.{Float, binary32, of_bits, round, le}
use lib.Ieee.Bits.{of_bits-fits}
use lib.Ieee.Exact.{HasValue}
use lib.Ieee.Order.{le_of_values}
use Rattle.floatlaws.specs.Numbers.{Between, f32, f32_0, f32_2}
use Rattle.leg.specs.Paper.{squares_of, apart, sum_of_squares}
use Rattle.leg.specs.Root.{Units, NearestRoot, root_of, leg_of, LegRule, LegIn, LegLeast}
use Rattle.leg.proofs.Halves.{le_or_lt, sq_le}
use Rattle.leg.proofs.Roots.{none_is, root_nearest}
use Rattle.leg.proofs.Coordinates.{squares_most, paper_exact}

two : HasValue f32_2 false 2 1
unfolding of_bits
two = (refl, refl)

two_units : Units f32_2 (2 ^ 150)
unfolding of_bits
two_units = (of_bits-fits binary32 0x4000_0000, (refl, refl))

none : HasValue f32_0 false 0 1
unfolding of_bits
none = (refl, refl)

nearest_in : (n : ℕ) (r : Float) → n ≤ 2 ^ 25 → NearestRoot n r → Between f32_0 r f32_2
nearest_in n r few z =
    let u = z.units in
    (le_of_values f32_0 r 0 1 u (2 ^ 149) (lit< tt) (pow_pos 149) none z.held.1 zero-le, le_of_values r f32_2 u (2 ^ 149) 2 1 (pow_pos 149) (lit< tt) z.held.1 two (le_trans (le_of_eq (mul-one u)) (go (le_or_lt u (2 ^ 150)))))
  where
    far : (u p : ℕ) → p < u → p + p ≤ u + p
    far u p h = omega arith

    go : (z.units ≤ 2 ^ 150) ⊎ (2 ^ 150 < z.units) → z.units ≤ 2 ^ 150
    go (inl k) = k
    go (inr k) = absurd (lt_irrefl _ (lt_of_lt_of_le (z.below f32_2 (2 ^ 150) two_units k) (le_trans (mul-le-mul_left 4 (mul-le-mul_right (4 ^ 137) few)) (le_trans (lit≤ tt) (sq_le (far z.units (2 ^ 150) k))))))

sum_most : (ax ay bx by : Float) → sum_of_squares ax ay bx by ≤ 2 ^ 25
sum_most ax ay bx by = add-le-add (sq_le (gap_most ax bx)) (sq_le (gap_most ay by))
  where
    gap_most : (a b : Float) → apart (squares_of a) (squares_of b) ≤ 4096
    gap_most a b = go (squares_of a) (squares_of b) (squares_most a) (squares_most b)
      where
        go : (i j : ℕ) → i ≤ 4096 → j ≤ 4096 → apart i j ≤ 4096
        go i j h k = omega arith

pub leg_nearest : (ax ay bx by : Float) → NearestRoot (sum_of_squares ax ay bx by) (leg_of ax ay bx by)
leg_nearest ax ay bx by = root_nearest (sum_of_squares ax ay bx by) (sum_most ax ay bx by)

pub leg_between : LegRule
leg_between ax ay bx by a b c d =
    record {
      from_x = squares_of ax;
      from_y = squares_of ay;
      to_x = squares_of bx;
      to_y = squares_of by;
      from = (paper_exact ax a, paper_exact ay b);
      to = (paper_exact bx c, paper_exact by d);
      nearest = leg_nearest ax ay bx by;
    }

pub leg_in : LegIn
leg_in ax ay bx by = nearest_in (sum_of_squares ax ay bx by) (leg_of ax ay bx by) (sum_most ax ay bx by) (leg_nearest ax ay bx by)

-- ---- a leg is 0 or at least one square

abbrev one_square : Float
one_square = of_bits binary32 0x3980_0000

square_value : HasValue one_square false 1 4096
unfolding of_bits
square_value = (refl, refl)

square_units : Units one_square (2 ^ 137)
unfolding of_bits
square_units = (of_bits-fits binary32 0x3980_0000, (refl, refl))

root_least : (n : ℕ) (r : Float) → 0 < n → NearestRoot n r → T (le one_square r)
root_least n r some z =
    let u = z.units in
    le_of_values one_square r 1 4096 u (2 ^ 149) (lit< tt) (pow_pos 149) square_value z.held.1 (le_trans (lit≤ tt) (mul-le-mul_right 4096 (go (le_or_lt (2 ^ 137) u))))
  where
    near : (u p : ℕ) → u < p → u + p ≤ p + p
    near u p h = omega arith

    go : (2 ^ 137 ≤ z.units) ⊎ (z.units < 2 ^ 137) → 2 ^ 137 ≤ z.units
    go (inl k) = k
    go (inr k) = absurd (lt_irrefl _ (lt_of_lt_of_le (z.above one_square (2 ^ 137) square_units k) (le_trans (sq_le (near z.units (2 ^ 137) k)) (le_trans (lit≤ tt) (mul-le-mul_left 4 (mul-le-mul_right (4 ^ 137) some))))))

one_square_is : one_square ≡ f32 1 4096
unfolding of_bits round
one_square_is = refl

pub leg_least : LegLeast
leg_least ax ay bx by = rw (sym one_square_is) (go (sum_of_squares ax ay bx by) (leg_nearest ax ay bx by) (eq-zero-or-pos (sum_of_squares ax ay bx by)))
  where
    go : (n : ℕ) → NearestRoot n (root_of n) → (n ≡ 0) ⊎ (0 < n) → (root_of n ≡ f32_0) ⊎ T (le one_square (root_of n))
    go n z (inl e) = inl (ap root_of e ∙ sym none_is.is)
    go n z (inr h) = inr (root_least n (root_of n) h z)
