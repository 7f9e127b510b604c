-- The times of a path whose legs are 0 to 2 long: they ascend from 0, and where there is a segment they end at 1. Assumes nothing.
use mathlib.Core.Path.{◌≡◌, refl, sym, ◌∙◌, subst, fun_ext}
use mathlib.Core.Bool.{Bool, true, false}
use mathlib.Core.List.{List}
use Prim.Native.Nat.{ℕ, zero, suc, ◌+◌, ◌*◌, ◌≤◌, ◌<◌}
use native.Mathlib.Nat.{le_refl, mul-pos, zero-lt-suc, le_of_eq, mul-one}
use native.Mathlib.Omega.{arith}
use lib.IntN.{ℤ, pos}
use lib.Dec.{T, eqb, eqb→eq}
use lib.ListN.{get_or}
use lib.Ieee.{Float, nan, inf, fin, binary32, up, down, round, div, le, lt, fits, of_int, of_bits}
use lib.Ieee.Back.{round_whole}
use lib.Ieee.Fits.{up_pos, and_l, add-fits}
use lib.Ieee.Order.{round_mono}
use borrow.Author.Tests.{lt-ltb}
use Rattle.floatlaws.specs.Numbers.{Between, f32_0, f32_1, f32_2}
use Rattle.floatlaws.proofs.Tests.{yes_so}
use Rattle.floatlaws.proofs.NoNan.{Number}
use Rattle.floatlaws.proofs.Order.{le_left, le_refl_at}
use Rattle.floatlaws.proofs.Ascend.{steps_ascend}
use Rattle.floatlaws.proofs.Sums.{AtMost, Term, Positive, below_cross, round_at_most, sum_at_most, sum_grows, share_grows, share_all, share_none, share_number, positive_value, positive_above}
use Rattle.listlaws.proofs.Tabulation.{get_or_padded}
use Rattle.points.proofs.Floats.{zero_one}
use Rattle.path_segments.specs.Times.{sum_to, share_of, time_at, times_of, LegsIn}
use Rattle.path_segments.specs.Laws.{LegTimesRule}

-- ---- a leg

nothing : (n : ℕ) (d : ℤ) → 0 * down d ≡ n * up d * 1 → n ≡ 0
nothing zero d e = refl
nothing (suc n) d e = let p : 0 < suc n * up d = mul-pos (zero-lt-suc n) (up_pos d) in omega arith

leg_term : (y : Float) → Between f32_0 y f32_2 → Term 2 y
unfolding le of_bits
leg_term nan h = absurd h.0
leg_term (inf true) h = absurd h.0
leg_term (inf false) h = absurd h.1
leg_term (fin true n d) h = nothing n d (eqb→eq (0 * down d) (n * up d * 1) (and_l (eqb (0 * down d) (n * up d * 1)) _ h.0))
leg_term (fin false n d) h = let l : n * up d * 1 ≤ 2 * down d = below_cross (n * up d * 1) (2 * down d) h.1 in omega arith

-- ---- the running sums

module _ (legs : List Float) where
  sum_fits : (j : ℕ) → T (fits binary32 (sum_to legs j))
  unfolding sum_to
  sum_fits zero = unfold fits of_bits in tt
  sum_fits (suc j) = add-fits binary32 (sum_to legs j) (get_or legs j nan)

  module _ (n : ℕ) (ok : LegsIn legs n) (room : n ≤ 64) where
    sum_bound : (j : ℕ) → j ≤ n → AtMost (2 * j) (sum_to legs j)
    unfolding sum_to
    sum_bound zero h = unfold of_bits in le_refl 0
    sum_bound (suc j) h =
        let e : 2 * j + 2 ≡ 2 * suc j = omega arith in
        subst (λ (k : ℕ). AtMost k (sum_to legs (suc j))) e (sum_at_most binary32 (sum_to legs j) (get_or legs j nan) (2 * j) 2 (omega arith) (sum_bound j (omega arith)) (leg_term (get_or legs j nan) (ok j h)))

    sum_step : (j : ℕ) → j < n → T (le (sum_to legs j) (sum_to legs (suc j)))
    unfolding sum_to
    sum_step j h = sum_grows binary32 (sum_to legs j) (get_or legs j nan) (2 * j) 2 (sum_fits j) (sum_bound j (omega arith)) (leg_term (get_or legs j nan) (ok j h))

-- ---- shares of the last of some parts

-- n parts that ascend from 0 to a whole
record Parts (n : ℕ) (part : ℕ → Float) : Type 0 where
  bound : (j : ℕ) → j ≤ n → (k : ℕ) × AtMost k (part j)
  ascend : (j : ℕ) → j < n → T (le (part j) (part (suc j)))
  start : part 0 ≡ fin false 0 (pos 0)
  whole : Positive (part n)

-- what a sequence of times is to be: 0, .. 1
record Timed (n : ℕ) (time : ℕ → Float) : Type 0 where
  number : (j : ℕ) → j ≤ n → Number (time j)
  ascend : (j : ℕ) → j < n → T (le (time j) (time (suc j)))
  start : time 0 ≡ f32_0
  end : time n ≡ f32_1

rounded_zero : round binary32 false 0 1 ≡ f32_0
unfolding round of_bits
rounded_zero = refl

rounded_one : round binary32 false 1 1 ≡ f32_1
unfolding round of_bits
rounded_one = refl

shares : (n : ℕ) (part : ℕ → Float) → Parts n part → Timed n (λ j. div binary32 (part j) (part n))
shares n part p =
    record {
      number = λ j h. share_number binary32 (part j) (part n) (p.bound j h).0 (p.bound j h).1 p.whole;
      ascend = λ j h. share_grows binary32 (part j) (part (suc j)) (part n) (p.bound j (omega arith)).0 (p.bound (suc j) h).0 (p.bound j (omega arith)).1 (p.bound (suc j) h).1 p.whole (p.ascend j h);
      start = rw p.start (share_none binary32 (part n) p.whole ∙ rounded_zero);
      end = share_all binary32 (part n) p.whole ∙ rounded_one;
    }

-- ---- the parts of a path: the running sums, or where these are 0 the numbers of segments

zero_is : f32_0 ≡ fin false 0 (pos 0)
unfolding of_bits
zero_is = refl

counts : (n : ℕ) → 0 < n → n ≤ 64 → Parts n (λ j. of_int binary32 (pos j))
unfolding of_int
counts n some room =
    record {
      bound = λ j h. (j, round_at_most binary32 j 1 j (zero-lt-suc 0) (omega arith) (le_of_eq (sym (mul-one j))));
      ascend = λ j h. round_mono binary32 j 1 (suc j) 1 (zero-lt-suc 0) (zero-lt-suc 0) (omega arith);
      start = rounded_zero ∙ zero_is;
      whole = positive_value (round binary32 false n 1) n some (round_whole binary32 false n (omega arith));
    }

module _ (legs : List Float) (n : ℕ) (ok : LegsIn legs n) (room : n ≤ 64) where
  sums : T (lt f32_0 (sum_to legs n)) → Parts n (sum_to legs)
  unfolding sum_to
  sums above =
      record {
        bound = λ j h. (2 * j, sum_bound legs n ok room j h);
        ascend = sum_step legs n ok room;
        start = zero_is;
        whole = positive_above (sum_to legs n) (2 * n) (sum_bound legs n ok room n (le_refl n)) (subst (λ (z : Float). T (lt z (sum_to legs n))) zero_is above);
      }

  -- ---- the times

  time_share : lt f32_0 (sum_to legs n) ≡ true → (j : ℕ) → div binary32 (sum_to legs j) (sum_to legs n) ≡ time_at legs n j
  unfolding time_at share_of
  time_share e j = rw e

  time_even : 0 < n → lt f32_0 (sum_to legs n) ≡ false → (j : ℕ) → div binary32 (of_int binary32 (pos j)) (of_int binary32 (pos n)) ≡ time_at legs n j
  unfolding time_at share_of
  time_even some e j = rw (e, lt-ltb 0 n some)

  timed : 0 < n → Timed n (time_at legs n)
  timed some = go (lt f32_0 (sum_to legs n)) refl
    where
      go : (b : Bool) → lt f32_0 (sum_to legs n) ≡ b → Timed n (time_at legs n)
      go true e = subst (Timed n) (fun_ext (time_share e)) (shares n (sum_to legs) (sums (yes_so e)))
      go false e = subst (Timed n) (fun_ext (time_even some e)) (shares n (λ j. of_int binary32 (pos j)) (counts n some room))

no_segments : (legs : List Float) → time_at legs 0 0 ≡ f32_0
unfolding time_at share_of sum_to lt of_bits
no_segments legs = refl

time_start : (legs : List Float) (n : ℕ) → LegsIn legs n → n ≤ 64 → time_at legs n 0 ≡ f32_0
time_start legs zero ok room = no_segments legs
time_start legs (suc n) ok room = (timed legs (suc n) ok room (zero-lt-suc n)).start

time_le : (legs : List Float) (n : ℕ) → LegsIn legs n → n ≤ 64 → (i j : ℕ) → i ≤ j → j ≤ n → T (le (time_at legs n i) (time_at legs n j))
time_le legs zero ok room i j p q =
    let a : i ≡ 0 = omega arith in
    let b : j ≡ 0 = omega arith in
    rw (a, b, no_segments legs) (le_refl_at f32_0 (le_left f32_0 f32_1 zero_one))
time_le legs (suc n) ok room i j p q =
    let t = timed legs (suc n) ok room (zero-lt-suc n) in
    steps_ascend (time_at legs (suc n)) (suc n) t.number t.ascend i j p q

-- ---- in the array

pub times_rule : LegTimesRule
unfolding times_of
times_rule legs n ok room =
    record {
      ascend = λ i j p q. rw (at i (omega arith), at j q) (time_le legs n ok room i j p (omega arith));
      start = at 0 (zero-lt-suc n) ∙ time_start legs n ok room;
      end = λ some. at n (le_refl (suc n)) ∙ (timed legs n ok room some).end;
    }
  where
    at : (j : ℕ) → j < suc n → get_or (times_of legs n) j nan ≡ time_at legs n j
    at j h = unfold times_of in get_or_padded (time_at legs n) 65 f32_0 (suc n) j nan h
