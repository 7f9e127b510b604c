-- Two floats that lie apart, with two neighbouring multiples of 2^−p between them: such floats differ, and stay apart, on a finer grid, through a sum or a difference. Assumes nothing.
use mathlib.Core.Path.{◌≡◌, refl, sym, ap, ◌∙◌, subst}
use mathlib.Core.Bool.{true, false}
use Prim.Native.Nat.{ℕ, suc, ◌+◌, ◌-◌, ◌*◌, ◌/◌, ◌%◌, ◌^◌, ◌≤◌, ◌<◌}
use native.Mathlib.Nat.{pow-suc, le_refl, le_trans, le_of_eq, lt_of_le_of_lt, lt_of_lt_of_le, mul-pos, one-mul, mul_comm, mul_assoc, mul_right_comm, add-mul, suc-mul, mul-le-mul_right, mul-le-mul_left, mul-lt-mul_of_pos_right, le_of_mul-le-mul_right, div-add-mod', div-mul-le_self, mod-lt, sub-add_cancel}
use native.Mathlib.Omega.{arith}
use lib.Dec.{T, lt→ltb, lit≤}
use lib.Pow.{pow-add, pow_pos, pow_mono}
use lib.IntN.{pos}
use lib.Ieee.{Float, nan, inf, fin, binary64, emax, low, up, down, round, add, sub, lt, le, fits}
use lib.Ieee.Exact.{HasValue, round_exact}
use lib.Ieee.Fits.{down_pos}
use lib.Ieee.Order.{round_mono}
use lib.Ieee.Scale.{finite}
use Rattle.floatlaws.specs.Whole.{InUnit}
use Rattle.floatlaws.proofs.Order.{le_trans_at, le_refl_at, lt_of_le_of_lt_at, lt_of_lt_of_le_at, lt_irrefl_at}
use Rattle.floatlaws.proofs.NoNan.{finite_number}
use Rattle.floatlaws.proofs.Mono.{add_mono, sub_mono}
use Rattle.floatlaws.proofs.Sums.{below_cross}
use Rattle.floatlaws.proofs.Unit.{zero_float, unit_finite, at_most_one, signed_zero, less_is}
use Rattle.floatlaws.proofs.Values.{value_finite, lt_by_value, le_by_value, add_by_value, sum_like}

-- a multiple of 2^−p
abbrev pub step : ℕ → ℕ → Float
step p i = round binary64 false i (2 ^ p)

-- x is at most i / 2^p, and y at least the next multiple, which is at most B
pub record Spread (p B : ℕ) (x y : Float) : Type 0 where
  pub i : ℕ
  pub small : suc i ≤ B * 2 ^ p
  pub below : T (le x (step p i))
  pub above : T (le (step p (suc i)) y)

-- the multiples up to B are exact
abbrev pub Fine : ℕ → ℕ → Type 0
Fine p B = (p ≤ low binary64) × (B * 2 ^ p < 2 ^ 53)

next : (i : ℕ) → i ≤ suc i
next i = omega arith

part : (a b : ℕ) → a - b ≤ a
part a b = omega arith

pub step_value : (p i : ℕ) → p ≤ low binary64 → i < 2 ^ 53 → HasValue (step p i) false i (2 ^ p)
step_value p i h small =
    let k = low binary64 - p in
    let split : 2 ^ low binary64 ≡ 2 ^ k * 2 ^ p = ap (λ (z : ℕ). 2 ^ z) (sym (sub-add_cancel h)) ∙ pow-add 2 k p in
    round_exact binary64 false i (2 ^ p) i k (pow_pos p) small under (ap (λ (z : ℕ). i * z) split ∙ sym (mul_assoc i (2 ^ k) (2 ^ p)))
  where
    under : i * 2 ^ (low binary64 - p) < 2 ^ (low binary64 + suc (emax binary64))
    under =
        lt_of_lt_of_le (mul-lt-mul_of_pos_right small (pow_pos (low binary64 - p)))
        (le_trans (mul-le-mul_left (2 ^ 53) (pow_mono (part (low binary64) p))) (lit≤ tt))

-- ---- floats that lie apart

-- two fractions that are two steps apart, rounded
pub spread_round : (p B a c b d : ℕ) → 0 < c → 0 < d → (a * 2 ^ p + 2 * c) * d ≤ b * 2 ^ p * c → b ≤ B * d → Spread p B (round binary64 false a c) (round binary64 false b d)
spread_round p B a c b d C D h k =
    let P = 2 ^ p in
    let q = a * P / c in
    let reach : suc (suc q) * d ≤ b * P =
    le_of_mul-le-mul_right
    (le_trans (le_of_eq (mul_right_comm (suc (suc q)) d c)) (le_trans (mul-le-mul_right d (two q c (a * P) (suc-mul q c) (suc-mul (suc q) c) (div-mul-le_self (a * P) c))) h)) C in
    record {
      i = suc q;
      small = le_of_mul-le-mul_right (le_trans reach (le_trans (mul-le-mul_right P k) (le_of_eq (mul_right_comm B d P)))) D;
      below = round_mono binary64 a c (suc q) P C (pow_pos p) (over (a * P) (q * c) (a * P % c) (suc q * c) c (div-add-mod' (a * P) c) (suc-mul q c) (mod-lt (a * P) C));
      above = round_mono binary64 (suc (suc q)) P b d (pow_pos p) D reach;
    }
  where
    two : (q c n : ℕ) {x y : ℕ} → x ≡ q * c + c → y ≡ x + c → q * c ≤ n → y ≤ n + 2 * c
    two q c n e f h = omega arith

    over : (n x r y c : ℕ) → x + r ≡ n → y ≡ x + c → r < c → n ≤ y
    over n x r y c e f h = omega arith

-- and those farther out
spread_wider : (p B : ℕ) (x y v w : Float) → Spread p B x y → T (le v x) → T (le y w) → Spread p B v w
spread_wider p B x y v w s h k =
    record {
      i = s.i;
      small = s.small;
      below = le_trans_at v x (step p s.i) h s.below;
      above = le_trans_at (step p (suc s.i)) y w s.above k;
    }

-- and those outside a / c and what is one step on, E / c
spread_step : (p A a E c : ℕ) (x y v w : Float) → 0 < c → E * 2 ^ p ≡ c → a + E ≤ A * c → x ≡ round binary64 false a c → y ≡ round binary64 false (a + E) c
    → T (le v x) → T (le y w) → Spread (suc p) A v w
spread_step p A a E c x y v w C e h i j =
    spread_wider (suc p) A x y v w
    (rw (i, j)
    (spread_round (suc p) A a c (a + E) c C C
    (mul-le-mul_right c
    (le_of_eq (sym (add-mul a E (2 ^ suc p)
    ∙ ap (λ (z : ℕ). a * 2 ^ suc p + z) (ap (λ (z : ℕ). E * z) (pow-suc 2 p) ∙ sym (mul_assoc E (2 ^ p) 2) ∙ ap (λ (z : ℕ). z * 2) e ∙ mul_comm c 2)))))
    h))

-- ---- what is known of two that do

module _ (p B : ℕ) (x y : Float) (f : Fine p B) (s : Spread p B x y) where
  abbrev P : ℕ
  P = 2 ^ p

  abbrev lower : Float
  lower = step p s.i

  abbrev upper : Float
  upper = step p (suc s.i)

  lower_value : HasValue lower false s.i P
  lower_value = step_value p s.i f.0 (lt_of_le_of_lt (le_trans (next s.i) s.small) f.1)

  upper_value : HasValue upper false (suc s.i) P
  upper_value = step_value p (suc s.i) f.0 (lt_of_le_of_lt s.small f.1)

  lower_finite : T (finite lower)
  lower_finite = value_finite lower false s.i P lower_value

  upper_finite : T (finite upper)
  upper_finite = value_finite upper false (suc s.i) P upper_value

  -- they differ
  pub spread_apart : x ≡ y → ⊥
  spread_apart e = lt_irrefl_at y (subst (λ (z : Float). T (lt z y)) e less)
    where
      less : T (lt x y)
      less =
          lt_of_le_of_lt_at x lower y s.below
          (lt_of_lt_of_le_at lower upper y
          (subst T (sym (lt_by_value lower upper false false s.i P (suc s.i) P (pow_pos p) (pow_pos p) lower_value upper_value))
          (lt→ltb (s.i * P) (suc s.i * P) (mul-lt-mul_of_pos_right (le_refl (suc s.i)) (pow_pos p))))
          s.above)

  added : (l : Float) (L E : ℕ) → 0 < E → HasValue l false L E → L ≤ E → T (finite x) → T (finite y) → Spread (suc p) (suc B) (add binary64 l x) (add binary64 l y)
  added l L E EP v u X Y =
      let c = E * P in
      let i = s.i in
      let F = value_finite l false L E v in
      let sum : (z : Float) (j : ℕ) → HasValue z false j P → add binary64 l z ≡ round binary64 false (L * P + j * E) c =
      λ (z : Float) (j : ℕ) (w : HasValue z false j P). add_by_value l z false false L E j P EP (pow_pos p) binary64 v w ∙ sum_like binary64 false (L * P) (j * E) c in
      spread_step p (suc B) (L * P + i * E) E c (add binary64 l lower) (add binary64 l upper) (add binary64 l x) (add binary64 l y) (mul-pos EP (pow_pos p)) refl most
      (sum lower i lower_value) (sum upper (suc i) upper_value ∙ ap (λ (z : ℕ). round binary64 false z c) (sym (more (L * P) i E)))
      (add_mono binary64 l l x lower F F X lower_finite (le_refl_at l (finite_number l F)) s.below)
      (add_mono binary64 l l upper y F F upper_finite Y (le_refl_at l (finite_number l F)) s.above)
    where
      more : (k i E : ℕ) → k + i * E + E ≡ k + suc i * E
      more k i E = rw (suc-mul i E) (omega arith)

      most : L * P + s.i * E + E ≤ suc B * (E * P)
      most =
          le_trans (le_of_eq (more (L * P) s.i E))
          (le_trans (both (mul-le-mul_right P u) (le_trans (mul-le-mul_right E s.small) (le_of_eq (mul_assoc B P E ∙ ap (λ (z : ℕ). B * z) (mul_comm P E))))) (le_of_eq (sym (suc-mul B (E * P)))))
        where
          both : {a b c d : ℕ} → a ≤ b → c ≤ d → a + c ≤ d + b
          both h k = omega arith

  -- with a float from 0 to 1 added, which may be −0
  pub spread_add : (l : Float) → T (fits binary64 l) → InUnit l → T (finite x) → T (finite y) → Spread (suc p) (suc B) (add binary64 l x) (add binary64 l y)
  spread_add nan t h X Y = absurd (unit_finite nan h)
  spread_add (inf r) t h X Y = absurd (unit_finite (inf r) h)
  spread_add (fin false m e) t h X Y = added (fin false m e) (m * up e) (down e) (down_pos e) (refl, refl) (at_most_one m e h.1) X Y
  spread_add (fin true m e) t h X Y =
      let n = fin true 0 (pos 0) in
      rw (signed_zero m e t h.0)
      (spread_wider (suc p) (suc B) (add binary64 zero_float x) (add binary64 zero_float y) (add binary64 n x) (add binary64 n y)
      (added zero_float 0 1 (lit≤ tt) (refl, refl) (lit≤ tt) X Y)
      (add_mono binary64 n zero_float x x tt tt X X (unfold le in tt) (le_refl_at x (finite_number x X)))
      (add_mono binary64 zero_float n y y tt tt Y Y (unfold le in tt) (le_refl_at y (finite_number y Y))))

  -- a float of the value L / E
  module _ (l : Float) (L E : ℕ) (EP : 0 < E) (v : HasValue l false L E) where
    l_finite : T (finite l)
    l_finite = value_finite l false L E v

    l_same : T (le l l)
    l_same = le_refl_at l (finite_number l l_finite)

    -- they are taken from it, which is at most 1 and which neither passes
    pub spread_less : L ≤ E → T (finite x) → T (finite y) → T (le y l) → Spread (suc p) 1 (sub binary64 l y) (sub binary64 l x)
    spread_less u X Y h =
        let c = E * P in
        let i = s.i in
        let k : suc i * E ≤ L * P =
        below_cross (suc i * E) (L * P) (subst T (le_by_value upper l false false (suc i) P L E (pow_pos p) EP upper_value v) (le_trans_at upper y l s.above h)) in
        let more = up_one (L * P) i k in
        spread_step p 1 (L * P - suc i * E) E c (sub binary64 l upper) (sub binary64 l lower) (sub binary64 l y) (sub binary64 l x) (mul-pos EP (pow_pos p)) refl
        (le_trans (le_of_eq more) (le_trans (part (L * P) (i * E)) (le_trans (mul-le-mul_right P u) (le_of_eq (sym (one-mul c))))))
        (less_is l upper L E (suc i) P EP (pow_pos p) v upper_value k)
        (less_is l lower L E i P EP (pow_pos p) v lower_value (le_trans (mul-le-mul_right E (next i)) k) ∙ ap (λ (z : ℕ). round binary64 false z c) (sym more))
        (sub_mono binary64 l l y upper l_finite l_finite Y upper_finite l_same s.above)
        (sub_mono binary64 l l lower x l_finite l_finite lower_finite X l_same s.below)
      where
        up_one : (n i : ℕ) → suc i * E ≤ n → n - suc i * E + E ≡ n - i * E
        up_one n i h = go (i * E) (suc-mul i E) h
          where
            go : {x : ℕ} (y : ℕ) → x ≡ y + E → x ≤ n → n - x + E ≡ n - y
            go y e h = omega arith

    -- it is taken from both, and neither is below it
    pub spread_from : T (finite x) → T (finite y) → T (le l x) → Spread (suc p) B (sub binary64 x l) (sub binary64 y l)
    spread_from X Y h =
        let c = P * E in
        let i = s.i in
        let k : L * P ≤ i * E =
        below_cross (L * P) (i * E) (subst T (le_by_value l lower false false L E i P EP (pow_pos p) v lower_value) (le_trans_at l x lower h s.below)) in
        let more = up_one (L * P) i k in
        spread_step p B (i * E - L * P) E c (sub binary64 lower l) (sub binary64 upper l) (sub binary64 x l) (sub binary64 y l) (mul-pos (pow_pos p) EP) (mul_comm E P)
        (le_trans (le_of_eq more) (le_trans (part (suc i * E) (L * P)) (le_trans (mul-le-mul_right E s.small) (le_of_eq (mul_assoc B P E)))))
        (less_is lower l i P L E (pow_pos p) EP lower_value v k)
        (less_is upper l (suc i) P L E (pow_pos p) EP upper_value v (le_trans k (mul-le-mul_right E (next i))) ∙ ap (λ (z : ℕ). round binary64 false z c) (sym more))
        (sub_mono binary64 x lower l l X lower_finite l_finite l_finite s.below l_same)
        (sub_mono binary64 upper y l l upper_finite Y l_finite l_finite s.above l_same)
      where
        up_one : (n i : ℕ) → n ≤ i * E → i * E - n + E ≡ suc i * E - n
        up_one n i h = go (i * E) (suc-mul i E) h
          where
            go : {x : ℕ} (y : ℕ) → x ≡ y + E → n ≤ y → y - n + E ≡ x - n
            go y e h = omega arith
