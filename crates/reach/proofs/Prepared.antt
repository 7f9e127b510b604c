-- What `prepare` makes of a transport in range: a block of `BlockIn`, as the laws of proofs/Reach.antt need it. Assumes nothing.
use Rattle.std.specs.Prelude.{Option, None}
use mathlib.Core.Path.{refl, sym, ◌∙◌, subst}
use mathlib.Core.Logic.{inl, inr}
use mathlib.Core.Bool.{Bool, true, false, not, ◌&&◌, cond, true≢false}
use Prim.Native.Nat.{ℕ, zero, suc, ◌-◌, ◌*◌, ◌^◌, ◌≤◌, ◌<◌}
use native.Mathlib.Nat.{le_trans, le_of_eq, le_of_lt, le_of_suc-le-suc, eq-or-lt_of_le, not-suc-le-zero, zero-lt-suc, mul-one, one-mul, mul-le-mul_right}
use native.Mathlib.Omega.{arith}
use lib.Dec.{T, ltb, leb, leb→le, ltb→lt, lit≤, lit<}
use lib.Pow.{pow_pos, pow_mono}
use lib.IntN.{pos}
use lib.Ieee.{Float, nan, inf, fin, binary64, up, down, round, mul, div, le, is_nan, of_bits, of_int}
use lib.Ieee.Back.{round_whole}
use lib.Ieee.Exact.{HasValue}
use lib.Ieee.Fits.{and_l, and_r, down_pos}
use lib.Ieee.Scale.{finite}
use Rattle.floatlaws.specs.Extrema.{max_of, clamp_of}
use Rattle.floatlaws.specs.Whole.{whole_of, whole_size, to_half}
use Rattle.floatlaws.proofs.Order.{le_trans_at}
use Rattle.floatlaws.proofs.Extrema.{max_bounds, clamp_bounds, max_either}
use Rattle.floatlaws.specs.Numbers.{f32_0, f32_10, f32_100, f32_360, f32_1000, f64_0, f64_¼, f64_1, f64_4, f64_60, f64_100, f64_360, f64_512}
use Rattle.settings.specs.Choices.{feel_factor}
use Rattle.settings.specs.Divisions.{beats_of}
use Rattle.settings.specs.Times.{top_hz, clamped_rate, scale_factor, percent_of}
use Rattle.settings.specs.declared.choices.Feel.{Feel}
use Rattle.settings.specs.declared.choices.Feel.TheVariants.{Straight, Triplet, Dotted}
use Rattle.settings.specs.declared.division.Division.{Division}
use Rattle.settings.specs.declared.times.Rate.{Rate}
use Rattle.settings.specs.declared.times.Rate.TheVariants.{Synced, Hz}
use Rattle.settings.specs.declared.times.Scale.{Scale}
use Rattle.settings.specs.declared.times.Scale.TheVariants as Scale
use Rattle.settings.specs.declared.record.Settings.{Settings}
use Rattle.settings.specs.declared.record.Transport.{Transport}
use Rattle.settings.proofs.Knob.{half_le}
use Rattle.clock.specs.Pace.{tempo_of, cycles_by, cycles_of, per_sample, limit_of, limited, pace_of, lock_of, song_lock_of}
use Rattle.clock.specs.Ready.{phase_of, snapped, start_phase, pace_at, lock_at, block_of, prepared_of}
use Rattle.clock.specs.declared.block.SongLock.{SongLock}
use Rattle.clock.specs.declared.pace.Cycles.{Cycles}
use Rattle.clock.specs.declared.pace.Cycles.TheVariants.{PerBeat, PerSecond}
use Rattle.clock.specs.declared.pace.Tempo.{Tempo}
use Rattle.clock.specs.declared.free.Clock.{Clock}
use Rattle.floatlaws.proofs.NoNan.{finite_number}
use Rattle.floatlaws.proofs.Unit.{zero_float}
use Rattle.floatlaws.specs.Size.{Sized, Least, Size, AtLeast}
use Rattle.floatlaws.proofs.Size.{size_finite, size_more, mul_size, div_size, count_size, round_sized}
use Rattle.floatlaws.proofs.Sign.{NonNeg, nonneg_le, nonneg_of_le, mul_nonneg, div_nonneg, at_least_of, mul_at_least, clamp_nonneg, clamp_size}
use Rattle.reach.proofs.Limit.{limit_in}
use Rattle.reach.specs.Bounds.{RateNumber, SettingsIn, PercentNumber, TransportIn, LockIn, BlockIn}

-- ---- closed numbers, by computation

size_test : Float → ℕ → Bool
size_test nan n = false
size_test (inf s) n = false
size_test (fin s m e) n = leb (m * up e) (n * down e)

least_test : Float → ℕ → ℕ → Bool
least_test nan j k = false
least_test (inf s) j k = false
least_test (fin true m e) j k = false
least_test (fin false m e) j k = leb (j * down e) (k * (m * up e))

tested_size : (x : Float) (n : ℕ) → T (size_test x n) → Size x n
unfolding size_test
tested_size x n t = record { sized = go x t }
  where
    go : (x : Float) → T (size_test x n) → Sized x n
    go nan t = t
    go (inf s) t = t
    go (fin s m e) t = leb→le (m * up e) (n * down e) t

tested_least : (x : Float) (j k : ℕ) → T (least_test x j k) → AtLeast x j k
unfolding least_test
tested_least x j k t = record { least = go x t }
  where
    go : (x : Float) → T (least_test x j k) → Least x j k
    go nan t = t
    go (inf s) t = t
    go (fin true m e) t = t
    go (fin false m e) t = leb→le (j * down e) (k * (m * up e)) t

-- a test of each number below n
all_below : ℕ → (ℕ → Bool) → Bool
all_below zero p = true
all_below (suc n) p = p n && all_below n p

each_below : (n : ℕ) (p : ℕ → Bool) → T (all_below n p) → (k : ℕ) → k < n → T (p k)
unfolding all_below
each_below zero p t k h = absurd (not-suc-le-zero h)
each_below (suc n) p t k h = elim (eq-or-lt_of_le (le_of_suc-le-suc h)) [
  | inl e ↦ subst (λ (z : ℕ). T (p z)) (sym e) (and_l (p n) (all_below n p) t)
  | inr l ↦ each_below n p (and_r (p n) (all_below n p) t) k l
]

at_least_more : {x : Float} {j k l : ℕ} → k ≤ l → AtLeast x j k → AtLeast x j l
at_least_more {x} {j} {k} {l} h a = record { least = go x a.least }
  where
    go : (x : Float) → Least x j k → Least x j l
    go nan t = t
    go (inf s) t = t
    go (fin true m e) t = t
    go (fin false m e) t = le_trans t (mul-le-mul_right (m * up e) h)

-- a whole number as a float is at least itself
count_least : (n : ℕ) → n ≤ 2 ^ 53 → AtLeast (of_int binary64 (pos n)) n 1
unfolding of_int
count_least n h = record { least = go (round binary64 false n 1) (round_whole binary64 false n h) }
  where
    go : (x : Float) → HasValue x false n 1 → Least x n 1
    go nan v = v
    go (inf s) v = v
    go (fin true m e) v = absurd (true≢false v.0)
    go (fin false m e) v = le_of_eq (sym v.1 ∙ mul-one (m * up e) ∙ sym (one-mul (m * up e)))

at_least_less : {x : Float} {i j k : ℕ} → i ≤ j → AtLeast x j k → AtLeast x i k
at_least_less {x} {i} {j} {k} h a = record { least = go x a.least }
  where
    go : (x : Float) → Least x j k → Least x i k
    go nan t = t
    go (inf s) t = t
    go (fin true m e) t = t
    go (fin false m e) t = le_trans (mul-le-mul_right (down e) h) t

-- ---- a division's length, for a bar of 1/4 to 64 beats

abbrev pub LengthIn : Float → Type 0
LengthIn x = Size x 2048 × AtLeast x 1 128

length_test : Float → Bool
length_test x = size_test x 2048 && least_test x 1 128

tested_length : (x : Float) → T (length_test x) → LengthIn x
unfolding length_test
tested_length x t = (tested_size x 2048 (and_l (size_test x 2048) (least_test x 1 128) t), tested_least x 1 128 (and_r (size_test x 2048) (least_test x 1 128) t))

-- 4 / 2 ^ (k - 5), and 4 / 512
abbrev note : ℕ → Float
note k = div binary64 f64_4 (of_int binary64 (pos (2 ^ (k - 5))))

notes_tested : T (all_below 14 (λ (k : ℕ). length_test (note k)))
unfolding all_below length_test size_test least_test of_bits of_int div
notes_tested = tt

fast_tested : T (length_test (div binary64 f64_4 f64_512))
unfolding length_test size_test least_test of_bits div
fast_tested = tt

-- 1 / 4 and 1 / 256 are values of the format
quarter_value : HasValue (round binary64 false 1 4) false 1 4
unfolding round
quarter_value = (refl, refl)

least_value : HasValue (round binary64 false 1 256) false 1 256
unfolding round
least_value = (refl, refl)

bars_in : (k : ℕ) (bar : Float) → Size bar 64 → AtLeast bar 1 4 → LengthIn (mul binary64 (of_int binary64 (pos (2 ^ (5 - k)))) bar)
bars_in k bar S A =
    let n = 2 ^ (5 - k) in
    let few : n ≤ 2 ^ 5 = pow_mono (part k) in
    let small : n ≤ 2 ^ 53 = le_trans few (lit≤ tt) in
    let size = mul_size (lit≤ tt) (size_more few (count_size n small)) S in
    (size, at_least_more (lit≤ tt) (mul_at_least (round binary64 false 1 4) (lit< tt) refl quarter_value (at_least_less (pow_pos (5 - k)) (count_least n small)) A (size_finite size)))
  where
    part : (k : ℕ) → 5 - k ≤ 5
    part k = omega arith

pub beats_in : (d : Division) (bar : Float) → Size bar 64 → AtLeast bar 1 4 → LengthIn (beats_of d bar)
unfolding beats_of
beats_in d bar S A = go (leb d.0 5) (leb d.0 13) (leb→le d.0 13)
  where
    one_up : (k : ℕ) → k ≤ 13 → k < 14
    one_up k h = omega arith

    go : (p q : Bool) → (T q → d.0 ≤ 13) → LengthIn (cond p (mul binary64 (of_int binary64 (pos (2 ^ (5 - d.0)))) bar) (cond q (note d.0) (div binary64 f64_4 f64_512)))
    go true q h = bars_in d.0 bar S A
    go false true h = tested_length (note d.0) (each_below 14 (λ (k : ℕ). length_test (note k)) notes_tested d.0 (one_up d.0 (h tt)))
    go false false h = tested_length (div binary64 f64_4 f64_512) fast_tested

-- ---- rates

feel_in : (f : Feel) → Size (feel_factor f) 2 × AtLeast (feel_factor f) 1 2
feel_in f = (tested_size (feel_factor f) 2 (go f).0, tested_least (feel_factor f) 1 2 (go f).1)
  where
    go : (f : Feel) → T (size_test (feel_factor f) 2) × T (least_test (feel_factor f) 1 2)
    go Straight = unfold size_test least_test of_bits in (tt, tt)
    go Triplet = unfold size_test least_test of_bits div in (tt, tt)
    go Dotted = unfold size_test least_test of_bits in (tt, tt)

percent_ends : T (le zero_float f32_10) × T (le f32_10 f32_1000) × HasValue f32_10 false 10 1 × HasValue f32_1000 false 1000 1
unfolding le of_bits
percent_ends = (tt, tt, (refl, refl), (refl, refl))

hundred_in : Size f64_100 100 × AtLeast f64_100 100 1
hundred_in = (tested_size f64_100 100 (unfold size_test of_bits in tt), tested_least f64_100 100 1 (unfold least_test of_bits in tt))

hundred_nonneg : NonNeg f64_100
hundred_nonneg = nonneg_of_le (size_finite hundred_in.0) (unfold le of_bits in tt)

factor_in : (s : Scale) → PercentNumber s → Size (scale_factor s) 10 × NonNeg (scale_factor s)
unfolding scale_factor
factor_in (Scale.Percent p) n =
    let S = clamp_size p f32_10 f32_1000 1000 n percent_ends.3 percent_ends.0 percent_ends.1 in
    let A = at_least_of f32_10 (zero-lt-suc 9) (zero-lt-suc 0) percent_ends.2 (size_finite S) (clamp_bounds p f32_10 f32_1000 n percent_ends.1).0 in
    let R = div_size 10 (zero-lt-suc 9) (lit≤ tt) (lit≤ tt) hundred_in.0 A in
    (R, div_nonneg (zero-lt-suc 9) hundred_nonneg A (size_finite R))
factor_in (Scale.Rate p) n =
    let S = clamp_size p f32_10 f32_1000 1000 n percent_ends.3 percent_ends.0 percent_ends.1 in
    let R = div_size 10 (zero-lt-suc 99) (lit≤ tt) (lit≤ tt) S hundred_in.1 in
    (R, div_nonneg (zero-lt-suc 99) (nonneg_of_le (size_finite S) (le_trans_at zero_float f32_10 (percent_of p) percent_ends.0 (clamp_bounds p f32_10 f32_1000 n percent_ends.1).0)) hundred_in.1 (size_finite R))

abbrev CyclesIn : Cycles → Type 0
CyclesIn (PerBeat p) = Size p 2560 × NonNeg p
CyclesIn (PerSecond h) = Size h 10000 × NonNeg h

hz_in : (hz : Float) (x10 : Bool) → T (not (is_nan hz)) → Size (clamp_of hz f32_0 (top_hz x10)) 1000 × NonNeg (clamp_of hz f32_0 (top_hz x10))
unfolding of_bits
hz_in hz true n = (clamp_size hz f32_0 f32_1000 1000 n (refl, refl) (unfold le in tt) (unfold le in tt), clamp_nonneg hz f32_0 f32_1000 n tt (unfold le in tt) (unfold le in tt))
hz_in hz false n = (size_more (lit≤ tt) (clamp_size hz f32_0 f32_100 100 n (refl, refl) (unfold le in tt) (unfold le in tt)), clamp_nonneg hz f32_0 f32_100 n tt (unfold le in tt) (unfold le in tt))

module _ (factor bar : Float) (S : Size factor 10) (N : NonNeg factor) (B : Size bar 64) (A : AtLeast bar 1 4) where
  cycles_in : (r : Rate) → RateNumber r → CyclesIn (cycles_of r factor bar)
  unfolding cycles_of cycles_by clamped_rate
  cycles_in (Synced d f) n =
      let l = beats_in d bar B A in
      let p = mul_size (lit≤ tt) l.0 (feel_in f).0 in
      let a = mul_at_least (round binary64 false 1 256) (lit< tt) refl least_value l.1 (feel_in f).1 (size_finite p) in
      let q = div_size 2560 (zero-lt-suc 0) (lit≤ tt) (lit≤ tt) S a in
      (q, div_nonneg (zero-lt-suc 0) N a (size_finite q))
  cycles_in (Hz hz x10) n =
      let h = hz_in hz x10 n in
      let p = mul_size (lit≤ tt) h.0 S in
      (p, mul_nonneg h.1 N (size_finite p))

-- ---- the increment

module _ (beat rate : Float) (S : Size beat 1000) (N : NonNeg beat) (A : AtLeast rate 1 1) where
  per_sample_in : (c : Cycles) → CyclesIn c → T (finite (per_sample c beat rate)) × T (le zero_float (per_sample c beat rate))
  unfolding per_sample
  per_sample_in (PerBeat p) i = let s = mul_size (lit≤ tt) i.0 S in (size_finite s, nonneg_le (mul_nonneg i.1 N (size_finite s)))
  per_sample_in (PerSecond h) i = let s = div_size 10000 (zero-lt-suc 0) (lit≤ tt) (lit≤ tt) i.0 A in (size_finite s, nonneg_le (div_nonneg (zero-lt-suc 0) i.1 A (size_finite s)))

limited_in : (c : Cycles) (limit : Float) → CyclesIn c → Size limit 1 → LockIn (lock_of (limited c limit))
unfolding limited
limited_in (PerBeat p) limit i l = mul_size (lit≤ tt) i.0 l
limited_in (PerSecond h) limit i l = mul_size (lit≤ tt) i.0 l

-- ---- the transport

pub record TempoIn (t : Tempo) : Type 0 where
  pub rate_least : AtLeast t.sample_rate 1 1
  pub beat_size : Size t.beats_per_sample 1000
  pub beat_nonneg : NonNeg t.beats_per_sample
  pub bar_size : Size t.beats_per_bar 64
  pub bar_least : AtLeast t.beats_per_bar 1 4

pub pace_in : (r : Rate) (factor : Float) (t : Tempo) → RateNumber r → Size factor 10 → NonNeg factor → TempoIn t → Size (pace_of r factor t).inc 1 × LockIn (lock_of (pace_of r factor t).cycles)
unfolding pace_of
pace_in r factor t n S N I =
    let c = cycles_of r factor t.beats_per_bar in
    let i = cycles_in factor t.beats_per_bar S N I.bar_size I.bar_least r n in
    let s = per_sample_in t.beats_per_sample t.sample_rate I.beat_size I.beat_nonneg I.rate_least c i in
    let l = limit_in (per_sample c t.beats_per_sample t.sample_rate) s.0 s.1 in
    (l.1, limited_in c (limit_of (per_sample c t.beats_per_sample t.sample_rate)) i l.0)

sixty_in : AtLeast f64_60 60 1
sixty_in = tested_least f64_60 60 1 (unfold least_test of_bits in tt)

pub tempo_of_lem : (t : Transport) → TransportIn t → TempoIn (tempo_of t)
unfolding tempo_of
tempo_of_lem t I =
    let A = one_up t.sample_rate I.rate_is_finite in
    let m = max_of t.tempo f64_0 in
    let S : Size m 1000 = max_either (λ x. Size x 1000) t.tempo f64_0 I.tempo_in (tested_size f64_0 1000 (unfold size_test of_bits in tt)) in
    let N = nonneg_of_le (size_finite S) (zero_up t.tempo (size_finite I.tempo_in)) in
    let Q = div_size 17 (zero-lt-suc 59) (lit≤ tt) (lit≤ tt) S sixty_in in
    let R = div_size 1000 (zero-lt-suc 0) (lit≤ tt) (lit≤ tt) Q A in
    record {
      rate_least = A;
      beat_size = R;
      beat_nonneg = div_nonneg (zero-lt-suc 0) (div_nonneg (zero-lt-suc 59) N sixty_in (size_finite Q)) A (size_finite R);
      bar_size = max_either (λ x. Size x 64) t.beats_per_bar f64_¼ I.bar_in (tested_size f64_¼ 64 (unfold size_test of_bits in tt));
      bar_least = quarter_up t.beats_per_bar (size_finite I.bar_in);
    }
  where
    zero_up : (x : Float) → T (finite x) → T (le zero_float (max_of x f64_0))
    zero_up x p = unfold of_bits in (max_bounds x zero_float (finite_number x p) (unfold is_nan in tt)).1

    one_up : (x : Float) → T (finite x) → AtLeast (max_of x f64_1) 1 1
    one_up x p =
        at_least_of f64_1 (zero-lt-suc 0) (zero-lt-suc 0) (unfold of_bits in (refl, refl)) (max_either (λ z. T (finite z)) x f64_1 p (unfold of_bits in tt))
        (max_bounds x f64_1 (finite_number x p) (unfold of_bits is_nan in tt)).1

    quarter_up : (x : Float) → T (finite x) → AtLeast (max_of x f64_¼) 1 4
    quarter_up x p =
        at_least_of f64_¼ (zero-lt-suc 0) (zero-lt-suc 3) (unfold of_bits in (refl, refl)) (max_either (λ z. T (finite z)) x f64_¼ p (unfold of_bits in tt))
        (max_bounds x f64_¼ (finite_number x p) (unfold of_bits is_nan in tt)).1

-- ---- Phase

whole_size_lem : {x : Float} {n : ℕ} → n ≤ 2 ^ 53 → Size x n → Size (whole_of binary64 to_half x) n
whole_size_lem {x} {n} k h = record { sized = go x h.sized }
  where
    go : (x : Float) → Sized x n → Sized (whole_of binary64 to_half x) n
    go nan h = absurd h
    go (inf s) h = absurd h
    go (fin s m e) h =
        unfold whole_of in round_sized s (whole_size to_half s (m * up e) (down e)) 1 n (zero-lt-suc 0) (le_trans (half_le s (m * up e) (down e) n (down_pos e) h) (le_of_eq (sym (mul-one n)))) k

pub phase_in : (s : Settings) → SettingsIn s → Size (start_phase s) 1
unfolding start_phase
phase_in s I = go s.phase_snap (ltb 0 s.grid_x) (ltb→lt 0 s.grid_x)
  where
    whole_turn : AtLeast f64_360 360 1
    whole_turn = tested_least f64_360 360 1 (unfold least_test of_bits in tt)

    degrees : Size (clamp_of s.phase f32_0 f32_360) 360
    degrees = unfold of_bits in clamp_size s.phase f32_0 f32_360 360 I.phase_number (refl, refl) (unfold le in tt) (unfold le in tt)

    plain : Size (phase_of s) 1
    plain = div_size 1 (zero-lt-suc 359) (lit≤ tt) (lit≤ tt) degrees whole_turn

    once : (g : ℕ) → g * 1 ≤ 1 * g
    once g = omega arith

    snap : (g : ℕ) → 0 < g → g < 2 ^ 16 → Size (snapped (phase_of s) g) 1
    snap g G h =
        let small : g ≤ 2 ^ 53 = le_trans (le_of_lt h) (lit≤ tt) in
        let place = mul_size (le_trans (le_of_eq (one-mul g)) small) plain (count_size g small) in
        div_size 1 G (once g) (lit≤ tt) (whole_size_lem small (size_more (le_of_eq (one-mul g)) place)) (count_least g small)

    go : (p q : Bool) → (T q → 0 < s.grid_x) → Size (cond (p && q) (snapped (phase_of s) s.grid_x) (phase_of s)) 1
    go true true h = snap s.grid_x (h tt) I.grid_in
    go true false h = plain
    go false q h = plain

-- ---- the law

pub prepared_in : (s : Settings) (k : Clock) (t : Transport) (n : ℕ) → SettingsIn s → TransportIn t → BlockIn (prepared_of s k t n).block
unfolding prepared_of block_of pace_at lock_at song_lock_of
prepared_in s k t n I J =
    let f = factor_in t.scale J.percent_number in
    let T = tempo_of_lem t J in
    let p = pace_in s.rate (scale_factor t.scale) (tempo_of t) I.rate_number f.0 f.1 T in
    record {
      inc_in = p.0;
      phase_in = phase_in s I;
      lock_in = locked (s.song_lock && t.playing) (lock_of (pace_of s.rate (scale_factor t.scale) (tempo_of t)).cycles) p.1;
      beats_in = J.beats_at;
      beat_in = T.beat_size;
      seconds_in = J.seconds_at;
      rate_in = T.rate_least;
    }
  where
    locked : (b : Bool) (l : Option SongLock) → LockIn l → LockIn (cond b l None)
    locked true l i = i
    locked false l i = tt
