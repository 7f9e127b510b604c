-- What the questions leave of a call that is accepted, of which `first_no` is 0. Assumes nothing.
use Rattle.std.specs.Option.{is_some}
use Rattle.std.specs.Prelude.{None, Option, Some, slice_get}
use Prim.Native.Nat.{ℕ, zero, suc, ◌+◌, ◌^◌, ◌≤◌, ◌<◌, min}
use mathlib.Core.Path.{◌≡◌, refl, sym, ap, ◌∙◌, subst}
use mathlib.Core.Logic.{inl, inr}
use mathlib.Core.Bool.{Bool, true, false, not, cond, false≢true}
use mathlib.Core.List.{List, ◌∷◌}
use native.Mathlib.Nat.{eq-or-lt_of_le, le_of_suc-le-suc}
use native.Mathlib.Omega.{arith}
use borrow.Author.Tests.{ltb-true, leb-true, eq-eqb}
use lib.Dec.{T, eqb, ltb, leb}
use lib.ListN.{get_or}
use lib.IntN.{pos}
use lib.Ieee.{Float, fin, of_bits, neg, le, is_nan}
use lib.Ieee.Scale.{finite}
use Rattle.floatlaws.specs.Numbers.{Between, f64_0, f64_¼}
use Rattle.floatlaws.proofs.NoNan.{finite_number}
use Rattle.floatlaws.proofs.Order.{le_trans_at}
use Rattle.floatlaws.specs.Size.{Size}
use Rattle.floatlaws.proofs.Size.{size_of_le, size_of_range}
use Rattle.floatlaws.proofs.Tests.{yes_so}
use Rattle.floatlaws.proofs.Unit.{zero_float}
use Rattle.listlaws.proofs.Tabulation.{get_or_padded}
use Rattle.points.specs.Modulation.{FiniteMod}
use Rattle.shape.specs.Points.{blank, no_point, FinitePoint}
use Rattle.shape.specs.Shapes.{within}
use Rattle.leg.specs.Paper.{on_paper}
use Rattle.settings.specs.Choices.{feel_at, yes_no_at}
use Rattle.settings.specs.Divisions.{division_at}
use Rattle.settings.specs.Times.{rates, synced_rate, hz_rate, rate_at, scales, scale_at}
use Rattle.settings.specs.Codes.{settings_at, transport_at, settings_known, transport_known}
use Rattle.settings.proofs.Known.{settings_known_lem, transport_is_known}
use Rattle.settings.proofs.Read.{settings_read, transport_read}
use Rattle.codes.specs.declared.RateCodes.{RateCodes}
use Rattle.codes.specs.declared.ScaleCodes.{ScaleCodes}
use Rattle.settings.specs.declared.record.Settings.{Settings}
use Rattle.codes.specs.declared.SettingsCodes.{SettingsCodes}
use Rattle.settings.specs.declared.record.Transport.{Transport}
use Rattle.codes.specs.declared.TransportCodes.{TransportCodes}
use Rattle.reach.specs.Bounds.{RateNumber, SettingsIn, PercentNumber, TransportIn}
use Rattle.codes.specs.declared.ModCodes.{ModCodes}
use Rattle.codes.specs.declared.PointCodes.{PointCodes}
use Rattle.codes.specs.declared.LoopbackCodes.{LoopbackCodes}
use Rattle.codes.specs.declared.ShapeCodes.{ShapeCodes}
use Rattle.codes.specs.declared.PathCodes.{PathCodes}
use Rattle.curves.specs.Given.{mod_of, no_point_codes, no_path_point_codes, point_of, given_points, loopback_of}
use Rattle.codes.specs.declared.RestartCodes.{RestartCodes}
use Rattle.questions.specs.Limits.{f64_64, f64_1000, f64_768000, f64_2147483647, f64_minus2147483648}
use Rattle.questions.specs.Tests.{every_kept, every, between, rate_finite, span_finite, smooth_finite, settings_finite, smooth_in, mod_finite, point_finite, shape_finite, path_finite, transport_finite, transport_in, loopback_below, loopback_in, path_point_on_paper, path_on_paper, point_on_grid, shape_on_grid}
use Rattle.questions.specs.Questions.{Posed, first_no, settings_questions, shape_questions, path_questions, bus_questions, phase_questions, block_questions}
use Rattle.questions.proofs.Laws.{and_true, three, five, seven}
use Rattle.settings.specs.declared.division.Division.{Division}
use Rattle.settings.specs.declared.choices.Feel.{Feel}
use Rattle.settings.specs.declared.times.Rate.{Rate}
use Rattle.settings.specs.declared.times.Scale.{Scale}

-- ---- the laws that the others cite

-- where no question is failed, the first is passed, and none of the rest is failed (no question has the number 0)
pub passed : (k : ℕ) (test : Bool) (rest : List Posed) → first_no ((suc k, test) ∷ rest) ≡ 0 → (test ≡ true) × (first_no rest ≡ 0)
unfolding first_no
passed k true rest h = (refl, h)
passed k false rest h = let z : ⊥ = omega arith in absurd z

pub every_so : (t : ℕ → Bool) (n : ℕ) → every t n ≡ true → (k : ℕ) → k < n → t k ≡ true
unfolding every
every_so t zero h k l = let z : ⊥ = omega arith in absurd z
every_so t (suc n) h k l =
    let a = and_true (every t n) (t n) h in
    elim (eq-or-lt_of_le (le_of_suc-le-suc l)) [
      | inl e ↦ rw e a.1
      | inr m ↦ every_so t n a.0 k m
    ]

between_so : (lo x hi : Float) → between lo x hi ≡ true → Between lo x hi
between_so lo x hi h = let a = and_true (le lo x) (le x hi) h in (yes_so a.0, yes_so a.1)

-- ---- settings

pub record SettingsAccepted (c : SettingsCodes) : Type 0 where
  pub known : settings_known c ≡ true
  pub finite_all : settings_finite c ≡ true
  pub smooth_is_in : smooth_in c.smooth ≡ true

pub settings_accepted : (c : SettingsCodes) → first_no (settings_questions c) ≡ 0 → SettingsAccepted c
unfolding settings_questions
settings_accepted c h =
    let q1 = passed 0 _ _ h in
    let q2 = passed 1 _ _ q1.1 in
    let q5 = passed 4 _ _ q2.1 in
    record { known = q1.0; finite_all = q2.0; smooth_is_in = q5.0 }

-- each of their codes is known
pub settings_given : (c : SettingsCodes) → first_no (settings_questions c) ≡ 0 → settings_at c ≡ None → ⊥
settings_given c h e = false≢true (sym (ap is_some e) ∙ settings_known_lem c ∙ (settings_accepted c h).known)

abbrev KnownRate : Option Rate → Type 0
KnownRate (Some r) = RateNumber r
KnownRate None = Unit

abbrev KnownScale : Option Scale → Type 0
KnownScale (Some s) = PercentNumber s
KnownScale None = Unit

synced_number : (d : Option Division) (f : Option Feel) → KnownRate (synced_rate d f)
synced_number (Some d) (Some f) = tt
synced_number (Some d) None = tt
synced_number None f = tt

hz_number : (hz : Float) (x : Option Bool) → T (finite hz) → KnownRate (hz_rate hz x)
hz_number hz (Some b) h = finite_number hz h
hz_number hz None h = tt

rate_number : (c : RateCodes) → rate_finite c ≡ true → KnownRate (rate_at c)
unfolding rate_at
rate_number c = at c.code
  where
    at : (k : ℕ) → cond (eqb k 1) (finite c.hz) true ≡ true → KnownRate (get_or (rates c) k None)
    at zero h = synced_number (division_at c.division) (feel_at c.feel)
    at (suc zero) h = hz_number c.hz (yes_no_at c.x10) (yes_so h)
    at (suc (suc k)) h = tt

-- no number of known settings whose floats are finite is a NaN
pub settings_numbers : (c : SettingsCodes) (s : Settings) → settings_finite c ≡ true → settings_at c ≡ Some s → RateNumber s.rate × T (not (is_nan s.phase))
unfolding settings_finite
settings_numbers c s h e =
    let all = five (rate_finite c.rate) (span_finite c.fade_in) (span_finite c.delay) (smooth_finite c.smooth) (finite c.phase) h in
    let r = settings_read c s e in
    (subst KnownRate r.rate (rate_number c.rate all.0), rw r.phase (finite_number c.phase (yes_so all.4)))

pub settings_in : (c : SettingsCodes) → first_no (settings_questions c) ≡ 0
    → (s : Settings) → settings_at c ≡ Some s → s.grid_x < 2 ^ 16 → SettingsIn s
settings_in c h s e g =
    let n = settings_numbers c s (settings_accepted c h).finite_all e in
    record { rate_number = n.0; phase_number = n.1; grid_in = g }

-- ---- a transport

percent_number : (c : ScaleCodes) → T (finite c.percent) → KnownScale (scale_at c)
unfolding scale_at
percent_number c h = at c.code
  where
    at : (k : ℕ) → KnownScale (slice_get (scales c) k)
    at zero = finite_number c.percent h
    at (suc zero) = finite_number c.percent h
    at (suc (suc k)) = tt

tempo_size : (x : Float) → between f64_0 x f64_1000 ≡ true → Size x 1000
unfolding of_bits
tempo_size x h = let b = between_so f64_0 x f64_1000 h in size_of_le f64_1000 1000 (refl, refl) b.0 b.1

bar_size : (x : Float) → between f64_¼ x f64_64 ≡ true → Size x 64
unfolding of_bits
bar_size x h = let b = between_so f64_¼ x f64_64 h in size_of_le f64_64 64 (refl, refl) (le_trans_at zero_float f64_¼ x (unfold le in tt) b.0) b.1

song_size : (x : Float) → between f64_minus2147483648 x f64_2147483647 ≡ true → Size x (2 ^ 31)
unfolding of_bits neg
song_size x h =
    let b = between_so f64_minus2147483648 x f64_2147483647 h in
    let top = fin false 1 (pos 31) in
    size_of_range f64_minus2147483648 top (2 ^ 31) (refl, refl) (refl, refl) b.0 (le_trans_at x f64_2147483647 top b.1 (unfold le in tt))

pub record TransportAccepted (c : TransportCodes) : Type 0 where
  pub known : transport_known c ≡ true
  pub finite_all : transport_finite c ≡ true
  pub in_range : transport_in c ≡ true

-- each of its codes is known
pub transport_given : (c : TransportCodes) → TransportAccepted c → transport_at c ≡ None → ⊥
transport_given c h e = false≢true (sym (ap is_some e) ∙ transport_is_known c ∙ h.known)

pub transport_is_in : (c : TransportCodes) → TransportAccepted c → (t : Transport) → transport_at c ≡ Some t → TransportIn t
unfolding transport_finite transport_in
transport_is_in c a t e =
    let all =
    seven (finite c.sample_rate) (finite c.tempo) (finite c.beats_per_bar) (finite c.beats) (finite c.seconds) (finite c.swing)
    (finite c.scale.percent) a.finite_all in
    let limits =
    five (between f64_1000 c.sample_rate f64_768000) (between f64_0 c.tempo f64_1000) (between f64_¼ c.beats_per_bar f64_64)
    (between f64_minus2147483648 c.beats f64_2147483647) (between f64_minus2147483648 c.seconds f64_2147483647) a.in_range in
    let r = transport_read c t e in
    record {
      rate_is_finite = rw r.rate (yes_so all.0);
      tempo_in = rw r.tempo (tempo_size c.tempo limits.1);
      bar_in = rw r.bar (bar_size c.beats_per_bar limits.2);
      beats_at = rw r.beats (song_size c.beats limits.3);
      seconds_at = rw r.seconds (song_size c.seconds limits.4);
      swing_number = rw r.swing (finite_number c.swing (yes_so all.5));
      percent_number = subst KnownScale r.scale (percent_number c.scale (yes_so all.6));
    }

pub phase_accepted : (c : TransportCodes) → first_no (phase_questions c) ≡ 0 → TransportAccepted c
unfolding phase_questions
phase_accepted c h =
    let q1 = passed 0 _ _ h in
    let q2 = passed 1 _ _ q1.1 in
    let q6 = passed 5 _ _ q2.1 in
    record { known = q1.0; finite_all = q2.0; in_range = q6.0 }

-- ---- a block

pub record BlockAccepted (played : ℕ) (c : TransportCodes) (frames : ℕ) (restart : RestartCodes) (x_len y_len : ℕ) : Type 0 where
  pub transport : TransportAccepted c
  pub restart_known : restart.code < 2
  pub short : frames ≤ 4096
  pub room_x : frames ≤ x_len
  pub room_y : frames ≤ y_len
  pub within_life : played + frames ≤ 2 ^ 40

pub block_accepted : (played : ℕ) (c : TransportCodes) (frames : ℕ) (restart : RestartCodes) (x_len y_len : ℕ)
    → first_no (block_questions played c frames restart x_len y_len) ≡ 0 → BlockAccepted played c frames restart x_len y_len
unfolding block_questions
block_accepted played c frames restart x_len y_len h =
    let q1 = passed 0 _ _ h in
    let q2 = passed 1 _ _ q1.1 in
    let q6 = passed 5 _ _ q2.1 in
    let q7 = passed 6 _ _ q6.1 in
    let q8 = passed 7 _ _ q7.1 in
    let codes = and_true (transport_known c) (ltb restart.code 2) q1.0 in
    let fits = three (leb frames 4096) (leb frames x_len) (leb frames y_len) q7.0 in
    record {
      transport = record { known = codes.0; finite_all = q2.0; in_range = q6.0 };
      restart_known = ltb-true _ _ codes.1;
      short = leb-true _ _ fits.0;
      room_x = leb-true _ _ fits.1;
      room_y = leb-true _ _ fits.2;
      within_life = leb-true _ _ q8.0;
    }

-- ---- a bus

pub bus_accepted : (bus : ℕ) (value : Float) → first_no (bus_questions bus value) ≡ 0 → T (finite value) × (bus < 16)
unfolding bus_questions
bus_accepted bus value h =
    let q2 = passed 1 _ _ h in
    let q9 = passed 8 _ _ q2.1 in
    (yes_so q2.0, ltb-true _ _ q9.0)

-- ---- a shape

mod_finite_lem : (c : ModCodes) → mod_finite c ≡ true → FiniteMod (mod_of c)
unfolding mod_of
mod_finite_lem c = at (eqb c.code 1)
  where
    at : (b : Bool) → cond b (finite c.depth) true ≡ true → FiniteMod (cond b (Some (record { bus = c.bus; depth = c.depth })) None)
    at true h = yes_so h
    at false h = tt

point_finite_lem : (c : PointCodes) → point_finite c ≡ true → FinitePoint (point_of c)
unfolding point_finite point_of
point_finite_lem c h =
    let all = five (finite c.x) (finite c.y) (finite c.curve) (mod_finite c.x_mod) (mod_finite c.y_mod) h in
    (yes_so all.0, yes_so all.1, yes_so all.2, mod_finite_lem c.x_mod all.3, mod_finite_lem c.y_mod all.4)

pub record ShapeAccepted (others : Bool) (c : ShapeCodes) : Type 0 where
  pub others_finite : others ≡ true
  pub points_finite : (k : ℕ) → k < min c.count 64 → FinitePoint (get_or (given_points c.points (min c.count 64)) k no_point)
  pub index_below : c.loopback.code ≡ 1 → c.loopback.index < min c.count 64
  pub loopback_kept : within (loopback_of c.loopback) (min c.count 64) ≡ loopback_of c.loopback
  pub points_on_grid : (k : ℕ) → k < min c.count 64 → point_on_grid (get_or c.points k no_point_codes) ≡ true

index_in : (c : LoopbackCodes) (n : ℕ) → loopback_below c n ≡ true → c.code ≡ 1 → c.index < n
index_in c n h e = ltb-true _ _ (rw (eq-eqb c.code 1 e) at h)

below_kept : (c : LoopbackCodes) (n : ℕ) → loopback_below c n ≡ true → within (loopback_of c) n ≡ loopback_of c
unfolding within loopback_of
below_kept c n = at (eqb c.code 1)
  where
    at : (b : Bool) → cond b (ltb c.index n) true ≡ true → let l = cond b (Some c.index) None in within l n ≡ l
    at true h = rw h
    at false h = refl

pub shape_accepted : (others : Bool) (c : ShapeCodes) → first_no (shape_questions others c) ≡ 0 → ShapeAccepted others c
unfolding shape_questions shape_finite loopback_in shape_on_grid every_kept given_points
shape_accepted others c h =
    let q1 = passed 0 _ _ h in
    let q2 = passed 1 _ _ q1.1 in
    let q4 = passed 3 _ _ q2.1 in
    let q10 = passed 9 _ _ q4.1 in
    let n = min c.count 64 in
    let floats = and_true (shape_finite c) others q2.0 in
    record {
      others_finite = floats.1;
      points_finite = λ k l. subst FinitePoint (sym (get_or_padded _ 64 blank n k no_point l)) (point_finite_lem _ (every_so _ _ floats.0 k l));
      index_below = λ e. index_in c.loopback n q4.0 e;
      loopback_kept = below_kept c.loopback n q4.0;
      points_on_grid = λ k l. every_so _ _ q10.0 k l;
    }

-- ---- a path

pub record PathAccepted (others : Bool) (c : PathCodes) : Type 0 where
  pub others_finite : others ≡ true
  pub points_on_paper : (k : ℕ) → k < min c.count 64 → let p = get_or c.points k no_path_point_codes in T (on_paper p.x) × T (on_paper p.y)

pub path_accepted : (others : Bool) (c : PathCodes) → first_no (path_questions others c) ≡ 0 → PathAccepted others c
unfolding path_questions path_on_paper every_kept
path_accepted others c h =
    let q1 = passed 0 _ _ h in
    let q2 = passed 1 _ _ q1.1 in
    let q11 = passed 10 _ _ q2.1 in
    record {
      others_finite = (and_true (path_finite c) others q2.0).1;
      points_on_paper = λ k l.
          let p = get_or c.points k no_path_point_codes in
          let both = and_true (on_paper p.x) (on_paper p.y) (every_so (λ i. path_point_on_paper (get_or c.points i no_path_point_codes)) _ q11.0 k l) in
          (yes_so both.0, yes_so both.1);
    }
