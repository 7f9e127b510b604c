-- Settings, loopbacks and scales as kept: fit to be written once their codes are known, and unchanged where they were read. Assumes nothing.
use Prim.Native.Nat.{ℕ, ◌<◌}
use mathlib.Core.Path.{◌≡◌, refl}
use mathlib.Core.Bool.{Bool, true, false, ◌&&◌, cond}
use mathlib.Core.List.{List, ◌++◌}
use native.Mathlib.Omega.{arith}
use borrow.Author.Tests.{ltb-true, eqb-true, ne_eqb}
use lib.Dec.{eqb, ltb}
use lib.Ieee.Scale.{finite}
use Rattle.floatlaws.specs.Numbers.{f32_0, f32_1}
use Rattle.codes.specs.declared.RateCodes.{RateCodes}
use Rattle.codes.specs.declared.SpanCodes.{SpanCodes}
use Rattle.codes.specs.declared.SmoothCodes.{SmoothCodes}
use Rattle.codes.specs.declared.SettingsCodes.{SettingsCodes}
use Rattle.settings.specs.Codes.{rate_known, span_known, smooth_known, settings_known}
use Rattle.codes.specs.declared.LoopbackCodes.{LoopbackCodes}
use Rattle.questions.specs.Tests.{between, settings_finite, smooth_in, loopback_below}
use Rattle.questions.proofs.Laws.{and_true, three, seven}
use Rattle.fields.specs.Bytes.{number_bytes, f32_bytes, when_bytes}
use Rattle.fields.proofs.Trips.{◌with◌}
use Rattle.record.specs.Writing.{rate_bytes, span_bytes, smooth_bytes, settings_bytes, loopback_bytes}
use Rattle.record.specs.Kept.{kept_rate, kept_span, kept_smooth, kept_settings, kept_loopback}
use Rattle.record.specs.Promises.{IsF32, SettingsTyped}
use Rattle.record.proofs.Agreements.{RateOk, SpanOk, SmoothOk, SettingsOk, LoopbackOk}
use Rattle.record.proofs.Tests.{when_same, when_kept, test_kept}

-- ---- unchanged

rate_same : (c : RateCodes) → RateOk c → kept_rate c ≡ c
unfolding kept_rate
rate_same c h d =
    record {
      code = c.code;
      division = when_same (eqb c.code 0) h.1.0 d;
      feel = when_same (eqb c.code 0) h.1.1.0 d;
      hz = when_same (eqb c.code 1) h.1.1.1.0 d;
      x10 = when_same (eqb c.code 1) h.1.1.1.1 d;
    }

span_same : (c : SpanCodes) → SpanOk c → kept_span c ≡ c
unfolding kept_span
span_same c h d = record { code = c.code; division = when_same (eqb c.code 1) h.1.0 d; seconds = when_same (eqb c.code 2) h.1.1 d }

smooth_same : (c : SmoothCodes) → SmoothOk c → kept_smooth c ≡ c
unfolding kept_smooth
smooth_same c h d = record { code = c.code; coefficient = when_same (eqb c.code 1) h.1 d }

pub settings_same : (c : SettingsCodes) → SettingsOk c → kept_settings c ≡ c
unfolding kept_settings
settings_same c h d =
    record {
      kind = c.kind;
      mode = c.mode;
      direction = c.direction;
      rate = rate_same c.rate h.1.1.1.0 d;
      song_lock = c.song_lock;
      swing = c.swing;
      fade_in = span_same c.fade_in h.1.1.1.1.1.1.0 d;
      delay = span_same c.delay h.1.1.1.1.1.1.1.0 d;
      smooth = smooth_same c.smooth h.1.1.1.1.1.1.1.1.0 d;
      phase = c.phase;
      phase_snap = c.phase_snap;
      grid_x = c.grid_x;
    }

pub loopback_same : (c : LoopbackCodes) → LoopbackOk c → kept_loopback c ≡ c
unfolding kept_loopback
loopback_same c h d = record { code = c.code; index = when_same (eqb c.code 1) h.1 d }

-- ---- fit to be written

one_not_zero : (n : ℕ) → eqb n 1 ≡ true → eqb n 0 ≡ false
one_not_zero n e = let is = eqb-true n 1 e in ne_eqb n 0 (λ z. omega arith)

rate_ok : (c : RateCodes) → rate_known c ≡ true → IsF32 c.hz → RateOk (kept_rate c)
unfolding kept_rate
rate_ok c known float =
    let synced : eqb c.code 0 ≡ true → (ltb c.division 15 && ltb c.feel 3) ≡ true = λ e. rw e at known in
    let hertz : eqb c.code 0 ≡ false → (eqb c.code 1 && ltb c.x10 2) ≡ true = λ e. rw e at known in
    code_known (eqb c.code 0) refl known
    with when_kept (eqb c.code 0) 0 c.division (λ e. ltb-true _ _ (and_true (ltb c.division 15) (ltb c.feel 3) (synced e)).0)
    with when_kept (eqb c.code 0) 0 c.feel (λ e. ltb-true _ _ (and_true (ltb c.division 15) (ltb c.feel 3) (synced e)).1)
    with when_kept (eqb c.code 1) f32_0 c.hz (λ _. float)
    with when_kept (eqb c.code 1) 0 c.x10 (λ e. ltb-true _ _ (and_true (eqb c.code 1) (ltb c.x10 2) (hertz (one_not_zero c.code e))).1)
  where
    code_known : (t : Bool) → eqb c.code 0 ≡ t → cond t (ltb c.division 15 && ltb c.feel 3) (eqb c.code 1 && ltb c.x10 2) ≡ true → c.code < 2
    code_known true e h = omega (arith, eqb-true c.code 0 e)
    code_known false e h = omega (arith, eqb-true c.code 1 (and_true _ _ h).0)

span_ok : (c : SpanCodes) → span_known c ≡ true → IsF32 c.seconds → SpanOk (kept_span c)
unfolding kept_span
span_ok c known float =
    code_known (eqb c.code 1) refl known
    with when_kept (eqb c.code 1) 0 c.division (λ e. ltb-true _ _ (rw e at known))
    with when_kept (eqb c.code 2) f32_0 c.seconds (λ _. float)
  where
    code_known : (t : Bool) → eqb c.code 1 ≡ t → cond t (ltb c.division 15) (ltb c.code 3) ≡ true → c.code < 3
    code_known true e h = omega (arith, eqb-true c.code 1 e)
    code_known false e h = ltb-true c.code 3 h

smooth_ok : (c : SmoothCodes) → smooth_known c ≡ true → IsF32 c.coefficient → SmoothOk (kept_smooth c)
unfolding kept_smooth
smooth_ok c known float = ltb-true c.code 2 known with when_kept (eqb c.code 1) f32_0 c.coefficient (λ _. float)

pub settings_ok : (c : SettingsCodes) → settings_known c ≡ true → SettingsTyped c → SettingsOk (kept_settings c)
unfolding kept_settings settings_known
settings_ok c known typed =
    let (front, delay, smooth) = three _ (span_known c.delay) (smooth_known c.smooth) known in
    let (seven_of, fade) = and_true _ (span_known c.fade_in) front in
    let (kind, mode, direction, rate, lock, swing, snap) =
    seven (ltb c.kind 5) (ltb c.mode 3) (ltb c.direction 3) (rate_known c.rate) (ltb c.song_lock 2) (ltb c.swing 2) (ltb c.phase_snap 2) seven_of in
    ltb-true c.kind 5 kind
    with ltb-true c.mode 3 mode
    with ltb-true c.direction 3 direction
    with rate_ok c.rate rate typed.hz
    with ltb-true c.song_lock 2 lock
    with ltb-true c.swing 2 swing
    with span_ok c.fade_in fade typed.fade
    with span_ok c.delay delay typed.delay
    with smooth_ok c.smooth smooth typed.coefficient
    with typed.phase
    with ltb-true c.phase_snap 2 snap
    with typed.grid

pub loopback_ok : (c : LoopbackCodes) (n : ℕ) → ltb c.code 2 ≡ true → loopback_below c n ≡ true → n < 65 → LoopbackOk (kept_loopback c)
unfolding kept_loopback
loopback_ok c n known below small =
    ltb-true c.code 2 known with when_kept (eqb c.code 1) 0 c.index (λ e. let h : c.index < n = ltb-true _ _ (rw e at below) in omega arith)

-- ---- the questions answer the same of what is kept

rate_known_lem : (c : RateCodes) → rate_known (kept_rate c) ≡ rate_known c
unfolding kept_rate
rate_known_lem c = by_tests (eqb c.code 0) (eqb c.code 1) c.division c.feel c.x10
  where
    by_tests : (a b : Bool) (d f x : ℕ) → cond a (ltb (cond a d 0) 15 && ltb (cond a f 0) 3) (b && ltb (cond b x 0) 2) ≡ cond a (ltb d 15 && ltb f 3) (b && ltb x 2)
    by_tests true b d f x = refl
    by_tests false true d f x = refl
    by_tests false false d f x = refl

span_known_lem : (c : SpanCodes) → span_known (kept_span c) ≡ span_known c
unfolding kept_span
span_known_lem c = by_test (eqb c.code 1) c.division
  where
    by_test : (t : Bool) (d : ℕ) → cond t (ltb (cond t d 0) 15) (ltb c.code 3) ≡ cond t (ltb d 15) (ltb c.code 3)
    by_test true d = refl
    by_test false d = refl

pub settings_known_lem : (c : SettingsCodes) → settings_known (kept_settings c) ≡ settings_known c
unfolding kept_settings kept_smooth settings_known
settings_known_lem c d =
    ltb c.kind 5
    && ltb c.mode 3
    && ltb c.direction 3
    && rate_known_lem c.rate d
    && ltb c.song_lock 2
    && ltb c.swing 2
    && ltb c.phase_snap 2
    && span_known_lem c.fade_in d
    && span_known_lem c.delay d
    && smooth_known c.smooth

pub settings_finite_lem : (c : SettingsCodes) → settings_finite (kept_settings c) ≡ settings_finite c
unfolding kept_settings kept_rate kept_span kept_smooth settings_finite
settings_finite_lem c d =
    test_kept finite (eqb c.rate.code 1) f32_0 c.rate.hz d
    && test_kept finite (eqb c.fade_in.code 2) f32_0 c.fade_in.seconds d
    && test_kept finite (eqb c.delay.code 2) f32_0 c.delay.seconds d
    && test_kept finite (eqb c.smooth.code 1) f32_0 c.smooth.coefficient d
    && finite c.phase

pub smooth_is_in : (c : SettingsCodes) → smooth_in (kept_settings c).smooth ≡ smooth_in c.smooth
unfolding kept_settings kept_smooth
smooth_is_in c = test_kept (λ x. between f32_0 x f32_1) (eqb c.smooth.code 1) f32_0 c.smooth.coefficient

pub loopback_below_lem : (c : LoopbackCodes) (n : ℕ) → loopback_below (kept_loopback c) n ≡ loopback_below c n
unfolding kept_loopback
loopback_below_lem c n = test_kept (λ i. ltb i n) (eqb c.code 1) 0 c.index

-- ---- and so are its bytes

when_bytes_lem : {A : Type 0} (w : A → List ℕ) (chosen : Bool) (blank a : A) → when_bytes chosen (w (cond chosen a blank)) ≡ when_bytes chosen (w a)
when_bytes_lem w true blank a = refl
when_bytes_lem w false blank a = refl

rate_bytes_lem : (c : RateCodes) → rate_bytes (kept_rate c) ≡ rate_bytes c
unfolding kept_rate rate_bytes
rate_bytes_lem c d =
    number_bytes c.code
    ++ when_bytes_lem number_bytes (eqb c.code 0) 0 c.division d
    ++ when_bytes_lem number_bytes (eqb c.code 0) 0 c.feel d
    ++ when_bytes_lem f32_bytes (eqb c.code 1) f32_0 c.hz d
    ++ when_bytes_lem number_bytes (eqb c.code 1) 0 c.x10 d

span_bytes_lem : (c : SpanCodes) → span_bytes (kept_span c) ≡ span_bytes c
unfolding kept_span span_bytes
span_bytes_lem c d =
    number_bytes c.code ++ when_bytes_lem number_bytes (eqb c.code 1) 0 c.division d ++ when_bytes_lem f32_bytes (eqb c.code 2) f32_0 c.seconds d

smooth_bytes_lem : (c : SmoothCodes) → smooth_bytes (kept_smooth c) ≡ smooth_bytes c
unfolding kept_smooth smooth_bytes
smooth_bytes_lem c d = number_bytes c.code ++ when_bytes_lem f32_bytes (eqb c.code 1) f32_0 c.coefficient d

pub settings_bytes_lem : (c : SettingsCodes) → settings_bytes (kept_settings c) ≡ settings_bytes c
unfolding kept_settings settings_bytes
settings_bytes_lem c d =
    number_bytes c.kind
    ++ number_bytes c.mode
    ++ number_bytes c.direction
    ++ rate_bytes_lem c.rate d
    ++ number_bytes c.song_lock
    ++ number_bytes c.swing
    ++ span_bytes_lem c.fade_in d
    ++ span_bytes_lem c.delay d
    ++ smooth_bytes_lem c.smooth d
    ++ f32_bytes c.phase
    ++ number_bytes c.phase_snap
    ++ number_bytes c.grid_x

pub loopback_bytes_lem : (c : LoopbackCodes) → loopback_bytes (kept_loopback c) ≡ loopback_bytes c
unfolding kept_loopback loopback_bytes
loopback_bytes_lem c d = number_bytes c.code ++ when_bytes_lem number_bytes (eqb c.code 1) 0 c.index d
