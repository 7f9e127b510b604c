-- The round trip of each part of a record, and of the item: a list of its fields. Assumes nothing.
use Prim.Native.Nat.{ℕ, ◌<◌, ◌^◌}
use mathlib.Core.Path.{◌≡◌, refl, sym, ap, ◌∙◌, subst}
use mathlib.Core.Bool.{Bool, true, ◌&&◌, cond}
use mathlib.Core.List.{List, [], append-nil, append_assoc}
use native.Mathlib.Omega.{arith}
use lib.Dec.{eqb}
use lib.ListN.{length, take, get_or}
use lib.Seq.{take_at}
use lib.Ieee.{Float, nan, le}
use lib.Ieee.Scale.{finite}
use Rattle.floatlaws.specs.Numbers.{f32_0, f32_1, f32_minus1}
use Rattle.floatlaws.proofs.Tests.{yes_so}
use Rattle.floatlaws.proofs.NoNan.{finite_number}
use Rattle.floatlaws.proofs.Order.{le_right}
use Rattle.codes.specs.declared.RateCodes.{RateCodes}
use Rattle.codes.specs.declared.SpanCodes.{SpanCodes}
use Rattle.codes.specs.declared.ScaleCodes.{ScaleCodes}
use Rattle.codes.specs.declared.SmoothCodes.{SmoothCodes}
use Rattle.codes.specs.declared.SettingsCodes.{SettingsCodes}
use Rattle.codes.specs.declared.ModCodes.{ModCodes}
use Rattle.codes.specs.declared.PointCodes.{PointCodes}
use Rattle.codes.specs.declared.PathPointCodes.{PathPointCodes}
use Rattle.codes.specs.declared.LoopbackCodes.{LoopbackCodes}
use Rattle.codes.specs.declared.ShapeCodes.{ShapeCodes}
use Rattle.codes.specs.declared.PathCodes.{PathCodes}
use Rattle.codes.specs.declared.ItemCodes.{ItemCodes}
use Rattle.questions.specs.Tests.{rate_finite, span_finite, smooth_finite, settings_finite}
use Rattle.questions.proofs.Laws.{and_true, five}
use Rattle.listlaws.specs.Tables.{padded}
use Rattle.fields.specs.Parser.{read, Parser, done, ◌that◌}
use Rattle.fields.specs.Fields.{f32}
use Rattle.fields.specs.Bytes.{f32_bytes}
use Rattle.fields.specs.RoundTrip.{Gives, Cuts, RoundTrip, WhenOk, RowOk}
use Rattle.fields.proofs.Chains.{gives_done, cuts_none, same_value, same_place, stands_is}
use Rattle.fields.proofs.Trips.{Any, NoNan, Fields, number_trip, below_trip, f32_trip, f64_trip, that_trip, when_trip, sure_by, ◌also◌, ◌with◌, last, ◌&◌, ◌&→◌, made}
use Rattle.fields.proofs.Rows.{row_trip}
use Rattle.codes.specs.Blanks.{blank_point, blank_path_point}
use Rattle.record.specs.Reading.{rate, span, smooth, settings, modulation, in_unit, in_bend, last_x, point, path_point, loopback, shape, path, scale, item}
use Rattle.record.specs.Writing.{rate_bytes, span_bytes, smooth_bytes, settings_bytes, modulation_bytes, point_bytes, path_point_bytes, loopback_bytes, shape_bytes, path_bytes, scale_bytes, item_bytes}
use Rattle.record.specs.Promises.{IsF32, IsF64}

-- ---- tests that no NaN passes

pub finite_no_nan : (x : Float) → finite x ≡ true → NoNan x
finite_no_nan x e = finite_number x (yes_so e)

between_no_nan : (lo x hi : Float) → (le lo x && le x hi) ≡ true → NoNan x
between_no_nan lo x hi e = le_right lo x (yes_so (and_true (le lo x) (le x hi) e).0)

chosen_no_nan : (chosen : Bool) (x : Float) → cond chosen (finite x) true ≡ true → chosen ≡ true → NoNan x
chosen_no_nan chosen x e is = finite_no_nan x (rw is at e)

-- ---- settings

abbrev pub RateOk : RateCodes → Type 0
RateOk c =
    (c.code < 2)
    also WhenOk (eqb c.code 0) 0 (λ v. v < 15) c.division
    also WhenOk (eqb c.code 0) 0 (λ v. v < 3) c.feel
    also WhenOk (eqb c.code 1) f32_0 IsF32 c.hz
    also WhenOk (eqb c.code 1) 0 (λ v. v < 2) c.x10

pub rate_trip : RoundTrip rate rate_bytes RateOk (λ c. rate_finite c ≡ true)
unfolding rate rate_bytes
rate_trip =
    sure_by
    (made
    (below_trip 2 (omega arith) &→ λ code.
    when_trip (below_trip 15 (omega arith)) (eqb code 0) 0
    & when_trip (below_trip 3 (omega arith)) (eqb code 0) 0
    & when_trip f32_trip (eqb code 1) f32_0
    & last (when_trip (below_trip 2 (omega arith)) (eqb code 1) 0))
    _ (λ c. c.code with c.division with c.feel with c.hz with c.x10) rate_bytes (λ c. simp append_assoc) (λ c. refl) (λ v. (_, refl, (λ h. h), (λ h. refl))))
    _ (λ c h. tt with (λ _. tt) with (λ _. tt) with chosen_no_nan (eqb c.code 1) c.hz h with (λ _. tt))

abbrev pub SpanOk : SpanCodes → Type 0
SpanOk c = (c.code < 3) also WhenOk (eqb c.code 1) 0 (λ v. v < 15) c.division also WhenOk (eqb c.code 2) f32_0 IsF32 c.seconds

pub span_trip : RoundTrip span span_bytes SpanOk (λ c. span_finite c ≡ true)
unfolding span span_bytes
span_trip =
    sure_by
    (made
    (below_trip 3 (omega arith) &→ λ code.
    when_trip (below_trip 15 (omega arith)) (eqb code 1) 0
    & last (when_trip f32_trip (eqb code 2) f32_0))
    _ (λ c. c.code with c.division with c.seconds) span_bytes (λ c. simp append_assoc) (λ c. refl) (λ v. (_, refl, (λ h. h), (λ h. refl))))
    _ (λ c h. tt with (λ _. tt) with chosen_no_nan (eqb c.code 2) c.seconds h)

abbrev pub SmoothOk : SmoothCodes → Type 0
SmoothOk c = (c.code < 2) also WhenOk (eqb c.code 1) f32_0 IsF32 c.coefficient

pub smooth_trip : RoundTrip smooth smooth_bytes SmoothOk (λ c. smooth_finite c ≡ true)
unfolding smooth smooth_bytes
smooth_trip =
    sure_by
    (made
    (below_trip 2 (omega arith) &→ λ code. last (when_trip f32_trip (eqb code 1) f32_0))
    _ (λ c. c.code with c.coefficient) smooth_bytes (λ c. refl) (λ c. refl) (λ v. (_, refl, (λ h. h), (λ h. refl))))
    _ (λ c h. tt with chosen_no_nan (eqb c.code 1) c.coefficient h)

abbrev pub SettingsOk : SettingsCodes → Type 0
SettingsOk c =
    (c.kind < 5)
    also (c.mode < 3)
    also (c.direction < 3)
    also RateOk c.rate
    also (c.song_lock < 2)
    also (c.swing < 2)
    also SpanOk c.fade_in
    also SpanOk c.delay
    also SmoothOk c.smooth
    also IsF32 c.phase
    also (c.phase_snap < 2)
    also (c.grid_x < 2 ^ 16)

pub settings_trip : RoundTrip settings settings_bytes SettingsOk (λ c. settings_finite c ≡ true)
unfolding settings settings_bytes settings_finite
settings_trip =
    sure_by
    (made
    (below_trip 5 (omega arith)
    & below_trip 3 (omega arith)
    & below_trip 3 (omega arith)
    & rate_trip
    & below_trip 2 (omega arith)
    & below_trip 2 (omega arith)
    & span_trip
    & span_trip
    & smooth_trip
    & f32_trip
    & below_trip 2 (omega arith)
    & last (below_trip (2 ^ 16) (omega arith)))
    _
    (λ c.
    c.kind
    with c.mode
    with c.direction
    with c.rate
    with c.song_lock
    with c.swing
    with c.fade_in
    with c.delay
    with c.smooth
    with c.phase
    with c.phase_snap
    with c.grid_x)
    settings_bytes (λ c. simp append_assoc) (λ c. refl) (λ v. (_, refl, (λ h. h), (λ h. refl))))
    _
    (λ c h.
    let (in_rate, in_fade, in_delay, in_smooth, in_phase) =
    five (rate_finite c.rate) (span_finite c.fade_in) (span_finite c.delay) (smooth_finite c.smooth) (finite c.phase) h in
    tt with tt with tt with in_rate with tt with tt with in_fade with in_delay with in_smooth with finite_no_nan c.phase in_phase with tt with tt)

-- ---- points

abbrev pub ModOk : ModCodes → Type 0
ModOk c = (c.code < 2) also WhenOk (eqb c.code 1) 0 (λ v. v < 2 ^ 8) c.bus also WhenOk (eqb c.code 1) f32_0 (λ x. IsF32 x × (finite x ≡ true)) c.depth

-- a float that a test keeps
abbrev Passes : (Float → Bool) → Float → Type 0
Passes t x = IsF32 x × (t x ≡ true)

f32_that : (t : Float → Bool) → ((x : Float) → t x ≡ true → NoNan x) → RoundTrip (f32 that t) f32_bytes (Passes t) Any
f32_that t sees = that_trip f32_trip t Any (λ x h _. sees x h)

pub modulation_trip : RoundTrip modulation modulation_bytes ModOk Any
unfolding modulation modulation_bytes
modulation_trip =
    sure_by
    (made
    (below_trip 2 (omega arith) &→ λ code.
    when_trip (below_trip (2 ^ 8) (omega arith)) (eqb code 1) 0
    & last (when_trip (f32_that finite finite_no_nan) (eqb code 1) f32_0))
    _ (λ c. c.code with c.bus with c.depth) modulation_bytes (λ c. simp append_assoc) (λ c. refl) (λ v. (_, refl, (λ h. h), (λ h. refl))))
    _ (λ c h. tt with (λ _. tt) with (λ _. tt))

abbrev pub at_or_after : Float → Float → Bool
at_or_after before x = in_unit x && le before x

abbrev pub PointOk : Float → PointCodes → Type 0
PointOk before c =
    Passes (at_or_after before) c.x
    also Passes in_unit c.y
    also Passes in_bend c.curve
    also (c.step < 2)
    also ModOk c.x_mod
    also ModOk c.y_mod

pub point_trip : (before : Float) → RoundTrip (point before) point_bytes (PointOk before) Any
unfolding point point_bytes
point_trip before =
    sure_by
    (made
    (f32_that (at_or_after before) (λ x h. between_no_nan f32_0 x f32_1 (and_true (in_unit x) (le before x) h).0)
    & f32_that in_unit (λ x. between_no_nan f32_0 x f32_1)
    & f32_that in_bend (λ x. between_no_nan f32_minus1 x f32_1)
    & below_trip 2 (omega arith)
    & modulation_trip
    & last modulation_trip)
    _ (λ c. c.x with c.y with c.curve with c.step with c.x_mod with c.y_mod) point_bytes (λ c. simp append_assoc) (λ c. refl) (λ v. (_, refl, (λ h. h), (λ h. refl))))
    _ (λ c h. tt with tt with tt with tt with tt with tt)

abbrev pub PathPointOk : PathPointCodes → Type 0
PathPointOk c = Passes finite c.x also Passes finite c.y also Passes in_bend c.bend also ModOk c.x_mod also ModOk c.y_mod

pub path_point_trip : RoundTrip path_point path_point_bytes PathPointOk Any
unfolding path_point path_point_bytes
path_point_trip =
    sure_by
    (made
    (f32_that finite finite_no_nan
    & f32_that finite finite_no_nan
    & f32_that in_bend (λ x. between_no_nan f32_minus1 x f32_1)
    & modulation_trip
    & last modulation_trip)
    _ (λ c. c.x with c.y with c.bend with c.x_mod with c.y_mod) path_point_bytes (λ c. simp append_assoc) (λ c. refl) (λ v. (_, refl, (λ h. h), (λ h. refl))))
    _ (λ c h. tt with tt with tt with tt with tt)

abbrev pub LoopbackOk : LoopbackCodes → Type 0
LoopbackOk c = (c.code < 2) also WhenOk (eqb c.code 1) 0 (λ v. v < 2 ^ 64) c.index

pub loopback_trip : RoundTrip loopback loopback_bytes LoopbackOk Any
unfolding loopback loopback_bytes
loopback_trip =
    sure_by
    (made
    (below_trip 2 (omega arith) &→ λ code. last (when_trip number_trip (eqb code 1) 0))
    _ (λ c. c.code with c.index) loopback_bytes (λ c. refl) (λ c. refl) (λ v. (_, refl, (λ h. h), (λ h. refl))))
    _ (λ c h. tt with (λ _. tt))

abbrev pub ScaleOk : ScaleCodes → Type 0
ScaleOk c = (c.code < 2) also IsF32 c.percent

pub scale_trip : RoundTrip scale scale_bytes ScaleOk (λ c. NoNan c.percent)
unfolding scale scale_bytes
scale_trip =
    sure_by
    (made
    (below_trip 2 (omega arith) & last f32_trip)
    _ (λ c. c.code with c.percent) scale_bytes (λ c. refl) (λ c. refl) (λ v. (_, refl, (λ h. h), (λ h. refl))))
    _ (λ c h. tt with h)

-- ---- curves, whose arrays begin with the points that are read

-- All fields, of a record that may hold more than they say: `Fit` says that it holds no more.
made_fit : {R K B : Type 0} {app : K → B → Parser R} {F : K → Parser R} {w : B → List ℕ} {Ok Sure : B → Type 0} → Fields app F w Ok Sure
    → (k : K) (from : R → B) (bytes : R → List ℕ) (Fit : R → Type 0) → ((r : R) → w (from r) ≡ bytes r) → ((r : R) → Fit r → app k (from r) ≡ done r)
    → ((v : B) → Sure v) → ((v : B) → (r : R) × (app k v ≡ done r) × (Ok v → Fit r × (v ≡ from r)))
    → RoundTrip (F k) bytes (λ r. Fit r × Ok (from r)) Any
made_fit {app = app} {F} {w} {Ok} {Sure} fields k from bytes Fit are back sure there =
    record {
      gives = λ r h. subst (λ l. Gives (F k) l r) (append-nil (w (from r)) ∙ are r)
          (fields.gives (from r) h.1 k [] r (subst (λ p. Gives p [] r) (sym (back r h.0)) (gives_done r)));
      cut = λ r h. subst (Cuts (F k)) (append-nil (w (from r)) ∙ are r) (fields.cut (from r) h.1 k [] (cuts_none _));
      takes = λ s b at next r e _.
          let (v, m, end, first) = fields.takes k s b at next r e in
          let (r', is_done, fits) = there v in
          let final : read r' m ≡ read r next = ap (λ p. p s m) (sym is_done) ∙ end in
          let same : r' ≡ r = same_value final in
          let x = first (sure v) in
          let (fit, is) = fits x.0 in
          let at_r : v ≡ from r = is ∙ ap from same in
          ((subst Fit same fit, subst Ok at_r x.0), stands_is (same_place final) (ap w at_r ∙ are r) x.1);
    }

abbrev pub PointsOk : ℕ → List PointCodes → Type 0
PointsOk = RowOk blank_point (λ l. PointOk (last_x l))

-- the array has blank points after those that count
abbrev ShapeFit : ShapeCodes → Type 0
ShapeFit c = padded 64 blank_point (take c.count c.points) ≡ c.points

abbrev pub ShapeOk : ShapeCodes → Type 0
ShapeOk c = ShapeFit c × ((c.count < 65) also PointsOk c.count (take c.count c.points) also LoopbackOk c.loopback)

pub shape_trip : RoundTrip shape shape_bytes ShapeOk Any
unfolding shape shape_bytes
shape_trip =
    made_fit
    (below_trip 65 (omega arith) &→ λ count.
    row_trip blank_point (λ l. point_trip (last_x l)) count
    & last loopback_trip)
    _ (λ c. c.count with take c.count c.points with c.loopback) shape_bytes ShapeFit (λ c. simp append_assoc)
    (λ c fit. ap (λ (l : List PointCodes). done (record { points = l; count = c.count; loopback = c.loopback })) fit)
    (λ v. tt with (λ k _. tt) with tt)
    (λ v. (
      _,
      refl,
      λ h.
          let front = take_at v.1.0 _ v.0 h.1.0.0 in
          (ap (padded 64 blank_point) front, λ d. v.0 with sym front d with v.1.1),
    ))

abbrev pub PathPointsOk : ℕ → List PathPointCodes → Type 0
PathPointsOk = RowOk blank_path_point (λ l. PathPointOk)

abbrev PathFit : PathCodes → Type 0
PathFit c = padded 64 blank_path_point (take c.count c.points) ≡ c.points

abbrev pub PathOk : PathCodes → Type 0
PathOk c = PathFit c × ((c.count < 65) also (c.closed < 2) also PathPointsOk c.count (take c.count c.points))

pub path_trip : RoundTrip path path_bytes PathOk Any
unfolding path path_bytes
path_trip =
    made_fit
    (below_trip 65 (omega arith) &→ λ count.
    below_trip 2 (omega arith)
    & last (row_trip blank_path_point (λ l. path_point_trip) count))
    _ (λ c. c.count with c.closed with take c.count c.points) path_bytes PathFit (λ c. simp append_assoc)
    (λ c fit. ap (λ (l : List PathPointCodes). done (record { points = l; count = c.count; closed = c.closed })) fit)
    (λ v. tt with tt with (λ k _. tt))
    (λ v. (
      _,
      refl,
      λ h.
          let front = take_at v.1.1 _ v.0 h.1.1.0 in
          (ap (padded 64 blank_path_point) front, λ d. v.0 with v.1.0 with sym front d),
    ))

-- ---- the item

abbrev pub ItemOk : ItemCodes → Type 0
ItemOk i =
    SettingsOk i.settings
    also ShapeOk i.shape
    also PathOk i.path
    also RowOk nan (λ l. IsF32) 16 i.buses
    also (i.seed < 2 ^ 64)
    also IsF64 i.tempo
    also IsF64 i.beats_per_bar
    also IsF32 i.swing
    also ScaleOk i.scale

-- what question 2 sees to
pub record ItemSure (i : ItemCodes) : Type 0 where
  pub settings : settings_finite i.settings ≡ true
  pub buses : (k : ℕ) → k < length i.buses → NoNan (get_or i.buses k nan)
  pub tempo : NoNan i.tempo
  pub bar : NoNan i.beats_per_bar
  pub swing : NoNan i.swing
  pub percent : NoNan i.scale.percent

pub item_trip : RoundTrip item item_bytes ItemOk ItemSure
unfolding item item_bytes
item_trip =
    sure_by
    (made
    (settings_trip
    & shape_trip
    & path_trip
    & row_trip nan (λ l. f32_trip) 16
    & number_trip
    & f64_trip
    & f64_trip
    & f32_trip
    & last scale_trip)
    _
    (λ i.
    i.settings
    with i.shape
    with i.path
    with i.buses
    with i.seed
    with i.tempo
    with i.beats_per_bar
    with i.swing
    with i.scale)
    item_bytes (λ i. simp append_assoc) (λ i. refl) (λ v. (_, refl, (λ h. h), (λ h. refl))))
    _ (λ i h. h.settings with tt with tt with h.buses with tt with h.tempo with h.bar with h.swing with h.percent)
