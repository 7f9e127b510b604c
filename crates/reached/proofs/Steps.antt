-- A sample takes an attractor 1 to 16 steps, and a player's phase is reached in at most 117. Assumes nothing.
use Prim.Native.Nat.{ℕ, ◌+◌, ◌-◌, ◌*◌, ◌/◌, ◌^◌, ◌≤◌, ◌<◌}
use mathlib.Core.Path.{◌≡◌, refl, ap}
use mathlib.Core.Bool.{true, false, not}
use native.Mathlib.Nat.{le_trans, zero-lt-suc, le-div_iff_mul-le, div-le_of_le-mul, le-min, min-le_left}
use native.Mathlib.Omega.{arith}
use lib.Dec.{T, lit≤}
use lib.Ieee.{Float, nan, inf, fin, binary64, up, down, round, mul, div, lt, eq, le, is_nan, of_bits, to_unsigned}
use lib.Ieee.Fits.{down_pos}
use lib.Ieee.Scale.{finite}
use Rattle.floatlaws.specs.Numbers.{Between, f64, f64_0, f64_½, f64_1, f64_16}
use Rattle.floatlaws.specs.Whole.{whole_of, to_ceil}
use Rattle.floatlaws.specs.Extrema.{clamp_of}
use Rattle.floatlaws.proofs.Extrema.{clamp_bounds}
use Rattle.floatlaws.proofs.Mono.{round_number}
use Rattle.floatlaws.proofs.Order.{le_says, says_le}
use Rattle.floatlaws.specs.Size.{Sized, Size, AtLeast}
use Rattle.floatlaws.proofs.Size.{size_finite, mul_size, div_size}
use Rattle.chaos.specs.declared.law.Attractor.{Attractor}
use Rattle.chaos.specs.Law.{law_of, LORENZ, ROSSLER}
use Rattle.chaos.specs.Advance.{advanced}
use Rattle.chaos.proofs.Steps.{few_steps}
use Rattle.settings.specs.declared.choices.LfoType.{LfoType}
use Rattle.settings.specs.declared.choices.Mode.{Mode}
use Rattle.clock.specs.declared.block.Block.{Block}
use Rattle.clock.specs.Ready.{pace_at, block_of, prepared_of}
use Rattle.clock.specs.Steps.{split_count, split_of, attractor_of, chaos_of}
use Rattle.reach.proofs.Prepared.{phase_in, prepared_in}
use Rattle.voice.specs.declared.source.Source.{Source}
use Rattle.voice.specs.Frame.{frame_of}
use Rattle.voice.specs.Generate.{source_after}
use Rattle.voice.specs.Source.{step_of}
use Rattle.calls.specs.Blocks.{prepared}
use Rattle.player.specs.Player.{state_of}
use Rattle.reached.specs.Frames.{nth_voice, nth_frame}
use Rattle.reached.specs.Limits.{attractor, StepsASample, StartSteps}
use Rattle.reached.proofs.Players.{reached_valid, transport_within}

-- ---- from 1 to 16

unsigned_in : (x : Float) → Between f64_1 x f64_16 → (1 ≤ to_unsigned 32 x) × (to_unsigned 32 x ≤ 16)
unfolding of_bits le lt eq to_unsigned
unsigned_in nan h = absurd h.0
unsigned_in (inf true) h = absurd h.0
unsigned_in (inf false) h = absurd h.1
unsigned_in (fin true m e) h = absurd (clash (m * up e) (down e) (down_pos e) (le_says false true (1 * 1 * down e) (m * up e * 1) h.0))
  where
    clash : (n d : ℕ) → 0 < d → 1 * 1 * d + n * 1 ≤ 0 + 0 → ⊥
    clash n d D l = omega arith
unsigned_in (fin false m e) h = (
  le-min ((le-div_iff_mul-le (down_pos e)).1 (low (m * up e) (down e) (le_says false false (1 * 1 * down e) (m * up e * 1) h.0))) (lit≤ tt),
  le_trans (min-le_left (m * up e / down e) (2 ^ 32 - 1))
      (div-le_of_le-mul (down e) (high (m * up e) (down e) (le_says false false (m * up e * 1) (1 * 2 ^ 4 * down e) h.1))),
)
  where
    low : (n d : ℕ) → 1 * 1 * d + 0 ≤ n * 1 + 0 → 1 * d ≤ n
    low n d l = omega arith

    high : (n d : ℕ) → n * 1 + 0 ≤ 1 * 2 ^ 4 * d + 0 → n ≤ d * 16
    high n d l = omega arith

whole_number : (x : Float) → T (finite x) → T (not (is_nan (whole_of binary64 to_ceil x)))
unfolding whole_of
whole_number nan h = absurd h
whole_number (inf s) h = absurd h
whole_number (fin s m e) h = round_number binary64 s _ 1

split_in : (dt longest : Float) → T (finite (div binary64 dt longest)) → Between f64_1 (split_count dt longest) f64_16
unfolding split_count
split_in dt longest h = clamp_bounds (whole_of binary64 to_ceil (div binary64 dt longest)) f64_1 f64_16 (whole_number _ h) (unfold of_bits le in tt)

-- a cycle's time is at most 6, and a step's at least 1 / 128
law_in : (which : Attractor) → Size (law_of which).per_cycle 6 × AtLeast (law_of which).max_step 1 128
unfolding LORENZ ROSSLER round div
law_in Attractor.Lorenz = (record { sized = lit≤ tt }, record { least = lit≤ tt })
law_in Attractor.Rossler = (record { sized = lit≤ tt }, record { least = lit≤ tt })

steps_in : (which : Attractor) (inc : Float) → Size inc 1 → (1 ≤ (attractor_of which inc).count) × ((attractor_of which inc).count ≤ 16)
unfolding attractor_of split_of
steps_in which inc S =
    let L = law_in which in
    let dt = mul_size (lit≤ tt) S L.0 in
    unsigned_in _ (split_in _ _ (size_finite (div_size 768 (zero-lt-suc 0) (lit≤ tt) (lit≤ tt) dt L.1)))

-- both ends are met
least_met : (attractor_of Attractor.Lorenz f64_0).count ≡ 1
unfolding attractor_of split_of split_count LORENZ of_bits mul div round whole_of clamp_of lt to_unsigned
least_met = refl

most_met : (attractor_of Attractor.Rossler f64_½).count ≡ 16
unfolding attractor_of split_of split_count ROSSLER of_bits mul div round whole_of clamp_of lt to_unsigned
most_met = refl

-- ---- the laws

chaos_is : (which : Attractor) (kind : LfoType) (inc : Float) → kind ≡ attractor which → chaos_of kind inc ≡ attractor_of which inc
unfolding chaos_of
chaos_is Attractor.Lorenz kind inc e = rw e
chaos_is Attractor.Rossler kind inc e = rw e

source_is : (which : Attractor) (kind : LfoType) (mode : Mode) (b : Block) (s : Source) (c : Float) → kind ≡ attractor which
    → (source_after kind mode b s c).chaos ≡ advanced which s.chaos (step_of mode c b.chaos_h) b.chaos_steps
unfolding source_after
source_is Attractor.Lorenz kind mode b s c e = rw e
source_is Attractor.Rossler kind mode b s c e = rw e

pub steps_a_sample : StepsASample
unfolding frame_of
steps_a_sample p t frames at h a which e =
    let s = p.page.settings in
    let b = (prepared (state_of p) t frames at).block in
    let S = (prepared_in s p.deck.clock t frames (reached_valid h).lfo_in.settings_in (transport_within a)).inc_in in
    let k : b.chaos_steps ≡ (attractor_of which b.inc).count = unfold prepared_of block_of in ap (λ z. z.count) (chaos_is which s.kind (pace_at s t).inc e) in
    record {
      steps = b.chaos_steps;
      at_least = rw k (steps_in which b.inc S).0;
      at_most = rw k (steps_in which b.inc S).1;
      advances = λ k. (_, source_is which s.kind s.mode b (nth_voice (state_of p) t frames at k).source (nth_frame (state_of p) t frames at k).count e);
    }

size_le : (x : Float) → Size x 1 → T (le x (f64 1 1))
unfolding round le
size_le x S = go x S.sized
  where
    plain : (n d : ℕ) → n ≤ 1 * d → n * 1 + 0 ≤ 1 * 1 * d + 0
    plain n d h = omega arith

    go : (x : Float) → Sized x 1 → T (le x (f64 1 1))
    go nan h = absurd h
    go (inf s) h = absurd h
    go (fin true m e) h = says_le true false (m * up e * 1) (1 * 1 * down e) (omega arith)
    go (fin false m e) h = says_le false false (m * up e * 1) (1 * 1 * down e) (plain (m * up e) (down e) h)

pub start_steps : StartSteps
unfolding prepared_of block_of
start_steps p h t frames at which = few_steps which (prepared (state_of p) t frames at).block.phase (size_le _ (phase_in p.page.settings (reached_valid h).lfo_in.settings_in))
