-- At tempo 0 a synced span of an accepted block is 10 ^ 15, and so is what a restart stores of it. Assumes nothing.
use Rattle.std.specs.Prelude.{Some}
use Prim.Native.Nat.{ℕ, zero, suc, ◌*◌, ◌<◌, min}
use mathlib.Core.Path.{◌≡◌, refl, sym, ap, ◌∙◌, subst}
use mathlib.Core.Bool.{Bool, true, false, ◌&&◌, ◌||◌, cond}
use native.Mathlib.Nat.{zero-lt-suc, zero-mul, mul-pos}
use native.Mathlib.Omega.{arith}
use lib.Dec.{T, eqb, eqb→eq, lit≤}
use lib.IntN.{pos}
use lib.Ieee.{Float, nan, inf, fin, binary64, up, down, div, lt, eq, is_nan, of_bits}
use lib.Ieee.Fits.{up_pos, down_pos, and_l}
use lib.Ieee.Scale.{round_same}
use Rattle.floatlaws.specs.Extrema.{max_of}
use Rattle.floatlaws.specs.Numbers.{f64_0, f64_60}
use Rattle.floatlaws.proofs.Extrema.{max_either}
use Rattle.floatlaws.specs.Size.{Least}
use Rattle.floatlaws.proofs.Size.{div_is, zero_least}
use Rattle.floatlaws.proofs.Unique.{round_zero}
use Rattle.settings.specs.declared.times.Span.{Span}
use Rattle.settings.specs.declared.record.Transport.{Transport}
use Rattle.clock.specs.Pace.{sample_rate, tempo_of}
use Rattle.clock.specs.Ready.{block_of, prepared_of}
use Rattle.clock.specs.Spans.{samples_of}
use Rattle.reach.specs.Bounds.{TransportIn}
use Rattle.reach.proofs.Prepared.{tempo_of_lem}
use Rattle.reach.proofs.Stopped.{stopped_span}
use Rattle.voice.specs.Voice.{begun_voice, restarted_output, triggered_voice}
use Rattle.bank.specs.Parts.{restarted, parts_voice}
use Rattle.calls.specs.Blocks.{prepared, played_state}
use Rattle.player.specs.Player.{state_of}
use Rattle.reached.specs.Limits.{StoppedSpans, StoppedRestarts}
use Rattle.reached.proofs.Players.{transport_within}
use Rattle.reached.proofs.Fades.{after_spans}

-- ---- tempo 0

-- a zero with no sign
abbrev PlusZero : Float → Type 0
PlusZero nan = ⊥
PlusZero (inf s) = ⊥
PlusZero (fin true m e) = ⊥
PlusZero (fin false m e) = m ≡ 0

-- 0 or −0, by `max` with 0
zero_max : (x : Float) → T (eq x f64_0) → PlusZero (max_of x f64_0)
unfolding of_bits eq max_of is_nan lt
zero_max nan h = absurd h
zero_max (inf s) h = absurd h
zero_max (fin false m e) h =
    max_either PlusZero (fin false m e) (fin false 0 (pos 0))
    (none m (up e) (down e) (up_pos e) (eqb→eq _ _ (and_l (eqb (m * up e * 1) (0 * 1 * down e)) (true || eqb (m * up e * 1) 0) h))) refl
  where
    none : (m u d : ℕ) → 0 < u → m * u * 1 ≡ 0 * 1 * d → m ≡ 0
    none zero u d p e = refl
    none (suc m) u d p e = let k : 0 < suc m * u = mul-pos (zero-lt-suc m) p in let z : ⊥ = omega arith in absurd z
zero_max (fin true m e) h = go (lt (fin true m e) (fin false 0 (pos 0))) (eq (fin true m e) (fin false 0 (pos 0))) h
  where
    go : (a b : Bool) → T b → PlusZero (cond (a || (b && true)) (fin false 0 (pos 0)) (fin true m e))
    go true b t = refl
    go false true t = refl
    go false false t = absurd t

zero_div : (x y : Float) (j k : ℕ) → 0 < j → PlusZero x → Least y j k → div binary64 x y ≡ fin false 0 (pos 0)
zero_div nan y j k J z l = absurd z
zero_div (inf s) y j k J z l = absurd z
zero_div (fin true m e) y j k J z l = absurd z
zero_div (fin false m e) nan j k J z l = absurd l
zero_div (fin false m e) (inf s) j k J z l = absurd l
zero_div (fin false m e) (fin true n d) j k J z l = absurd l
zero_div (fin false m e) (fin false zero d) j k J z l = absurd (zero_least d j k J l)
zero_div (fin false m e) (fin false (suc q) d) j k J z l =
    div_is false false m q e d
    ∙ round_same binary64 false (m * up e * down d) (suc q * up d * down e) 0 1 (mul-pos (mul-pos (zero-lt-suc q) (up_pos d)) (down_pos e)) (zero-lt-suc 0)
    (none (up e) (down d) (suc q * up d * down e))
    ∙ round_zero binary64 false
  where
    none : (u v w : ℕ) → m * u * v * 1 ≡ 0 * w
    none u v w = rw (z, zero-mul u, zero-mul v, zero-mul w) refl

no_beat : (t : Transport) → TransportIn t → T (eq t.tempo f64_0) → (tempo_of t).beats_per_sample ≡ f64_0
unfolding tempo_of
no_beat t J h =
    let m = max_of t.tempo f64_0 in
    let minute = zero_div m f64_60 60 1 (zero-lt-suc 59) (zero_max t.tempo h) (unfold of_bits in lit≤ tt) in
    zero_div (div binary64 m f64_60) (sample_rate t) 1 1 (zero-lt-suc 0) (subst PlusZero (sym minute) refl) (tempo_of_lem t J).rate_least.least ∙ unfold of_bits in refl

-- ---- the laws

pub stopped_spans : StoppedSpans
stopped_spans p t frames at a e d =
    let J = transport_within a in
    stopped_span d (prepared (state_of p) t frames at).block
    (unfold prepared_of block_of in no_beat t J e) (unfold prepared_of block_of in (tempo_of_lem t J).bar_size) (unfold prepared_of block_of in (tempo_of_lem t J).bar_least)

pub stopped_restarts : StoppedRestarts
unfolding played_state parts_voice restarted begun_voice triggered_voice restarted_output
stopped_restarts p t frames n a e =
    let same = after_spans p.page.settings _ _ (min n frames) _ _ in
    let b = (prepared (state_of p) t frames (Some n)).block in
    record {
      delay_is = λ d s. same.same_delay ∙ ap (λ (z : Span). samples_of z b) s ∙ stopped_spans p t frames (Some n) a e d;
      fade_is = λ d s. same.same_fade ∙ ap (λ (z : Span). samples_of z b) s ∙ stopped_spans p t frames (Some n) a e d;
    }
