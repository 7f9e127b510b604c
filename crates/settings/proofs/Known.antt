-- Settings and a transport are known where each of their codes is: question 1 as a test of the codes, and as the answer that `from_codes` gives. Assumes nothing.
use Rattle.std.proofs.Common.{◌≡◌, ℕ, zero, suc, Bool, true, false, cond, ◌&&◌, ltb, List, [], ◌∷◌, length, get_or, sym, refl, ◌∙◌, None, Option, Some}
use Rattle.std.specs.Prelude.{slice_get}
use Rattle.std.specs.Option.{is_some}
use mathlib.Core.Bool.{and_assoc, and-true}
use lib.Dec.{leb-zero, leb-suc-zero, leb-suc-suc, eqb-suc-zero, eqb-suc-suc}
use lib.Ieee.{Float}
use Rattle.settings.specs.Choices.{lfo_types, lfo_type_at, modes, mode_at, directions, direction_at, feels, feel_at, no_yes, yes_no_at}
use Rattle.settings.specs.Divisions.{division_at}
use Rattle.settings.specs.Times.{rates, synced_rate, hz_rate, rate_at, spans, synced_span, span_at, scales, scale_at}
use Rattle.settings.specs.Codes.{smooths, smooth_at, with_known, settings_at, transport_at, rate_known, span_known, scale_known, smooth_known, settings_known, transport_known, SettingsKnownRule, TransportKnownRule}
use Rattle.settings.specs.declared.division.Division.{Division}
use Rattle.codes.specs.declared.RateCodes.{RateCodes}
use Rattle.codes.specs.declared.SpanCodes.{SpanCodes}
use Rattle.codes.specs.declared.ScaleCodes.{ScaleCodes}
use Rattle.codes.specs.declared.SmoothCodes.{SmoothCodes}
use Rattle.settings.specs.declared.choices.Feel.{Feel}

-- with a known choice what follows is known where the rest is
known_with : {A B : Type 0} {t b : Bool} (x : Option B) (f : B → Option A) → is_some x ≡ t → ((k : B) → is_some (f k) ≡ b) → is_some (with_known None x f) ≡ (t && b)
known_with (Some k) f e h = rw (← e) (h k)
known_with None f e h = rw (← e) refl

-- ---- each code by itself

-- a place in a list is below its length
listed : {A : Type 0} (l : List A) (n : ℕ) → is_some (slice_get l n) ≡ ltb n (length l)
listed [] n = sym (leb-suc-zero n)
listed (x ∷ l) zero = sym (leb-suc-suc zero (length l) ∙ leb-zero (length l))
listed (x ∷ l) (suc n) = listed l n ∙ sym (leb-suc-suc (suc n) (length l))

kind_known : (n : ℕ) → is_some (lfo_type_at n) ≡ ltb n 5
kind_known n = listed lfo_types n

mode_known : (n : ℕ) → is_some (mode_at n) ≡ ltb n 3
mode_known n = listed modes n

direction_known : (n : ℕ) → is_some (direction_at n) ≡ ltb n 3
direction_known n = listed directions n

feel_known : (n : ℕ) → is_some (feel_at n) ≡ ltb n 3
feel_known n = listed feels n

yes_no_known : (n : ℕ) → is_some (yes_no_at n) ≡ ltb n 2
yes_no_known n = listed no_yes n

pub scale_known_lem : (c : ScaleCodes) → is_some (scale_at c) ≡ scale_known c
unfolding scale_at
scale_known_lem c = listed (scales c) c.code

pub smooth_known_lem : (c : SmoothCodes) → is_some (smooth_at c) ≡ smooth_known c
unfolding smooth_at
smooth_known_lem c = listed (smooths c) c.code

division_known : (n : ℕ) → is_some (division_at n) ≡ ltb n 15
division_known n = chosen (ltb n 15) (record { 0 = n })
  where
    chosen : (b : Bool) (d : Division) → is_some (cond b (Some d) None) ≡ b
    chosen true d = refl
    chosen false d = refl

synced_known : (d : Option Division) (f : Option Feel) → is_some (synced_rate d f) ≡ (is_some d && is_some f)
synced_known (Some d) (Some f) = refl
synced_known (Some d) None = refl
synced_known None f = refl

hz_known : (hz : Float) (x : Option Bool) → is_some (hz_rate hz x) ≡ is_some x
hz_known hz (Some b) = refl
hz_known hz None = refl

pub rate_known_lem : (c : RateCodes) → is_some (rate_at c) ≡ rate_known c
unfolding rate_at
rate_known_lem c = at c.code
  where
    at : (k : ℕ) → is_some (get_or (rates c) k None) ≡ rate_known (record { code = k; division = c.division; feel = c.feel; hz = c.hz; x10 = c.x10 })
    at zero = rw (synced_known, division_known, feel_known)
    at (suc zero) = rw (hz_known, yes_no_known)
    at (suc (suc k)) = rw (eqb-suc-zero, eqb-suc-suc, eqb-suc-zero)

span_synced_known : (d : Option Division) → is_some (synced_span d) ≡ is_some d
span_synced_known (Some d) = refl
span_synced_known None = refl

pub span_known_lem : (c : SpanCodes) → is_some (span_at c) ≡ span_known c
unfolding span_at
span_known_lem c = at c.code
  where
    at : (k : ℕ) → is_some (get_or (spans c) k None) ≡ span_known (record { code = k; division = c.division; seconds = c.seconds })
    at zero = refl
    at (suc zero) = rw (span_synced_known, division_known)
    at (suc (suc zero)) = refl
    at (suc (suc (suc k))) = rw (eqb-suc-suc, eqb-suc-zero, leb-suc-suc, leb-suc-suc, leb-suc-suc, leb-suc-zero)

-- ---- whole records

pub settings_known_lem : SettingsKnownRule
unfolding settings_at settings_known
settings_known_lem c =
    simp (and_assoc)
    (known_with (lfo_type_at c.kind) _ (kind_known c.kind) λ kind.
    known_with (mode_at c.mode) _ (mode_known c.mode) λ mode.
    known_with (direction_at c.direction) _ (direction_known c.direction) λ direction.
    known_with (rate_at c.rate) _ (rate_known_lem c.rate) λ rate.
    known_with (yes_no_at c.song_lock) _ (yes_no_known c.song_lock) λ lock.
    known_with (yes_no_at c.swing) _ (yes_no_known c.swing) λ swing.
    known_with (yes_no_at c.phase_snap) _ (yes_no_known c.phase_snap) λ snap.
    known_with (span_at c.fade_in) _ (span_known_lem c.fade_in) λ fade.
    known_with (span_at c.delay) _ (span_known_lem c.delay) λ delay.
    known_with (smooth_at c.smooth) _ (smooth_known_lem c.smooth) (λ smooth. refl) ∙ and-true _)

pub transport_is_known : TransportKnownRule
unfolding transport_at transport_known
transport_is_known c =
    known_with (yes_no_at c.playing) _ (yes_no_known c.playing) λ playing.
    known_with (scale_at c.scale) _ (scale_known_lem c.scale) (λ scale. refl) ∙ and-true _
