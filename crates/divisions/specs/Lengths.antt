-- The divisions of a synced rate as the syllabus prints them: a table of fifteen lengths, "with bars and beats told apart by entry" (document 02, W-206). Assumes nothing.
use Rattle.std.specs.Prelude.{ℕ, ◌-◌, ◌^◌, ◌≤◌, min, ◌≡◌, List, [], ◌∷◌, get_or, Float}
use Rattle.std.specs.Float.{nan}
use Rattle.floatlaws.specs.Numbers.{f64}
use Rattle.floatlaws.specs.Rounded.{◌×₆₄◌}
use Rattle.divisions.specs.declared.NoteLength.{NoteLength}
use Rattle.divisions.specs.declared.NoteLength.TheVariants.{Bars, Beats}

-- division 0, 1, .. 14
unfoldable pub note_lengths : List NoteLength
note_lengths =
    Bars (f64 32 1)
    ∷ Bars (f64 16 1)
    ∷ Bars (f64 8 1)
    ∷ Bars (f64 4 1)
    ∷ Bars (f64 2 1)
    ∷ Bars (f64 1 1)
    ∷ Beats (f64 2 1)
    ∷ Beats (f64 1 1)
    ∷ Beats (f64 1 2)
    ∷ Beats (f64 1 4)
    ∷ Beats (f64 1 8)
    ∷ Beats (f64 1 16)
    ∷ Beats (f64 1 32)
    ∷ Beats (f64 1 64)
    ∷ Beats (f64 1 128)
    ∷ []

-- past the last as the last
unfoldable pub note_length : ℕ → NoteLength
note_length k = get_or note_lengths (min k 14) (Bars nan)

-- a length in beats, given the bar's
unfoldable pub in_beats : NoteLength → Float → Float
in_beats (Bars n) bar = n ×₆₄ bar
in_beats (Beats n) bar = n

-- document 01: "Divisions 0 to 5 last 32, 16, .. 1 bars; 6 to 13 last 2, 1, .. 1/64 beats; 14 lasts 1/128 beat."
pub record LengthsRule : Type 0 where
  pub bars : (k : ℕ) → k ≤ 5 → note_length k ≡ Bars (f64 (2 ^ (5 - k)) 1)
  pub beats : (k : ℕ) → 6 ≤ k → k ≤ 13 → note_length k ≡ Beats (f64 2 (2 ^ (k - 6)))
  pub last : (k : ℕ) → 14 ≤ k → note_length k ≡ Beats (f64 1 128)
