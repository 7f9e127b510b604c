-- Nothing of one voice plays in another. Assumes nothing.
use Prim.Native.Nat.{ℕ, ◌<◌}
use mathlib.Core.Path.{◌≡◌, refl, sym, ap, ap₂, ◌∙◌}
use mathlib.Core.Bool.{Bool, true, false}
use mathlib.Core.List.{List}
use lib.ListN.{length}
use Rattle.ensemble_calls.specs.Ensembles.{VoiceRecord, EnsembleState}
use Rattle.ensemble_calls.specs.Calls.{Call, after}
use Rattle.ensemble_calls.specs.Heard.{plays, Seen, seen}
use Rattle.ensemble_calls.specs.Apart.{SamePage, NonInterference, SharedValues, AllAlike}
use Rattle.ensemble_calls.proofs.Views.{View, next_all, sounds_all, view_of, own_of, view_after, plays_seen}

-- one view and one list of what is seen
module _ (b : Bool) (e d : EnsembleState) (v w : ℕ) (one : v < length e.voices) (other : w < length d.voices) (page : SamePage e d) where
  same_view : (view_of b v e).own ≡ (view_of b w d).own → view_of b v e ≡ view_of b w d
  same_view r = go page.lfo page.shared r
    where
      go : {l l' : _} {s s' : Bool} {o o' : VoiceRecord} → l ≡ l' → s ≡ s' → o ≡ o' → ◌≡◌ {A = View} (record { lfo = l; shared = s; own = o }) (record { lfo = l'; shared = s'; own = o' })
      go p q r = rw (p, q, r) refl

  module _ (own : (view_of b v e).own ≡ (view_of b w d).own) (calls₁ calls₂ : List Call) (same : seen (own_of b v) e calls₁ ≡ seen (own_of b w) d calls₂) where
    same_plays : plays b v e calls₁ ≡ plays b w d calls₂
    same_plays =
        plays_seen b v e calls₁ one
        ∙ ap₂ (λ (z : View) (s : List Seen). sounds_all b z s) (same_view own) same
        ∙ sym (plays_seen b w d calls₂ other)

    same_after : view_of b v (after e calls₁) ≡ view_of b w (after d calls₂)
    same_after =
        view_after b v e calls₁ one
        ∙ ap₂ (λ (z : View) (s : List Seen). next_all b z s) (same_view own) same
        ∙ sym (view_after b w d calls₂ other)

    same_page : SamePage (after e calls₁) (after d calls₂)
    same_page = record { lfo = ap (λ (z : View). z.lfo) same_after; shared = ap (λ (z : View). z.shared) same_after }

pub non_interference : NonInterference
non_interference e d v w one other page own calls₁ calls₂ same = (
  same_plays false e d v w one other page own calls₁ calls₂ same,
  same_page false e d v w one other page own calls₁ calls₂ same,
  ap (λ (z : View). z.own) (same_after false e d v w one other page own calls₁ calls₂ same),
)

pub shared_values : SharedValues
shared_values e d v w one other page own calls₁ calls₂ same = (
  same_plays true e d v w one other page own calls₁ calls₂ same,
  same_page true e d v w one other page own calls₁ calls₂ same,
  ap (λ (z : View). z.own) (same_after true e d v w one other page own calls₁ calls₂ same),
)

pub all_alike : AllAlike
all_alike e calls v w one other = (shared_values e e v w one other (record { lfo = refl; shared = refl }) refl calls calls refl).0
