-- The restart that waits for a voice, and for the serving voice, in the words of document 02, W-205. Proved in proofs/Requests.antt. Assumes nothing.
use Rattle.std.specs.Prelude.{ℕ, ◌<◌, max, ◌≡◌, true, List, [], ◌∷◌, eqb, length, None, Option, Some}
use Rattle.ensemble_calls.specs.Ensembles.{EnsembleState, record_at}
use Rattle.ensemble_calls.specs.Calls.{Call, after}
use Rattle.ensemble_calls.specs.Heard.{Seen, edit, restart, played, seen}

-- the frames asked for since the last accepted block, one of no frames too, the last first; l are those asked for before
unfoldable pub asked : List ℕ → List Seen → List ℕ
asked l [] = l
asked l (edit c ∷ s) = asked l s
asked l (restart at ∷ s) = asked (at ∷ l) s
asked l (played t frames ∷ s) = asked [] s

-- "A second frame asked for a voice replaces the first"
abbrev pub last_of : List ℕ → Option ℕ
last_of [] = None
last_of (k ∷ l) = Some k

abbrev pub LastAsked : Type 0
LastAsked =
    (e : EnsembleState) (v : ℕ) → v < length e.voices → (record_at e v).pending ≡ None
    → (calls : List Call) → (record_at (after e calls) v).pending ≡ last_of (asked [] (seen (eqb v) e calls))

-- "with shared on, one voice serves all and the greatest frame asked counts": of all that were asked of any voice, those included that a later one replaced
abbrev greatest_with : ℕ → List ℕ → ℕ
greatest_with k [] = k
greatest_with k (j ∷ l) = max (greatest_with j l) k

abbrev pub greatest_of : List ℕ → Option ℕ
greatest_of [] = None
greatest_of (k ∷ l) = Some (greatest_with k l)

abbrev pub GreatestAsked : Type 0
GreatestAsked =
    (e : EnsembleState) → e.server.pending ≡ None
    → (calls : List Call) → (after e calls).server.pending ≡ greatest_of (asked [] (seen (λ u. true) e calls))
