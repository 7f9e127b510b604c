-- The restart that waits for a voice is the last one asked of it, and for the serving voice the greatest one asked of any. Assumes nothing.
use Rattle.std.specs.Prelude.{None, Option, Some}
use Prim.Native.Nat.{ℕ, ◌<◌}
use mathlib.Core.Path.{◌≡◌, refl, sym, ap, ◌∙◌}
use mathlib.Core.Bool.{Bool, true, false, cond}
use mathlib.Core.List.{List, [], ◌∷◌, ◌++◌}
use lib.Dec.{eqb}
use lib.ListN.{length}
use Rattle.ensemble_calls.specs.Ensembles.{VoiceRecord, EnsembleState, no_record, record_at, with_pending, greatest, asked_ensemble}
use Rattle.ensemble_calls.specs.Blocks.{played_record, played_ensemble}
use Rattle.ensemble_calls.specs.Calls.{Call, settings, shape, path, bus, trigger, phase, block, accepts, accepted, step, after}
use Rattle.ensemble_calls.specs.Heard.{Seen, edit, restart, played, seen_of, seen}
use Rattle.ensemble_calls.specs.Requests.{asked, last_of, LastAsked, greatest_of, GreatestAsked}
use Rattle.columns.proofs.Places.{get_or_map_in}
use Rattle.ensemble_calls.proofs.Blocks.{codes}
use Rattle.ensemble_calls.proofs.Views.{asked_at, length_step}

-- ---- an accepted call

-- a block, played by this record or by another
none_either : (t : Bool) (r q : VoiceRecord) → r.pending ≡ None → q.pending ≡ None → (cond t r q).pending ≡ None
none_either true r q g h = g
none_either false r q g h = h

module _ (v : ℕ) (e : EnsembleState) (l : List ℕ) (one : v < length e.voices) (h : (record_at e v).pending ≡ last_of l) where
  voice_waits : (c : Call) → accepts e c ≡ true → (record_at (accepted e c) v).pending ≡ last_of (asked l (seen_of (eqb v) c))
  unfolding accepted seen_of asked played_ensemble played_record
  voice_waits (settings c shared) a = h
  voice_waits (shape c) a = h
  voice_waits (path c) a = h
  voice_waits (bus k z) a = h
  voice_waits (trigger u at) a = ap (λ (r : VoiceRecord). r.pending) (asked_at e u at v one (eqb v u) refl) ∙ go (eqb v u)
    where
      go : (t : Bool) → (cond t (with_pending (record_at e v) (Some at)) (record_at e v)).pending ≡ last_of (asked l (cond t (restart at ∷ []) []))
      go true = refl
      go false = h
  voice_waits (phase u t) a = h
  voice_waits (block c n x y) a =
      let t = codes e c n x y a in
      rw t.1
      (ap (λ (r : VoiceRecord). r.pending)
      (get_or_map_in (λ (r : VoiceRecord). cond e.shared (with_pending r None) (played_record e t.0 n r)) e.voices v no_record no_record one)
      ∙ none_either e.shared _ _ refl refl)

greatest_more : (l : List ℕ) (at : ℕ) → greatest (greatest_of l) at ≡ greatest_of (at ∷ l)
unfolding greatest
greatest_more [] at = refl
greatest_more (k ∷ l) at = refl

module _ (e : EnsembleState) (l : List ℕ) (any : Unit {0}) (h : e.server.pending ≡ greatest_of l) where
  server_waits : (c : Call) → accepts e c ≡ true → (accepted e c).server.pending ≡ greatest_of (asked l (seen_of (λ u. true) c))
  unfolding accepted seen_of asked asked_ensemble played_ensemble played_record
  server_waits (settings c shared) a = h
  server_waits (shape c) a = h
  server_waits (path c) a = h
  server_waits (bus k z) a = h
  server_waits (trigger u at) a = ap (λ (p : Option ℕ). greatest p at) h ∙ greatest_more l at
  server_waits (phase u t) a = h
  server_waits (block c n x y) a = rw (codes e c n x y a).1 (none_either e.shared _ _ refl refl)

-- ---- a list of calls

asked_append : (l : List ℕ) (s r : List Seen) → asked l (s ++ r) ≡ asked (asked l s) r
unfolding asked
asked_append l [] r = refl
asked_append l (edit c ∷ s) r = asked_append l s r
asked_append l (restart at ∷ s) r = asked_append (at ∷ l) s r
asked_append l (played t n ∷ s) r = asked_append [] s r

-- what waits, of those asked, in every ensemble of which Has is true
module _ (waits : EnsembleState → Option ℕ) (of : List ℕ → Option ℕ) (own : ℕ → Bool) (Has : EnsembleState → Type 0) (stays : (e : EnsembleState) (c : Call) → Has e → Has (step e c))
    (call : (e : EnsembleState) (l : List ℕ) → Has e → waits e ≡ of l → (c : Call) → accepts e c ≡ true → waits (accepted e c) ≡ of (asked l (seen_of own c))) where
  call_waits : (e : EnsembleState) (l : List ℕ) → Has e → waits e ≡ of l → (c : Call) → waits (step e c) ≡ of (asked l (cond (accepts e c) (seen_of own c) []))
  unfolding step
  call_waits e l i h c = go (accepts e c) refl
    where
      go : (t : Bool) → accepts e c ≡ t → waits (cond t (accepted e c) e) ≡ of (asked l (cond t (seen_of own c) []))
      go true a = call e l i h c a
      go false a = unfold asked in h

  waits_after : (e : EnsembleState) (cs : List Call) → Has e → (l : List ℕ) → waits e ≡ of l → waits (after e cs) ≡ of (asked l (seen own e cs))
  unfolding after seen
  waits_after e [] i l h = unfold asked in h
  waits_after e (c ∷ cs) i l h =
      let s = cond (accepts e c) (seen_of own c) [] in
      waits_after (step e c) cs (stays e c i) (asked l s) (call_waits e l i h c) ∙ ap of (sym (asked_append l s (seen own (step e c) cs)))

pub last_asked : LastAsked
last_asked e v one h calls =
    waits_after (λ d. (record_at d v).pending) last_of (eqb v) (λ d. v < length d.voices) (λ d c i. rw (length_step d c) i) (voice_waits v) e calls one [] h

pub greatest_asked : GreatestAsked
greatest_asked e h calls = waits_after (λ d. d.server.pending) greatest_of (λ u. true) (λ d. Unit {0}) (λ d c i. tt) server_waits e calls tt [] h
