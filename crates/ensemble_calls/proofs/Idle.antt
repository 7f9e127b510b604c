-- A voice for which another one plays stands still. Assumes nothing.
use Rattle.std.specs.Prelude.{None, Option, Some}
use Prim.Native.Nat.{ℕ, ◌<◌}
use mathlib.Core.Path.{◌≡◌, refl, ap, ◌∙◌}
use mathlib.Core.Bool.{Bool, true, false, cond}
use lib.ListN.{length}
use Rattle.settings.specs.Codes.{transport_at}
use Rattle.calls.specs.Calls.{by_transport}
use Rattle.ensemble_calls.specs.Ensembles.{VoiceRecord, EnsembleState, no_record, record_at, with_pending, asked_ensemble}
use Rattle.ensemble_calls.specs.Blocks.{played_record, played_ensemble}
use Rattle.ensemble_calls.specs.Calls.{Call, settings, shape, path, bus, trigger, phase, block, accepts, accepted, step}
use Rattle.ensemble_calls.specs.Apart.{Idle}
use Rattle.columns.proofs.Places.{get_or_map_in}
use Rattle.ensemble_calls.proofs.Own.{asked_voice}
use Rattle.settings.specs.declared.record.Transport.{Transport}

module _ (e : EnsembleState) (v : ℕ) (one : v < length e.voices) (s : e.shared ≡ true) where
  voice_played : (c : Option Transport) (n : ℕ) → (record_at (by_transport e c (λ t. played_ensemble e t n)) v).voice ≡ (record_at e v).voice
  unfolding played_ensemble
  voice_played (Some t) n =
      ap (λ (r : VoiceRecord). r.voice) (get_or_map_in (λ (r : VoiceRecord). cond e.shared (with_pending r None) (played_record e t n r)) e.voices v no_record no_record one) ∙ rw s refl
  voice_played None n = refl

  voice_accepted : (c : Call) → (record_at (accepted e c) v).voice ≡ (record_at e v).voice
  unfolding accepted
  voice_accepted (settings c shared) = refl
  voice_accepted (shape c) = refl
  voice_accepted (path c) = refl
  voice_accepted (bus k z) = refl
  voice_accepted (trigger u at) = asked_voice e u at v one
  voice_accepted (phase u t) = refl
  voice_accepted (block c n x y) = voice_played (transport_at c) n

  voice_idle : (c : Call) → (record_at (step e c) v).voice ≡ (record_at e v).voice
  unfolding step
  voice_idle c = go (accepts e c)
    where
      go : (t : Bool) → (record_at (cond t (accepted e c) e) v).voice ≡ (record_at e v).voice
      go true = voice_accepted c
      go false = refl

module _ (e : EnsembleState) (s : e.shared ≡ false) where
  server_played : (c : Option Transport) (n : ℕ) → (by_transport e c (λ t. played_ensemble e t n)).server.voice ≡ e.server.voice
  unfolding played_ensemble
  server_played (Some t) n = rw s refl
  server_played None n = refl

  server_accepted : (c : Call) → (accepted e c).server.voice ≡ e.server.voice
  unfolding accepted asked_ensemble
  server_accepted (settings c shared) = refl
  server_accepted (shape c) = refl
  server_accepted (path c) = refl
  server_accepted (bus k z) = refl
  server_accepted (trigger u at) = refl
  server_accepted (phase u t) = refl
  server_accepted (block c n x y) = server_played (transport_at c) n

  server_idle : (c : Call) → (step e c).server.voice ≡ e.server.voice
  unfolding step
  server_idle c = go (accepts e c)
    where
      go : (t : Bool) → (cond t (accepted e c) e).server.voice ≡ e.server.voice
      go true = server_accepted c
      go false = refl

pub idle : Idle
idle e c = (λ s v one. voice_idle e v one s c, λ s. server_idle e s c)
