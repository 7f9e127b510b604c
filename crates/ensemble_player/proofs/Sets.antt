-- An edit of an ensemble is one of its serving voice's player. Assumes nothing.
use Rattle.std.proofs.Common.{◌≡◌, ℕ, ◌<◌, Bool, true, false, cond, get_or, sym, refl, ap, ◌∙◌, subst, arith, eq-eqb, ltb, None, Option, Some, Result, Ok, Err}
use lib.Ieee.{Float}
use Rattle.codes.specs.declared.SettingsCodes.{SettingsCodes}
use Rattle.settings.specs.Codes.{settings_at}
use Rattle.reach.specs.Bounds.{AnchorIn}
use Rattle.codes.specs.declared.ShapeCodes.{ShapeCodes}
use Rattle.codes.specs.declared.PathCodes.{PathCodes}
use Rattle.curves.specs.Given.{is_yes}
use Rattle.questions.specs.declared.question.Question.{Question}
use Rattle.questions.specs.Questions.{first_no}
use Rattle.calls.specs.State.{State, with_settings, with_shape, with_path, with_bus}
use Rattle.calls.specs.Calls as calls
use Rattle.calls.specs.Calls.{by_settings}
use Rattle.ensemble.specs.Ensemble.{no_member}
use Rattle.player.specs.declared.Player.{Player}
use Rattle.player.specs.Player.{state_of as playerState}
use Rattle.player.specs.Promises.{Changes as PlayerChanges}
use Rattle.ensemble_calls.specs.Ensembles.{EnsembleState}
use Rattle.ensemble_calls.specs.Questions.{page_questions}
use Rattle.ensemble_calls.specs.Calls.{Call, settings, shape, path, bus, questions, answer, accepted, edited}
use Rattle.ensemble_player.specs.declared.Ensemble.{Ensemble}
use Rattle.ensemble_player.specs.Ensembles.{state_of, server_of, paged_ensemble, Valid}
use Rattle.ensemble_player.specs.Promises.{Changes}
use Rattle.ensemble_player.proofs.Outcomes.{refused, changed}
use Rattle.settings.specs.declared.record.Settings.{Settings}

-- ---- an edit moves no voice and plays no frame

pub record Stays (p q : State) : Type 0 where
  pub voice : q.voice ≡ p.voice
  pub frames : q.played ≡ p.played

abbrev pub Edits : calls.Call → Type 0
Edits c = (p : State) → Stays p (calls.accepted p c)

settings_stays : (c : SettingsCodes) → Edits (calls.settings c)
unfolding calls.accepted with_settings
settings_stays c p = go (settings_at c)
  where
    go : (k : Option Settings) → Stays p (by_settings p k (with_settings p))
    go (Some s) = record { voice = refl; frames = refl }
    go None = record { voice = refl; frames = refl }

shape_stays : (c : ShapeCodes) → Edits (calls.shape c)
unfolding calls.accepted with_shape
shape_stays c p = record { voice = refl; frames = refl }

path_stays : (c : PathCodes) → Edits (calls.path c)
unfolding calls.accepted with_path
path_stays c p = record { voice = refl; frames = refl }

bus_stays : (k : ℕ) (z : Float) → Edits (calls.bus k z)
unfolding calls.accepted with_bus
bus_stays k z p = record { voice = refl; frames = refl }

taken : (p : State) (c : calls.Call) → calls.accepts p c ≡ true → calls.step p c ≡ calls.accepted p c
unfolding calls.step
taken p c h = rw h

-- ---- the ensemble with the player that an edit leaves

module _ (e : Ensemble) (valid : Valid e) (d : calls.Call) (edits : Edits d) where
  abbrev S : EnsembleState
  S = state_of e

  abbrev P : State
  P = playerState (server_of e)

  abbrev with_server : State → Bool → EnsembleState
  with_server q shared = record { lfo = q.lfo; shared = shared; voices = S.voices; server = record { voice = q.voice; pending = e.decks.asked }; played = q.played }

  accepted_page : (shared : Bool) → with_server (calls.accepted P d) shared ≡ edited S shared d
  accepted_page shared = go (edits P).voice (edits P).frames
    where
      go : {v v' : _} {n n' : ℕ} → v ≡ v' → n ≡ n'
          → ◌≡◌ {A = EnsembleState} (record { lfo = (calls.accepted P d).lfo; shared = shared; voices = S.voices; server = record { voice = v; pending = e.decks.asked }; played = n })
          (record { lfo = (calls.accepted P d).lfo; shared = shared; voices = S.voices; server = record { voice = v'; pending = e.decks.asked }; played = n' })
      go a b = rw (a, b) refl

  module _ (server : Player) (h : PlayerChanges (server_of e) d (Ok server)) where
    server_is : playerState server ≡ calls.accepted P d
    server_is = h.state_is ∙ taken P d (eq-eqb _ _ (sym h.answer_is))

    stays : Stays P (playerState server)
    stays = subst (Stays P) (sym server_is) (edits P)

    pub paged_valid : (shared : Bool) → Valid (paged_ensemble e server shared)
    paged_valid shared =
        record {
          server_valid = h.valid;
          listed = valid.listed;
          several = valid.several;
          few = valid.few;
          members_in = λ (v : ℕ) (k : v < e.count). subst (λ (n : ℕ). AnchorIn n (get_or e.decks.members v no_member).voice.anchor) (sym stays.frames) (valid.members_in v k);
        }

    pub page_set : (shared : Bool) → state_of (paged_ensemble e server shared) ≡ edited S shared d
    page_set shared = ap (λ (q : State). with_server q shared) server_is ∙ accepted_page shared

  -- of a call whose questions are the edit's, and which leaves shared
  module _ (c : Call) (same : answer S c ≡ calls.answer P d) (edit : accepted S c ≡ edited S e.shared d) where
    pub edit_refused : (q : Question) → PlayerChanges (server_of e) d (Err q) → Changes e c (Err q)
    edit_refused q h = refused e c q (h.answer_is ∙ sym same) valid

    pub edit_done : (server : Player) → PlayerChanges (server_of e) d (Ok server) → Changes e c (Ok (paged_ensemble e server e.shared))
    edit_done server h = changed e c (h.answer_is ∙ sym same) (paged_ensemble e server e.shared) (page_set server h e.shared ∙ sym edit) (paged_valid server h e.shared)

module _ (e : Ensemble) (valid : Valid e) where
  pub shape_refused : (c : ShapeCodes) (q : Question) → PlayerChanges (server_of e) (calls.shape c) (Err q) → Changes e (shape c) (Err q)
  unfolding answer questions calls.answer calls.questions accepted
  shape_refused c = edit_refused e valid (calls.shape c) (shape_stays c) (shape c) refl refl

  pub shape_done : (c : ShapeCodes) (server : Player) → PlayerChanges (server_of e) (calls.shape c) (Ok server) → Changes e (shape c) (Ok (paged_ensemble e server e.shared))
  unfolding answer questions calls.answer calls.questions accepted
  shape_done c = edit_done e valid (calls.shape c) (shape_stays c) (shape c) refl refl

  pub path_refused : (c : PathCodes) (q : Question) → PlayerChanges (server_of e) (calls.path c) (Err q) → Changes e (path c) (Err q)
  unfolding answer questions calls.answer calls.questions accepted
  path_refused c = edit_refused e valid (calls.path c) (path_stays c) (path c) refl refl

  pub path_done : (c : PathCodes) (server : Player) → PlayerChanges (server_of e) (calls.path c) (Ok server) → Changes e (path c) (Ok (paged_ensemble e server e.shared))
  unfolding answer questions calls.answer calls.questions accepted
  path_done c = edit_done e valid (calls.path c) (path_stays c) (path c) refl refl

  pub bus_refused : (k : ℕ) (z : Float) (q : Question) → PlayerChanges (server_of e) (calls.bus k z) (Err q) → Changes e (bus k z) (Err q)
  unfolding answer questions calls.answer calls.questions accepted
  bus_refused k z = edit_refused e valid (calls.bus k z) (bus_stays k z) (bus k z) refl refl

  pub bus_done : (k : ℕ) (z : Float) (server : Player) → PlayerChanges (server_of e) (calls.bus k z) (Ok server) → Changes e (bus k z) (Ok (paged_ensemble e server e.shared))
  unfolding answer questions calls.answer calls.questions accepted
  bus_done k z = edit_done e valid (calls.bus k z) (bus_stays k z) (bus k z) refl refl

-- ---- the settings, with shared

-- what `ask` gives tells the test that it was handed
pub not_passed : (passes : Bool) {p q : Question} → ◌≡◌ {A = Result Unit Question} (Err q) (cond passes (Ok tt) (Err p)) → (passes ≡ false) × (q ≡ p)
not_passed true e = let z : ◌≡◌ {A = ℕ} 0 1 = cc e in absurd (omega arith)
not_passed false e = (refl, cc e)

pub is_passed : (passes : Bool) (p : Question) → ◌≡◌ {A = Result Unit Question} (Ok tt) (cond passes (Ok tt) (Err p)) → passes ≡ true
is_passed true p e = refl
is_passed false p e = let z : ◌≡◌ {A = ℕ} 0 1 = cc e in absurd (omega arith)

module _ (e : Ensemble) (valid : Valid e) (c : SettingsCodes) (shared : ℕ) where
  pub unknown_shared : (ltb shared 2 ≡ false) → Changes e (settings c shared) (Err Question.Known)
  unfolding answer questions page_questions first_no
  unknown_shared h = refused e (settings c shared) Question.Known (rw h refl) valid

  module _ (known : ltb shared 2 ≡ true) where
    same : answer (state_of e) (settings c shared) ≡ calls.answer (playerState (server_of e)) (calls.settings c)
    unfolding answer questions page_questions first_no calls.answer calls.questions
    same = rw known refl

    pub settings_refused : (q : Question) → PlayerChanges (server_of e) (calls.settings c) (Err q) → Changes e (settings c shared) (Err q)
    settings_refused q h = refused e (settings c shared) q (h.answer_is ∙ sym same) valid

    pub settings_done : (server : Player) → PlayerChanges (server_of e) (calls.settings c) (Ok server) → Changes e (settings c shared) (Ok (paged_ensemble e server (is_yes shared)))
    settings_done server h =
        changed e (settings c shared) (h.answer_is ∙ sym same) (paged_ensemble e server (is_yes shared))
        (page_set e valid (calls.settings c) (settings_stays c) server h (is_yes shared) ∙ unfold accepted in refl)
        (paged_valid e valid (calls.settings c) (settings_stays c) server h (is_yes shared))
