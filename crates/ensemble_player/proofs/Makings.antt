-- What making an ensemble gives, of the equations of what it calls. Assumes nothing.
use Rattle.std.proofs.Common.{◌≡◌, ℕ, zero, suc, ◌<◌, ◌≤◌, Bool, true, false, cond, ◌&&◌, leb, List, [], ◌∷◌, ◌++◌, map, get_or, take, sym, refl, ap, ◌∙◌, subst, ap₂, inl, inr, le_of_suc-le-suc, eq-or-lt_of_le, arith, lit≤, take_all, leb-true, None, Option, Some}
use mathlib.Core.List.{map-append}
use lib.Seq.{take-append-le}
use Rattle.listlaws.specs.Tables.{tabulate}
use Rattle.listlaws.proofs.Tabulation.{length_tabulate, get_d_tabulate}
use Rattle.codes.specs.declared.SettingsCodes.{SettingsCodes}
use Rattle.settings.specs.Codes.{settings_at}
use Rattle.reach.specs.Bounds.{AnchorIn}
use Rattle.slot.proofs.Slots.{new_voice_in}
use Rattle.ensemble.specs.declared.Member.{Member}
use Rattle.ensemble.specs.Ensemble.{no_member}
use Rattle.curves.specs.Given.{is_yes}
use Rattle.questions.proofs.Laws.{and_true}
use Rattle.calls.specs.State.{State, new_state}
use Rattle.calls.specs.Calls as calls
use Rattle.calls.specs.Calls.{by_settings}
use Rattle.player.specs.declared.Player.{Player}
use Rattle.player.specs.Player.{state_of as playerState, Valid as PlayerValid}
use Rattle.ensemble_calls.specs.Ensembles.{VoiceRecord, seed_of, server_index, new_ensemble}
use Rattle.ensemble_calls.specs.Calls.{count_for, made}
use Rattle.ensemble_player.specs.declared.Ensemble.{Ensemble}
use Rattle.ensemble_player.specs.Ensembles.{record_of, new_member, state_of, Valid}
use Rattle.settings.specs.declared.record.Settings.{Settings}

-- ---- the first of a table

pub take_tabulate : {A : Type 0} (f : ℕ → A) (n m : ℕ) → n ≤ m → take n (tabulate f m) ≡ tabulate f n
unfolding tabulate
take_tabulate f n zero h = let e : n ≡ 0 = omega arith in rw e refl
take_tabulate f n (suc m) h =
    elim (eq-or-lt_of_le h) [
      | inl e ↦ rw e (take_all (suc m) (tabulate f (suc m)) (omega (arith, length_tabulate f (suc m))))
      | inr k ↦ take-append-le n (tabulate f m) (f m ∷ []) (omega (arith, length_tabulate f m, le_of_suc-le-suc k)) ∙ take_tabulate f n m (le_of_suc-le-suc k)
    ]

pub map_tabulate : {A B : Type 0} (g : A → B) (f : ℕ → A) (n : ℕ) → map g (tabulate f n) ≡ tabulate (λ k. g (f k)) n
unfolding tabulate
map_tabulate g f zero = refl
map_tabulate g f (suc n) = map-append g (tabulate f n) (f n ∷ []) ∙ ap (λ l. l ++ (g (f n) ∷ [])) (map_tabulate g f n)

count_in : (count : ℕ) → (2 ≤ count_for count) × (count_for count ≤ 16)
unfolding count_for
count_in count = go (leb 2 count && leb count 16) refl
  where
    go : (b : Bool) → (leb 2 count && leb count 16) ≡ b → (2 ≤ cond b count 2) × (cond b count 2 ≤ 16)
    go true e = let a = and_true _ _ e in (leb-true _ _ a.0, leb-true _ _ a.1)
    go false e = (lit≤ tt, lit≤ tt)

-- a player just made has played no frame
none_played : (c : SettingsCodes) (seed : ℕ) → (calls.made c seed).played ≡ 0
unfolding calls.made new_state
none_played c seed = go (calls.makes c) (settings_at c)
  where
    go : (b : Bool) (k : Option Settings) → (cond b (by_settings (calls.no_player seed) k (λ s. new_state s seed)) (calls.no_player seed)).played ≡ 0
    go true (Some s) = refl
    go true None = refl
    go false k = refl

-- ---- the ensemble

module _ (c : SettingsCodes) (shared count seed : ℕ) where
  abbrev making : Player → List Member → ℕ → Ensemble
  making p members n = record { page = p.page; shared = is_yes shared; count = n; decks = record { server = p.deck; asked = None; members = members } }

  module _ (s : ℕ) (p : Player) (members : List Member) (n : ℕ) (seeded : s ≡ seed_of seed server_index) (new : playerState p ≡ calls.made c s) (valid : PlayerValid p)
      (voices : members ≡ tabulate (λ v. new_member (seed_of seed v)) 16) (counted : n ≡ count_for count) where
    server_is : playerState p ≡ calls.made c (seed_of seed server_index)
    server_is = new ∙ ap (λ (z : ℕ). calls.made c z) seeded

    pub made_state : state_of (making p members n) ≡ made c shared count seed
    unfolding made new_ensemble
    made_state =
        ap₂ (λ (q : State) (l : List VoiceRecord). record { lfo = q.lfo; shared = is_yes shared; voices = l; server = record { voice = q.voice; pending = None }; played = q.played })
        server_is
        (rw (voices, counted) (ap (map record_of) (take_tabulate (λ v. new_member (seed_of seed v)) (count_for count) 16 (count_in count).1) ∙ map_tabulate record_of (λ v. new_member (seed_of seed v)) (count_for count)))

    members_in : (v : ℕ) → v < n → AnchorIn p.deck.played (get_or members v no_member).voice.anchor
    members_in v h =
        let few : n ≤ 16 = rw counted (count_in count).1 in
        let is : get_or members v no_member ≡ new_member (seed_of seed v) = ap (λ (l : List Member). get_or l v no_member) voices ∙ get_d_tabulate (λ u. new_member (seed_of seed u)) 16 v no_member (omega (arith, few, h)) in
        let none : p.deck.played ≡ 0 = ap (λ (q : State). q.played) server_is ∙ none_played c (seed_of seed server_index) in
        subst (λ (m : Member). AnchorIn p.deck.played m.voice.anchor) (sym is) (subst (λ (k : ℕ). AnchorIn k (new_member (seed_of seed v)).voice.anchor) (sym none) (new_voice_in (seed_of seed v)))

    pub made_valid : Valid (making p members n)
    made_valid =
        record {
          server_valid = valid;
          listed = rw voices (length_tabulate (λ v. new_member (seed_of seed v)) 16);
          several = rw counted (count_in count).0;
          few = rw counted (count_in count).1;
          members_in = members_in;
        }
