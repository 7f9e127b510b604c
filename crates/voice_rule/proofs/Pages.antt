-- Every page that the calls on an ensemble reach is one that a player's calls reach. Assumes nothing.
use Rattle.std.specs.Prelude.{None, Option, Some}
use Prim.Native.Nat.{ℕ, ◌<◌}
use mathlib.Core.Path.{◌≡◌, refl, sym, ap, subst}
use mathlib.Core.Bool.{Bool, true, false, cond}
use mathlib.Core.List.{List, [], ◌∷◌}
use borrow.Author.Tests.{eq-eqb}
use Rattle.codes.specs.declared.SettingsCodes.{SettingsCodes}
use Rattle.settings.specs.Codes.{transport_at}
use Rattle.slot.specs.Slot.{Lfo}
use Rattle.curves.specs.Given.{is_yes}
use Rattle.questions.specs.Questions.{first_no, settings_questions}
use Rattle.calls.specs.State.{State}
use Rattle.calls.specs.Calls as player
use Rattle.calls.specs.Calls.{by_transport}
use Rattle.restart.proofs.Reach.{Good, good_made, good_after}
use Rattle.ensemble_calls.specs.Ensembles.{EnsembleState, seed_of, server_index, asked_ensemble}
use Rattle.ensemble_calls.specs.Blocks.{player_of, played_ensemble}
use Rattle.ensemble_calls.specs.Calls.{Call, settings, shape, path, bus, trigger, phase, block, accepts, makes, made, accepted, step, after}
use Rattle.ensemble_calls.specs.AsPlayer.{player_at}
use Rattle.ensemble_calls.proofs.Own.{settings_taken, shape_taken, path_taken, bus_taken}
use Rattle.ensemble_calls.proofs.AsPlayer.{page_made, made_as_player}
use Rattle.settings.specs.declared.record.Transport.{Transport}

-- it is said of the settings and curves alone
good_page : (p q : State) → p.lfo ≡ q.lfo → Good p → Good q
good_page p q e g = go p.lfo q.lfo e (record { settled = g.settled; shape_kept = g.shape_kept; path_kept = g.path_kept })
  where
    by : Lfo → State
    by l = record { lfo = l; voice = q.voice; played = q.played }

    go : (l m : Lfo) → l ≡ m → Good (by l) → Good (by m)
    go l m e g = subst (λ (z : Lfo). Good (by z)) e g

abbrev GoodPage : EnsembleState → Type 0
GoodPage e = Good (player_of e e.server)

pub good_voice : (e : EnsembleState) (v : ℕ) → GoodPage e → Good (player_at e v)
good_voice e v g = good_page (player_of e e.server) (player_at e v) refl g

pub page_good : (c : SettingsCodes) (shared count seed v : ℕ) → makes c shared count ≡ true → v < count → GoodPage (made c shared count seed)
page_good c shared count seed v h one =
    good_page (player.made c (seed_of seed (cond (is_yes shared) server_index v))) (player_of (made c shared count seed) (made c shared count seed).server)
    (ap (λ (p : State). p.lfo) (sym (made_as_player c shared count seed v h one)))
    (good_made c (seed_of seed (cond (is_yes shared) server_index v)) (eq-eqb (first_no (settings_questions c)) 0 (page_made c shared count h).1))

-- an edit that the player accepts
good_edit : (p : State) (c : player.Call) → player.accepts p c ≡ true → Good p → Good (player.accepted p c)
unfolding player.after player.step
good_edit p c h g = rw h at (good_after p (c ∷ []) g)

good_played : (e : EnsembleState) (c : Option Transport) (n : ℕ) → GoodPage e → GoodPage (by_transport e c (λ t. played_ensemble e t n))
unfolding played_ensemble
good_played e (Some t) n g = record { settled = g.settled; shape_kept = g.shape_kept; path_kept = g.path_kept }
good_played e None n g = g

good_accepted : (e : EnsembleState) (c : Call) → accepts e c ≡ true → GoodPage e → GoodPage (accepted e c)
unfolding accepted
good_accepted e (settings c shared) h g = good_page _ _ refl (good_edit (player_of e e.server) (player.settings c) (settings_taken e (player_of e e.server) c shared h) g)
good_accepted e (shape c) h g = good_page _ _ refl (good_edit (player_of e e.server) (player.shape c) (shape_taken e (player_of e e.server) c h) g)
good_accepted e (path c) h g = good_page _ _ refl (good_edit (player_of e e.server) (player.path c) (path_taken e (player_of e e.server) c h) g)
good_accepted e (bus k z) h g = good_page _ _ refl (good_edit (player_of e e.server) (player.bus k z) (bus_taken e (player_of e e.server) k z h) g)
good_accepted e (trigger u at) h g = unfold asked_ensemble in record { settled = g.settled; shape_kept = g.shape_kept; path_kept = g.path_kept }
good_accepted e (phase u t) h g = g
good_accepted e (block c n x y) h g = good_played e (transport_at c) n g

good_step : (e : EnsembleState) (c : Call) → GoodPage e → GoodPage (step e c)
unfolding step
good_step e c g = go (accepts e c) refl
  where
    go : (t : Bool) → accepts e c ≡ t → GoodPage (cond t (accepted e c) e)
    go true h = good_accepted e c h g
    go false h = g

pub good_pages : (e : EnsembleState) (cs : List Call) → GoodPage e → GoodPage (after e cs)
unfolding after
good_pages e [] g = g
good_pages e (c ∷ cs) g = good_pages (step e c) cs (good_step e c g)
