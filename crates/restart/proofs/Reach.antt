-- Every player that calls reach has settled settings, and curves that their kept points tell. Assumes nothing.
use Rattle.std.specs.Prelude.{None, Option, Some}
use Prim.Native.Nat.{ℕ}
use mathlib.Core.Path.{◌≡◌, refl}
use mathlib.Core.Bool.{true}
use mathlib.Core.List.{List}
use lib.Ieee.{Float}
use borrow.Author.Tests.{eqb-true}
use Rattle.shape.specs.declared.Shape.{Shape}
use Rattle.path.specs.declared.Path.{Path}
use Rattle.settings.specs.declared.choices.LfoType.{LfoType}
use Rattle.codes.specs.declared.SettingsCodes.{SettingsCodes}
use Rattle.settings.specs.Codes.{settings_at, transport_at}
use Rattle.settings.specs.Records.{default_settings}
use Rattle.slot.specs.Slot.{slot_curve}
use Rattle.slot.specs.Moved.{moved_curve}
use Rattle.questions.specs.Questions.{first_no, settings_questions}
use Rattle.questions.proofs.Facts.{settings_accepted}
use Rattle.calls.specs.State.{State, new_state, with_settings, with_shape, with_path, with_bus}
use Rattle.calls.specs.Blocks.{pending_of, played_state}
use Rattle.calls.specs.Calls.{Call, settings, shape, path, bus, phase, block, questions, answer, by_settings, by_transport, makes, no_player, made, accepted, after}
use Rattle.calls.proofs.Kept.{kept_after}
use Rattle.restart.specs.Rule.{Equal}
use Rattle.restart.proofs.Kept.{KeptShape, KeptPath, default_shape_lem, given_shape_lem, default_path_lem, given_path_lem, same_shape, same_path}
use Rattle.restart.proofs.Settled.{Settled, settled_stored, settled_default, Fine, settings_fine}
use Rattle.settings.specs.declared.record.Settings.{Settings}
use Rattle.settings.specs.declared.record.Transport.{Transport}

-- what every player has
pub record Good (p : State) : Type 0 where
  pub settled : Settled p.lfo.settings
  pub shape_kept : KeptShape p.lfo.shape
  pub path_kept : KeptPath p.lfo.path

-- ---- as it is made

good_new : (seed : ℕ) (c : Option Settings) → Fine c → Good (by_settings (no_player seed) c (λ s. new_state s seed))
unfolding new_state
good_new seed (Some s) f = record { settled = settled_stored s f; shape_kept = default_shape_lem; path_kept = default_path_lem }
good_new seed None f = record { settled = settled_stored default_settings settled_default; shape_kept = default_shape_lem; path_kept = default_path_lem }

pub good_made : (c : SettingsCodes) (seed : ℕ) → makes c ≡ true → Good (made c seed)
unfolding made
good_made c seed e = rw e (good_new seed (settings_at c) (settings_fine c (settings_accepted c (eqb-true (first_no (settings_questions c)) 0 e)).finite_all))

-- ---- every call keeps it

good_set : (p : State) (c : Option Settings) → Fine c → Good p → Good (by_settings p c (with_settings p))
unfolding with_settings
good_set p (Some s) f g = record { settled = settled_stored s f; shape_kept = g.shape_kept; path_kept = g.path_kept }
good_set p None f g = g

good_played : (p : State) (c : Option Transport) (n : ℕ) (at : _) → Good p → Good (by_transport p c (λ t. played_state p t n at))
unfolding played_state
good_played p (Some t) n at g = record { settled = g.settled; shape_kept = g.shape_kept; path_kept = g.path_kept }
good_played p None n at g = g

good_accepted : (p : State) (c : Call) → answer p c ≡ 0 → Good p → Good (accepted p c)
unfolding accepted answer questions with_shape with_path with_bus
good_accepted p (settings c) e g = good_set p (settings_at c) (settings_fine c (settings_accepted c e).finite_all) g
good_accepted p (shape c) e g = record { settled = g.settled; shape_kept = given_shape_lem c; path_kept = g.path_kept }
good_accepted p (path c) e g = record { settled = g.settled; shape_kept = g.shape_kept; path_kept = given_path_lem c }
good_accepted p (bus k z) e g = record { settled = g.settled; shape_kept = g.shape_kept; path_kept = g.path_kept }
good_accepted p (phase c) e g = g
good_accepted p (block c n r x y) e g = good_played p (transport_at c) n (pending_of r) g

pub good_after : (p : State) (cs : List Call) → Good p → Good (after p cs)
good_after = kept_after Good good_accepted

-- ---- the frames of equal players read one curve

pub same_curve : (kind : LfoType) (p q : State) → Good p → Good q → Equal p q → slot_curve kind p.lfo ≡ slot_curve kind q.lfo
same_curve kind p q g h e =
    go p.lfo.shape q.lfo.shape p.lfo.path q.lfo.path p.lfo.buses q.lfo.buses
    (same_shape p.lfo.shape q.lfo.shape g.shape_kept h.shape_kept e.shape) (same_path p.lfo.path q.lfo.path g.path_kept h.path_kept e.path) e.buses
  where
    go : (a b : Shape) (c d : Path) (l m : List Float) → a ≡ b → c ≡ d → l ≡ m → moved_curve kind a c l ≡ moved_curve kind b d m
    go a b c d l m u v w = rw (u, v, w) refl
