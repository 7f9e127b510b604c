-- What holds of the default curves and is kept by every accepted call that sets a curve holds of the curves of every player that calls have reached. Assumes nothing.
use Rattle.std.specs.Prelude.{None, Option, Some}
use Prim.Native.Nat.{ℕ}
use mathlib.Core.Path.{◌≡◌, sym, subst}
use mathlib.Core.Bool.{Bool, true, false, cond}
use Rattle.shape.specs.declared.Shape.{Shape}
use Rattle.shape.specs.Shapes.{default_shape}
use Rattle.path.specs.declared.Path.{Path}
use Rattle.path.specs.Paths.{default_path}
use Rattle.settings.specs.Codes.{settings_at, transport_at}
use Rattle.codes.specs.declared.SettingsCodes.{SettingsCodes}
use Rattle.codes.specs.declared.ShapeCodes.{ShapeCodes}
use Rattle.codes.specs.declared.PathCodes.{PathCodes}
use Rattle.curves.specs.Given.{given_shape, given_path}
use Rattle.questions.proofs.Facts.{ShapeAccepted, shape_accepted, PathAccepted, path_accepted}
use Rattle.calls.specs.State.{State, new_state, with_settings, with_shape, with_path, with_bus}
use Rattle.calls.specs.Blocks.{pending_of, played_state}
use Rattle.calls.specs.Calls.{Call, settings, shape, path, bus, phase, block, questions, answer, by_settings, by_transport, makes, no_player, made, accepted}
use Rattle.calls.proofs.Kept.{kept_after}
use Rattle.player.specs.declared.Player.{Player}
use Rattle.reached.specs.Traces.{History}
use Rattle.reached.proofs.Traces.{history_state}
use Rattle.settings.specs.declared.record.Settings.{Settings}
use Rattle.settings.specs.declared.record.Transport.{Transport}

module _ (P : Shape → Path → Type 0) (first : P default_shape default_path)
    (shaped : (s : Shape) (w : Path) (c : ShapeCodes) → ShapeAccepted true c → P s w → P (given_shape c) w)
    (travelled : (s : Shape) (w : Path) (c : PathCodes) → PathAccepted true c → P s w → P s (given_path c)) where
  abbrev Stores : State → Type 0
  Stores p = P p.lfo.shape p.lfo.path

  -- as it is made
  new_stores : (seed : ℕ) (c : Option Settings) → Stores (by_settings (no_player seed) c (λ s. new_state s seed))
  unfolding new_state
  new_stores seed (Some s) = first
  new_stores seed None = first

  made_stores : (c : SettingsCodes) (seed : ℕ) → Stores (made c seed)
  unfolding made
  made_stores c seed = go (makes c)
    where
      go : (b : Bool) → Stores (cond b (by_settings (no_player seed) (settings_at c) (λ s. new_state s seed)) (no_player seed))
      go true = new_stores seed (settings_at c)
      go false = new_stores seed None

  -- as a call leaves it
  set_stores : (p : State) (c : Option Settings) → Stores p → Stores (by_settings p c (with_settings p))
  unfolding with_settings
  set_stores p (Some s) g = g
  set_stores p None g = g

  played_stores : (p : State) (c : Option Transport) (n : ℕ) (at : Option ℕ) → Stores p → Stores (by_transport p c (λ t. played_state p t n at))
  unfolding played_state
  played_stores p (Some t) n at g = g
  played_stores p None n at g = g

  accepted_stores : (p : State) (c : Call) → answer p c ≡ 0 → Stores p → Stores (accepted p c)
  unfolding accepted with_shape with_path with_bus answer questions
  accepted_stores p (settings c) e g = set_stores p (settings_at c) g
  accepted_stores p (shape c) e g = shaped _ _ c (shape_accepted true c e) g
  accepted_stores p (path c) e g = travelled _ _ c (path_accepted true c e) g
  accepted_stores p (bus i z) e g = g
  accepted_stores p (phase t) e g = g
  accepted_stores p (block c n r x y) e g = played_stores p (transport_at c) n (pending_of r) g

  pub history_stores : (p : Player) → History p → P p.page.shape p.page.path
  history_stores p h = subst Stores (sym (history_state h)) (kept_after Stores accepted_stores (made h.codes h.seed) h.calls (made_stores h.codes h.seed))
