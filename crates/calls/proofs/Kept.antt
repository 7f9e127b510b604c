-- What every accepted call keeps, every list of calls keeps. Assumes nothing.
use mathlib.Core.Bool.{Bool, true, false, cond}
use mathlib.Core.Path.{◌≡◌, refl}
use mathlib.Core.List.{List, [], ◌∷◌}
use borrow.Author.Tests.{eqb-true}
use Rattle.calls.specs.State.{State}
use Rattle.calls.specs.Calls.{Call, answer, accepts, accepted, step, after}

module _ (P : State → Type 0) (keeps : (p : State) (c : Call) → answer p c ≡ 0 → P p → P (accepted p c)) where
  kept_step : (p : State) (c : Call) → P p → P (step p c)
  unfolding step
  kept_step p c g = go (accepts p c) refl
    where
      go : (b : Bool) → accepts p c ≡ b → P (cond b (accepted p c) p)
      go true e = keeps p c (eqb-true (answer p c) 0 e) g
      go false e = g

  pub kept_after : (p : State) (cs : List Call) → P p → P (after p cs)
  unfolding after
  kept_after p [] g = g
  kept_after p (c ∷ cs) g = kept_after (step p c) cs (kept_step p c g)
