-- What the proofs of `heun::step`, `advance` and `run_up` cite, over plain variables: the parts of a Heun step, and one step more. Assumes nothing.
use mathlib.Core.Path.{◌≡◌, sym, ap, ◌∙◌}
use Prim.Native.Nat.{ℕ, ◌+◌}
use native.Mathlib.Numerals.{add-one}
use lib.Ieee.{Float, binary32, mul}
use Rattle.floatlaws.specs.Numbers.{f32}
use Rattle.chaos.specs.declared.law.Attractor.{Attractor}
use Rattle.chaos.specs.declared.law.State.{State}
use Rattle.chaos.specs.Heun.{◌⊕◌, ◌⊙◌, heun, iterate}
use Rattle.chaos.specs.Law.{field_of}

module _ (f : State → State) (h : Float) (y : State) {k1 y1 k2 k y2 : State} where
  pub in_a_row : k1 ≡ f y → y1 ≡ y ⊕ h ⊙ k1 → k2 ≡ f y1 → k ≡ k1 ⊕ k2 → y2 ≡ y ⊕ mul binary32 h (f32 1 2) ⊙ k → y2 ≡ heun f h y
  unfolding heun
  in_a_row first there second both arrived = rw (arrived, both, second, there, first)

-- the state after n steps of h from s
abbrev pub after : Attractor → Float → State → ℕ → State
after attractor h s n = iterate n (heun (field_of attractor) h) s

pub one_more : (attractor : Attractor) (h : Float) (s : State) (n : ℕ) {at next : State} → at ≡ after attractor h s n → next ≡ heun (field_of attractor) h at → next ≡ after attractor h s (n + 1)
unfolding iterate
one_more attractor h s n here there = there ∙ ap (heun (field_of attractor) h) here ∙ ap (after attractor h s) (sym (add-one n))
