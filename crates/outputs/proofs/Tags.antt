-- A call behind its tag. Assumes nothing.
use Prim.Native.Nat.{ℕ}
use mathlib.Core.Path.{◌≡◌}
use mathlib.Core.List.{List}
use lib.ListN.{get_or}
use Rattle.fields.specs.Parser.{read, fault, Parser, after}
use Rattle.fields.specs.Fields.{number}
use Rattle.fields.proofs.Chains.{no_fault}
use Rattle.runs.proofs.Ahead.{Ahead, Steady, ahead_then, ahead_number}
use Rattle.outputs.specs.Output.{none, tagged}

module _ {A : Type 0} (by_tag : List (Parser A)) where
  pub tag_then : (run : List ℕ) (at : ℕ) {tag next : ℕ} → read tag next ≡ number run at → get_or by_tag tag none run next ≡ tagged by_tag run at
  unfolding tagged after
  tag_then run at r = rw (← r)

  pub tag_ill : (run : List ℕ) (at : ℕ) {n : ℕ} → fault n ≡ number run at → fault n ≡ tagged by_tag run at
  unfolding tagged after
  tag_ill run at r = rw (← r)

  pub ahead_tagged : ((tag : ℕ) → Steady (get_or by_tag tag none)) → Ahead (tagged by_tag)
  unfolding tagged
  ahead_tagged = ahead_then _ _ ahead_number

pub steady_none : {A : Type 0} → Steady (none {A = A})
steady_none = record { steady = λ run at a next e. absurd (no_fault e) }
