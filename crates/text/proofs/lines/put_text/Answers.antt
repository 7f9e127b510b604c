-- `put_text` meets its contract: a part of the buffer is written over. Assumes nothing.
use Prim.Native.Nat.{ℕ, ◌+◌, ◌-◌}
use mathlib.Core.Path.{◌≡◌, refl}
use mathlib.Core.List.{List, append_assoc}
use native.Mathlib.Omega.{arith}
use lib.ListN.{length}
use lib.Seq.{drop-drop}
use borrow.Rule.Slice.PartMut.{put_mid}
use Rattle.listlaws.specs.Over.{over}
use Rattle.text.proofs.lines.put_text.Goals as goal

written : (x : List ℕ) (at : ℕ) (s : List ℕ) {t : List ℕ} → t ≡ s → put_mid at (at + length s - at) x t ≡ over x at s
unfolding over
written x at s e = let size : at + length s - at ≡ length s = omega arith in rw (e, size) (simp (append_assoc, drop-drop))

pub returns : goal.returns
returns c = record { next = refl; bytes = written c.args.out.now c.args.at c.args.s.now c.copy_from_slice.ensures.after }
