-- `lines_fit` meets its contract: 39 bytes a line are enough. Assumes nothing.
use Prim.Native.Nat.{ℕ, ◌+◌, ◌*◌, ◌≤◌}
use mathlib.Core.Path.{◌≡◌, sym, ◌∙◌}
use mathlib.Core.Bool.{Bool, true}
use native.Mathlib.Omega.{arith}
use borrow.Author.Tests.{leb-true, le-leb}
use Rattle.text.specs.Lines.{lines_size}
use Rattle.text.specs.Write.{fits}
use Rattle.text.proofs.Steps.{lines_most}
use Rattle.text.proofs.lines_fit.Goals as goal

enough : {t : Bool} (len at first n : ℕ) → lines_size first n ≤ 39 * n → t ≡ fits len at (39 * n) → t ≡ true → t ≡ fits len at (lines_size first n)
enough len at first n most asked e =
    let room = leb-true (at + 39 * n) len (sym asked ∙ e) in
    e ∙ sym (le-leb (at + lines_size first n) len (omega arith))

pub returns-then-fits : goal.returns-then-fits
returns-then-fits c =
    let a = c.args in
    enough a.len a.at a.first a.n (lines_most a.n a.first c.requires.1) c.fits.ensures c.if-fits.true
