-- `show` meets its contract. Assumes nothing.
use Rattle.std.proofs.Common.{◌≡◌, ◌<◌, ◌^◌, ◌%◌, false, ap, Some, arith}
use Rattle.std.specs.Fmt.{styled_digits_output}
use Rattle.std.proofs.lemmas.Fmt.{hex_byte}
use Rattle.std.proofs.KnownBytes.{Appends-trans}
use Rattle.stored.specs.Shown.{pair_of}
use Rattle.stored.proofs.Lines.{on_ok}
use Rattle.stored.proofs.show.Goals as goal

pub returns-in_ok-write-in-Answer : goal.returns-in_ok-write-in-Answer
returns-in_ok-write-in-Answer g c =
    let small : c.in-Answer.a % 256 < 2 ^ 8 = omega arith in
    let text : styled_digits_output c.in_radix.result c.laid_out.result ≡ Some (pair_of (c.in-Answer.a % 256)) =
    rw (c.laid_out.ensures, c.in_radix.ensures) (ap Some (hex_byte false _ small)) in
    rw c.in-Answer.is (on_ok _ (Appends-trans _ _ _ _ _ (rw text at c.in_ok-write-in-Answer.ensures.bytes)) (rw c.first-in-Answer.ensures at c.show_bytes-in-Answer.ensures))
