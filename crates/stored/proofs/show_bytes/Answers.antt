-- `show_bytes` meets its contract. Assumes nothing.
use Rattle.std.proofs.Common.{◌≡◌, ◌<◌, ◌^◌, false, ap, Some, get_or, add-one}
use lib.Seq.{take-suc}
use Rattle.std.specs.Fmt.{styled_digits_output}
use Rattle.std.proofs.lemmas.Fmt.{hex_byte}
use Rattle.std.proofs.KnownBytes.{Appends-nil, Appends-trans}
use Rattle.stored.specs.Shown.{pair_of, pairs}
use Rattle.stored.proofs.Lines.{pairs_snoc}
use Rattle.stored.proofs.show_bytes.Goals as goal

pub loop-byte-init : goal.loop-byte-init
unfolding pairs
loop-byte-init g c = Appends-nil _

pub loop-byte-preserved : goal.loop-byte-preserved
loop-byte-preserved g c =
    let i = c.loop-byte.byte-index in
    let small : get_or c.args.bytes.now i 0 < 2 ^ 8 = (c.type_inv.bytes i).fits in
    let text : styled_digits_output c.in_radix.result c.laid_out.result ≡ Some (pair_of (get_or c.args.bytes.now i 0)) =
    rw (c.laid_out.ensures, c.in_radix.ensures) (ap Some (hex_byte false _ small)) in
    rw (add-one, take-suc c.args.bytes.now i 0 c.loop-byte-test.true, pairs_snoc)
    (Appends-trans _ _ _ _ _ c.loop-byte.invariant (rw text at c.in_ok-write.ensures.bytes))
