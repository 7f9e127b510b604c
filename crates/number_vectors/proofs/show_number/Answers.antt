-- `show_number` is safe: the form of a number has at most ten bytes. Assumes nothing.
use Rattle.std.proofs.Common.{sym, arith, length-take-le}
use Rattle.number.proofs.Form.{encoded_length}
use Rattle.number_vectors.proofs.show_number.Goals as goal

pub slice_bounds-out-end : goal.slice_bounds-out-end
slice_bounds-out-end g c =
    let short = encoded_length c.args.n in
    omega (arith, c.size-end.ensures, short, c.write.auto.out)

pub slice_bounds-show_read-end : goal.slice_bounds-show_read-end
slice_bounds-show_read-end g c =
    let short = encoded_length c.args.n in
    sym (length-take-le _ _ (omega (arith, c.size-end.ensures, short, c.write.auto.out)))
