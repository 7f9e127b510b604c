-- `print_last` meets its contract: what is due where the input has ended fits into the buffer. Assumes nothing.
use Rattle.std.proofs.Common.{sym, arith, length-take-le}
use Rattle.printing.proofs.print_last.Goals as goal

pub slice_bounds-write_all-end : goal.slice_bounds-write_all-end
slice_bounds-write_all-end g c = omega (arith, c.last_text-n.ensures.room, c.last_text-n.auto.out)

pub slice_bounds-write_all-end-2 : goal.slice_bounds-write_all-end-2
slice_bounds-write_all-end-2 g c =
    sym (length-take-le _ _ (omega (arith, c.last_text-n.ensures.room, c.last_text-n.auto.out)))
