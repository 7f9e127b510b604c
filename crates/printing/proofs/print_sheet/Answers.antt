-- `print_sheet` meets its contract: more is read only where the window has room. Assumes nothing.
use Rattle.std.proofs.Common.{refl, arith}
use Rattle.printing.proofs.Loop.{fine_wanting, taken_in, not_over}
use Rattle.printing.proofs.print_sheet.Goals as goal

pub refill-requires : goal.refill-requires
refill-requires g c =
    let f = c.loop-window.invariant.fine in
    let s = c.take_turns-r.ensures in
    let room = fine_wanting f s (not_over refl c.if-not-r.true) (c.print_some.ensures c.if-not-print_some.false) in
    (taken_in f s, omega (arith, f.have_in, f.window_long), omega (arith, room, f.window_long))
