-- What is written so far. Assumes nothing.
use Rattle.std.proofs.Common.{take}
use Rattle.std.specs.Io.KnownBytes.{Appends}
use Rattle.stored.specs.Shown.{pairs}
use Rattle.stored.proofs.show_bytes.Given as goal

abbrev pub invariant-loop-byte : goal.invariant-loop-byte
invariant-loop-byte g l = Appends (g.W.Write.contents l.initial.to) (g.W.Write.contents l.to) (pairs (take l.byte-index l.bytes))
