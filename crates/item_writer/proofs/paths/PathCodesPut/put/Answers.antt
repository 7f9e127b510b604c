-- A path is put, part by part. Assumes nothing.
use native.Mathlib.Omega.{arith}
use lib.ListN.{length-take}
use Rattle.item_writer.proofs.Laws.{◌then◌, at_most}
use Rattle.item_writer.proofs.Items.{path_put}
use Rattle.item_writer.proofs.paths.PathCodesPut.put.Goals as goal

pub returns : goal.returns
returns c =
    path_put c.args.self c.path_of-path.ensures.0
    (at_most (c.put-count.ensures then c.put-closed.ensures then c.put_row.ensures) (simp length-take (omega (arith, c.path_of-path.ensures.1))))
