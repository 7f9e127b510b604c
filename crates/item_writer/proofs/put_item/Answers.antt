-- `put_item` meets its contract. Assumes nothing.
use Rattle.item_writer.proofs.Laws.{◌then◌}
use Rattle.item_writer.proofs.Items.{item_put}
use Rattle.item_writer.proofs.put_item.Goals as goal

pub returns : goal.returns
returns c =
    item_put _
    (c.put_front-front.ensures
    then c.put-seed.ensures
    then c.put-tempo.ensures
    then c.put-bar.ensures
    then c.put-swing.ensures
    then c.put.ensures)
