-- A block's page, of what calls set. Assumes nothing.
use Rattle.std.specs.Prelude.{ℕ}
use Rattle.clock.specs.declared.block.Block.{Block}
use Rattle.slot.specs.declared.page.Page.{Page}
use Rattle.slot.specs.Moved.{points_of, loop_of}
use Rattle.ensemble.specs.declared.BlockPage.{BlockPage}

-- of `frames` frames for `voices` voices
abbrev pub block_page : Page → Block → ℕ → ℕ → BlockPage
block_page page block frames voices =
    let kind = page.settings.kind in
    record {
      settings = page.settings;
      block = block;
      lists = page.lists;
      n = points_of kind page.shape.len page.path.len;
      times = page.path.times;
      closed = page.path.closed;
      loopback = loop_of kind page.shape.loopback page.lists.xs;
      frames = frames;
      voices = voices;
    }
