-- The voices of an ensemble read the curve of the slot. Assumes nothing.
use mathlib.Core.Path.{◌≡◌}
use Prim.Native.Nat.{ℕ}
use Rattle.clock.specs.declared.block.Block.{Block}
use Rattle.clock.specs.declared.free.Clock.{Clock}
use Rattle.slot.specs.declared.page.Page.{Page}
use Rattle.slot.specs.Slot.{slot_curve}
use Rattle.slot.specs.Page.{lfo_of, ListsIn}
use Rattle.slot.proofs.Blocks.{curve_is}
use Rattle.ensemble.specs.Ensemble.{page_curve}
use Rattle.ensemble.specs.Pages.{block_page}

pub page_curve_lem : (page : Page) (block : Block) (frames voices : ℕ) (clock : Clock) → ListsIn page → page_curve (block_page page block frames voices) ≡ slot_curve page.settings.kind (lfo_of page clock)
page_curve_lem page block frames voices clock e = curve_is page.settings.kind page.shape page.path page.buses page.lists e
