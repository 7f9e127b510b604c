-- A page: what calls set of an LFO slot, with the lists that its frames read. Assumes nothing.
use Rattle.std.specs.Prelude.{◌≡◌, List, replicate, Float}
use Rattle.floatlaws.specs.Numbers.{f32_0}
use Rattle.shape.specs.declared.Shape.{Shape}
use Rattle.shape.specs.Shapes.{default_shape}
use Rattle.path.specs.declared.Path.{Path}
use Rattle.path.specs.Paths.{default_path}
use Rattle.settings.specs.declared.record.Settings.{Settings}
use Rattle.settings.specs.Records.{clamped_settings}
use Rattle.clock.specs.declared.free.Clock.{Clock}
use Rattle.slot.specs.declared.page.Page.{Page}
use Rattle.slot.specs.Moved.{lists_of}
use Rattle.slot.specs.Slot.{Lfo}

abbrev pub page_of : Settings → Shape → Path → List Float → Page
page_of s shape path buses = record { settings = s; shape = shape; path = path; buses = buses; lists = lists_of s.kind shape path buses }

-- as it is made
abbrev pub new_page : Settings → Page
new_page s = page_of (clamped_settings s) default_shape default_path (replicate 16 f32_0)

-- the slot that it is of, at this clock
abbrev pub lfo_of : Page → Clock → Lfo
lfo_of g clock = record { settings = g.settings; shape = g.shape; path = g.path; buses = g.buses; clock = clock }

-- the lists are those of the rest
abbrev pub ListsIn : Page → Type 0
ListsIn g = g.lists ≡ lists_of g.settings.kind g.shape g.path g.buses
