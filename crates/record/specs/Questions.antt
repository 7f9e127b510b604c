-- The questions that are put to an item, as to one call, over all its parts: each of the very tests of the calls. Assumes nothing.
use Rattle.std.specs.Prelude.{ℕ, Bool, ◌&&◌, List, [], ◌∷◌, length, get_or, Float}
use Rattle.std.specs.Float.{nan}
use Rattle.std.specs.Float.Ieee.Scale.{finite}
use Rattle.settings.specs.Codes.{settings_known, transport_known}
use Rattle.codes.specs.declared.ItemCodes.{ItemCodes}
use Rattle.questions.specs.Tests.{every, shape_known, path_known, settings_finite, shape_finite, path_finite, transport_finite, loopback_in, path_on_paper, shape_on_grid, smooth_in, transport_in}
use Rattle.questions.specs.Questions.{Posed, first_no}
use Rattle.record.specs.Items.{transport_of}

-- 1. "Is each code known"
abbrev pub item_known : ItemCodes → Bool
item_known i = settings_known i.settings && shape_known i.shape && path_known i.path && transport_known (transport_of i)

abbrev pub buses_finite : List Float → Bool
buses_finite l = every (λ k. finite (get_or l k nan)) (length l)

-- 2. "Is each float finite"
abbrev pub item_finite : ItemCodes → Bool
item_finite i = settings_finite i.settings && shape_finite i.shape && path_finite i.path && buses_finite i.buses && transport_finite (transport_of i)

-- 11 "between question 4 and number 10", and 10 "just before what is left of question 5"
unfoldable pub item_questions : ItemCodes → List Posed
item_questions i =
    (1, item_known i)
    ∷ (2, item_finite i)
    ∷ (4, loopback_in i.shape)
    ∷ (11, path_on_paper i.path)
    ∷ (10, shape_on_grid i.shape)
    ∷ (5, smooth_in i.settings.smooth)
    ∷ (6, transport_in (transport_of i))
    ∷ []

-- 0, or the number of the first one that it fails
unfoldable pub item_answer : ItemCodes → ℕ
item_answer i = first_no (item_questions i)
