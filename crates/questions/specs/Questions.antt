-- The questions that are put to each call, in document 01's sequence, each with its number; the first "no" gives the answer. Assumes nothing.
use Rattle.std.specs.Prelude.{ℕ, ◌+◌, ◌^◌, Bool, ◌&&◌, cond, List, [], ◌∷◌, ltb, leb, Float}
use Rattle.std.specs.Float.Ieee.Scale.{finite}
use Rattle.codes.specs.declared.SettingsCodes.{SettingsCodes}
use Rattle.codes.specs.declared.TransportCodes.{TransportCodes}
use Rattle.settings.specs.Codes.{settings_known, transport_known}
use Rattle.codes.specs.declared.ShapeCodes.{ShapeCodes}
use Rattle.codes.specs.declared.PathCodes.{PathCodes}
use Rattle.codes.specs.declared.RestartCodes.{RestartCodes}
use Rattle.questions.specs.Tests.{settings_finite, smooth_in, shape_known, shape_finite, loopback_in, shape_on_grid, path_known, path_finite, path_on_paper, transport_finite, transport_in}

-- a question that is put: its number, and whether the answer is yes
abbrev pub Posed : Type 0
Posed = ℕ × Bool

-- "the first "no" gives the number .. Success is 0"
unfoldable pub first_no : List Posed → ℕ
first_no [] = 0
first_no (q ∷ rest) = cond q.1 (first_no rest) q.0

-- making a player, and setting its settings
unfoldable pub settings_questions : SettingsCodes → List Posed
settings_questions c = (1, settings_known c) ∷ (2, settings_finite c) ∷ (5, smooth_in c.smooth) ∷ []

-- setting or evaluating a shape; `others` says of the call's other floats that they are finite
unfoldable pub shape_questions : Bool → ShapeCodes → List Posed
shape_questions others c = (1, shape_known c) ∷ (2, (shape_finite c && others)) ∷ (4, loopback_in c) ∷ (10, shape_on_grid c) ∷ []

-- setting or evaluating a path, and measuring its legs
unfoldable pub path_questions : Bool → PathCodes → List Posed
path_questions others c = (1, path_known c) ∷ (2, (path_finite c && others)) ∷ (11, path_on_paper c) ∷ []

-- setting one bus
unfoldable pub bus_questions : ℕ → Float → List Posed
bus_questions bus value = (2, finite value) ∷ (9, ltb bus 16) ∷ []

-- reading the phase
unfoldable pub phase_questions : TransportCodes → List Posed
phase_questions t = (1, transport_known t) ∷ (2, transport_finite t) ∷ (6, transport_in t) ∷ []

-- Playing a block of `frames` frames into buffers of these lengths, by a player that has played so many.
unfoldable pub block_questions : ℕ → TransportCodes → ℕ → RestartCodes → ℕ → ℕ → List Posed
block_questions played t frames restart x_len y_len =
    (1, (transport_known t && ltb restart.code 2))
    ∷ (2, transport_finite t)
    ∷ (6, transport_in t)
    ∷ (7, (leb frames 4096 && leb frames x_len && leb frames y_len))
    ∷ (8, leb (played + frames) (2 ^ 40))
    ∷ []
