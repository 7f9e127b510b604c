-- What the parts of the code promise: turns of run_calls, on an ensemble. Assumes nothing.
use Rattle.std.specs.Prelude.{ℕ, List, Result}
use Rattle.number.specs.declared.Fault.{Fault}
use Rattle.fields.specs.Parser.{Parser}
use Rattle.ensemble_calls.specs.Calls.{Call}
use Rattle.ensemble_player.specs.declared.Ensemble.{Ensemble}
use Rattle.ensemble_player.specs.Ensembles.{state_of, Valid}
use Rattle.run_calls.specs.declared.Next.{Next}
use Rattle.run_calls.specs.declared.Went.{Went}
use Rattle.run_calls.specs.Turns as run_calls
use Rattle.ensemble_runner.specs.Output.{ensembles}

-- A turn of a call that is read from the place n.at on, and leaves n as n'. Where there is a fault in its bytes nothing is written, and what is played stays.
abbrev pub TurnsOn : Parser Call → List ℕ → Next Ensemble → List ℕ → ℕ → Result Went Fault → Next Ensemble → List ℕ → Type 0
TurnsOn = run_calls.TurnsInPlace ensembles state_of Valid

-- a turn of the call a, behind which the run goes on at n.at; it leaves n as n'
abbrev pub TurnsBy : Call → Next Ensemble → List ℕ → ℕ → Went → Next Ensemble → List ℕ → Type 0
TurnsBy = run_calls.TurnsBy ensembles state_of Valid
