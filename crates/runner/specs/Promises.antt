-- What the parts of the code promise: turns of run_calls, on a player. Assumes nothing.
use Rattle.std.specs.Prelude.{ℕ, List, Result}
use Rattle.number.specs.declared.Fault.{Fault}
use Rattle.fields.specs.Parser.{Parser}
use Rattle.player.specs.declared.Player.{Player}
use Rattle.player.specs.Player.{state_of, Valid}
use Rattle.run_calls.specs.declared.Next.{Next}
use Rattle.run_calls.specs.declared.Went.{Went}
use Rattle.run_calls.specs.Turns as run_calls
use Rattle.runner.specs.Asked.{Asked}
use Rattle.runner.specs.Output.{players}

-- A turn of a call that is read from the place n.at on, and leaves n as n'. Where there is a fault in its bytes nothing is written, and what is played stays.
abbrev pub TurnsOn : Parser Asked → List ℕ → Next Player → List ℕ → ℕ → Result Went Fault → Next Player → List ℕ → Type 0
TurnsOn = run_calls.TurnsInPlace players state_of Valid

-- a turn of the call a, behind which the run goes on at n.at; it leaves n as n'
abbrev pub TurnsBy : Asked → Next Player → List ℕ → ℕ → Went → Next Player → List ℕ → Type 0
TurnsBy = run_calls.TurnsBy players state_of Valid
