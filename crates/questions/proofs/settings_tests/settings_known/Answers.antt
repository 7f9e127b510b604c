-- `settings_known` meets its contract: `from_codes` answers where every code is known. Assumes nothing.
use Rattle.settings.proofs.Known.{settings_known_lem}
use Rattle.questions.proofs.settings_tests.settings_known.Goals as goal

pub returns-in-Some : goal.returns-in-Some
returns-in-Some c = rw (← settings_known_lem, ← c.from_codes.ensures, c.in-Some.is)

pub returns-in-None : goal.returns-in-None
returns-in-None c = rw (← settings_known_lem, ← c.from_codes.ensures, c.in-None.is)
