-- What a voice generates from: random values held for a cycle, and the chaos state. Assumes nothing.
use Rattle.std.specs.Prelude.{ℕ, ◌-◌, ◌^◌, Bool, true, false, cond, ℤ, pos, negsuc, ◌==◌, Float, None, Option, Some}
use Rattle.std.specs.Float.{binary64}
use Rattle.std.specs.Float.Ieee.{to_signed, le}
use Rattle.floatlaws.specs.Numbers.{f32_0, f64_1}
use Rattle.floatlaws.specs.Whole.{whole_of, to_floor}
use Rattle.random.specs.Mix.{mixed}
use Rattle.random.specs.Draw.{drawn}
use Rattle.chaos.specs.declared.law.State.{State}
use Rattle.chaos.specs.declared.law.Attractor.{Attractor}
use Rattle.chaos.specs.Law.{law_of}
use Rattle.chaos.specs.Start.{start_at}
use Rattle.settings.specs.declared.choices.LfoType.{LfoType}
use Rattle.settings.specs.declared.choices.LfoType.TheVariants.{Drawn, Path, Lorenz, Rossler, SampleAndHold}
use Rattle.settings.specs.declared.choices.Mode.{Mode}
use Rattle.settings.specs.declared.choices.Mode.TheVariants.{Free, Restart, OneShot}
use Rattle.voice.specs.declared.source.Source.{Source}

-- no cycle: the next sample draws
abbrev pub no_cycle : ℤ
no_cycle = negsuc (2 ^ 63 - 1)

unfoldable pub new_source : ℕ → Source
new_source seed = record { rng = mixed seed; held = f32_0; cycle = no_cycle; chaos = (law_of Attractor.Lorenz).start }

abbrev pub with_chaos : Source → State → Source
with_chaos s state = record { rng = s.rng; held = s.held; cycle = s.cycle; chaos = state }

-- ---- sample and hold

unfoldable pub same_cycle : ℤ → ℤ → Bool
same_cycle (pos m) (pos n) = m == n
same_cycle (pos m) (negsuc n) = false
same_cycle (negsuc m) (pos n) = false
same_cycle (negsuc m) (negsuc n) = m == n

-- a new cycle draws a value
unfoldable pub sampled_of : Source → ℤ → Source
sampled_of s cycle =
    cond (same_cycle cycle s.cycle) s
    (record { rng = (drawn s.rng).word; held = (drawn s.rng).value; cycle = cycle; chaos = s.chaos })

-- the cycle of a count; a One-shot keeps its first value
unfoldable pub cycle_of : Mode → Float → ℤ
cycle_of Free c = to_signed 63 (whole_of binary64 to_floor c)
cycle_of Restart c = to_signed 63 (whole_of binary64 to_floor c)
cycle_of OneShot c = pos 0

-- ---- chaos

-- a One-shot stands still from one cycle on
unfoldable pub step_of : Mode → Float → Float → Float
step_of Free c h = h
step_of Restart c h = h
step_of OneShot c h = cond (le f64_1 c) f32_0 h

abbrev pub is_path : LfoType → Bool
is_path Drawn = false
is_path Path = true
is_path Lorenz = false
is_path Rossler = false
is_path SampleAndHold = false

-- the attractor of a type that is one; of another it is not asked for
abbrev pub attractor_of : LfoType → Attractor
attractor_of Drawn = Attractor.Rossler
attractor_of Path = Attractor.Rossler
attractor_of Lorenz = Attractor.Lorenz
attractor_of Rossler = Attractor.Rossler
attractor_of SampleAndHold = Attractor.Rossler

-- ---- as a stretch begins: an attractor that the voice did not last play starts at its start point

abbrev pub kind_number : LfoType → ℕ
kind_number Drawn = 0
kind_number Path = 1
kind_number Lorenz = 2
kind_number Rossler = 3
kind_number SampleAndHold = 4

abbrev pub is_made_for : Option LfoType → LfoType → Bool
is_made_for None kind = false
is_made_for (Some last) kind = kind_number last == kind_number kind

-- an attractor's start point, and the state `cycles` on from it; another type leaves the state as it is
unfoldable pub attractor_start : LfoType → State → State
attractor_start Drawn s = s
attractor_start Path s = s
attractor_start Lorenz s = (law_of Attractor.Lorenz).start
attractor_start Rossler s = (law_of Attractor.Rossler).start
attractor_start SampleAndHold s = s

unfoldable pub attractor_at : LfoType → Float → State → State
attractor_at Drawn cycles s = s
attractor_at Path cycles s = s
attractor_at Lorenz cycles s = start_at Attractor.Lorenz cycles
attractor_at Rossler cycles s = start_at Attractor.Rossler cycles
attractor_at SampleAndHold cycles s = s
