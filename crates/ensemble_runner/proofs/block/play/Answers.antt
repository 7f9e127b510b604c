-- `play` meets its contract. Assumes nothing.
use mathlib.Core.Path.{◌≡◌, refl, sym}
use Prim.Native.Nat.{◌+◌}
use native.Mathlib.Omega.{arith}
use lib.ListN.{take, length-take}
use Rattle.outputs.specs.Numbers.{sevens}
use Rattle.outputs.proofs.Buffers.{sevens_first}
use Rattle.ensemble_player.specs.Ensembles.{state_of, with_decks, Valid}
use Rattle.run_calls.proofs.Turning.{answered}
use Rattle.ensemble_runner.specs.Output.{ensembles}
use Rattle.ensemble_runner.proofs.Playing.{played_numbers, refused_numbers}
use Rattle.ensemble_runner.proofs.block.play.Goals as goal

pub say-requires : goal.say-requires
say-requires c = (
  omega (arith, c.requires.0.few, length-take (1 + c.args.from.now.player.count) c.numbers_of-numbers.result),
  omega (arith, c.requires.1, c.play.auto.x, length-take c.args.b.x_len (sevens 65600)),
  omega (arith, c.requires.2, c.play.auto.y, length-take c.args.b.y_len (sevens 65600)),
)

pub say-requires-in-Err : goal.say-requires-in-Err
say-requires-in-Err c = (
  omega arith,
  omega (arith, c.requires.1, c.play.auto.x, length-take c.args.b.x_len (sevens 65600)),
  omega (arith, c.requires.2, c.play.auto.y, length-take c.args.b.y_len (sevens 65600)),
)

pub returns-in-Ok : goal.returns-in-Ok
returns-in-Ok c =
    let x : take c.args.b.x_len (sevens 65600) ≡ sevens c.args.b.x_len = sevens_first 65600 refl _ c.requires.1 in
    let y : take c.args.b.y_len (sevens 65600) ≡ sevens c.args.b.y_len = sevens_first 65600 refl _ c.requires.2 in
    let w = rw (c.in-Ok.is, x, y) at c.play.ensures in
    λ run. answered ensembles state_of Valid run c.args.from.now.player (record { at = c.args.from.now.at; player = with_decks c.args.from.now.player c.in-Ok.r.decks }) refl (played_numbers c.requires.0 w) (sym w.state_is) w.valid
    (rw c.numbers_of-numbers.ensures at c.say.ensures)

pub returns-in-Err : goal.returns-in-Err
returns-in-Err c =
    let x : take c.args.b.x_len (sevens 65600) ≡ sevens c.args.b.x_len = sevens_first 65600 refl _ c.requires.1 in
    let y : take c.args.b.y_len (sevens 65600) ≡ sevens c.args.b.y_len = sevens_first 65600 refl _ c.requires.2 in
    let w = rw (c.in-Err.is, x, y) at c.play.ensures in
    λ run. answered ensembles state_of Valid run c.args.from.now.player c.args.from.now refl (refused_numbers w) (sym w.state_is) w.valid
    (rw c.number.ensures at c.say-in-Err.ensures)
