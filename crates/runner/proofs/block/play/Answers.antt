-- `play` meets its contract. Assumes nothing.
use mathlib.Core.Path.{◌≡◌, refl, sym}
use lib.ListN.{take}
use Rattle.outputs.specs.Numbers.{sevens}
use Rattle.outputs.proofs.Buffers.{sevens_first}
use Rattle.player.specs.Player.{state_of, with_deck, Valid}
use Rattle.run_calls.proofs.Turning.{answered}
use Rattle.runner.specs.Numbers.{numbers, state_after}
use Rattle.runner.specs.Output.{players}
use Rattle.runner.proofs.Playing.{played_numbers, refused_numbers}
use Rattle.runner.proofs.block.play.Goals as goal

pub returns-in-Ok : goal.returns-in-Ok
unfolding numbers state_after
returns-in-Ok c =
    let x : take c.args.b.x_len (sevens 8192) ≡ sevens c.args.b.x_len = sevens_first 8192 refl _ c.requires.1 in
    let y : take c.args.b.y_len (sevens 8192) ≡ sevens c.args.b.y_len = sevens_first 8192 refl _ c.requires.2 in
    let w = rw (c.in-Ok.is, x, y) at c.play.ensures in
    λ run. answered players state_of Valid run c.args.from.now.player (record { at = c.args.from.now.at; player = with_deck c.args.from.now.player c.in-Ok.r.deck }) refl (played_numbers w) (sym w.state_is) w.valid
    (rw c.flag.ensures at c.say.ensures)

pub returns-in-Err : goal.returns-in-Err
unfolding numbers state_after
returns-in-Err c =
    let x : take c.args.b.x_len (sevens 8192) ≡ sevens c.args.b.x_len = sevens_first 8192 refl _ c.requires.1 in
    let y : take c.args.b.y_len (sevens 8192) ≡ sevens c.args.b.y_len = sevens_first 8192 refl _ c.requires.2 in
    let w = rw (c.in-Err.is, x, y) at c.play.ensures in
    λ run. answered players state_of Valid run c.args.from.now.player c.args.from.now refl (refused_numbers w) (sym w.state_is) w.valid
    (rw c.number.ensures at c.say-in-Err.ensures)
