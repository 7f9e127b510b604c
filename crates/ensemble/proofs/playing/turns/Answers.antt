-- `turns` meets its contract, turn by turn. Assumes nothing.
use Rattle.std.proofs.Common.{◌<◌, sym, arith}
use Rattle.ensemble.proofs.Rounds.{list_none, buffer_none, turn_ready, list_next, x_next, y_next, all_played}
use Rattle.ensemble.proofs.playing.turns.Goals as goal

pub loop-v-init : goal.loop-v-init
loop-v-init c =
    record {
      voices_are = sym (list_none c.args.p c.args.voices.now);
      x_is = sym (buffer_none c.args.p c.args.voices.now (λ f. f.x) c.args.x.now);
      y_is = sym (buffer_none c.args.p c.args.voices.now (λ f. f.y) c.args.y.now);
    }

pub turn-requires : goal.turn-requires
turn-requires c =
    let inv = c.loop-v.invariant in
    rw (inv.voices_are, inv.x_is, inv.y_is) (turn_ready c.args.p c.args.voices.now c.args.x.now c.args.y.now c.requires c.loop-v.v (omega arith))

pub loop-v-preserved : goal.loop-v-preserved
loop-v-preserved c =
    let inv = c.loop-v.invariant in
    let one : c.loop-v.v < c.args.p.voices = omega arith in
    let e = rw (inv.voices_are, inv.x_is, inv.y_is) at c.turn.ensures in
    record {
      voices_are = list_next c.args.p c.args.voices.now c.args.x.now c.args.y.now c.requires c.loop-v.v one _ _ _ e;
      x_is = x_next c.args.p c.args.voices.now c.args.x.now c.args.y.now c.requires c.loop-v.v one _ _ _ e;
      y_is = y_next c.args.p c.args.voices.now c.args.x.now c.args.y.now c.requires c.loop-v.v one _ _ _ e;
    }

pub returns : goal.returns
returns c =
    let inv = c.loop-v.invariant in
    rw (inv.voices_are, inv.x_is, inv.y_is) (all_played c.args.p c.args.voices.now c.args.x.now c.args.y.now c.requires c.loop-v.v (omega arith))
