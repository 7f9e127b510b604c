-- What the calls of a trace wrote, by the answers that they gave and the buffers that they left. Assumes nothing.
use Rattle.std.specs.Prelude.{cond, List, [], eqb, take, Float}
use Rattle.codes.specs.declared.TransportCodes.{TransportCodes}
use Rattle.questions.specs.Answers.{answer_of}
use Rattle.calls.specs.Blocks.{pending_of}
use Rattle.calls.specs.Calls.{Call}
use Rattle.player.specs.declared.Player.{Player}
use Rattle.restart.specs.Heard.{Side, x_side, y_side, frames_up_to, blocks_up_to}
use Rattle.reached.specs.Traces.{Trace, none, sets, reads, plays}

abbrev pub buffer_of : Side → List Float → List Float → List Float
buffer_of x_side x y = x
buffer_of y_side x y = y

-- the frames up to the next restart or edit, "through all accepted blocks"
unfoldable pub written : {p q : Player} {cs : List Call} → Side → Trace p cs q → List Float
written side (none p) = []
written side (sets p c cs q r e m l) = cond (eqb (answer_of r) 0) [] (written side l)
written side (reads p t cs q r m l) = written side l
written side (plays p t n restart x y cs q r x' y' m l) =
    cond (eqb (answer_of r) 0) (frames_up_to (pending_of restart) n (take n (buffer_of side x' y')) (written side l)) (written side l)

-- the transports of the accepted blocks up to the next restart or edit
unfoldable pub transports : {p q : Player} {cs : List Call} → Trace p cs q → List TransportCodes
transports (none p) = []
transports (sets p c cs q r e m l) = cond (eqb (answer_of r) 0) [] (transports l)
transports (reads p t cs q r m l) = transports l
transports (plays p t n restart x y cs q r x' y' m l) = cond (eqb (answer_of r) 0) (blocks_up_to (pending_of restart) t (transports l)) (transports l)
