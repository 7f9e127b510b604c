-- A sitting as it goes on, and what an event changes in it. Assumes nothing.
use Rattle.std.specs.Prelude.{ℕ, suc, List, replicate, Float}
use Rattle.floatlaws.specs.Numbers.{f32_0}
use Rattle.settings.specs.declared.record.Transport.{Transport}
use Rattle.codes.specs.declared.TransportCodes.{TransportCodes}
use Rattle.settings.specs.Codes.{transport_at}
use Rattle.settings.specs.Records.{advanced_transport}
use Rattle.codes.specs.declared.RestartCodes.{RestartCodes}
use Rattle.calls.specs.State.{State}
use Rattle.calls.specs.Calls.{Call, block, bus, by_transport, step}
use Rattle.restart.specs.Heard.{Side, x_side, y_side}
use Rattle.restart.specs.Heard as Heard
use Rattle.text.specs.Lines.{lines}

pub record Course : Type 0 where
  pub state : State
  -- at the next block's first sample
  pub transport : TransportCodes
  -- the restart that waits for the next block
  pub waiting : RestartCodes
  -- of the next event, "from 0"
  pub index : ℕ

abbrev pub no_restart : RestartCodes
no_restart = record { code = 0; frame = 0 }

abbrev pub restart_at : ℕ → RestartCodes
restart_at frame = record { code = 1; frame = frame }

-- "moves on after each block as `Transport::advance` does"
abbrev pub moved_to : TransportCodes → Transport → TransportCodes
moved_to c t =
    record {
      sample_rate = c.sample_rate;
      tempo = c.tempo;
      beats_per_bar = c.beats_per_bar;
      playing = c.playing;
      beats = t.beats;
      seconds = t.seconds;
      swing = c.swing;
      scale = c.scale;
    }

unfoldable pub moved_on : TransportCodes → ℕ → TransportCodes
moved_on c frames = by_transport c (transport_at c) λ t. moved_to c (advanced_transport t frames)

-- ---- a block, with the restart that waits, into buffers that have room for every block

abbrev pub silence : List Float
silence = replicate 4096 f32_0

abbrev pub play_call : TransportCodes → RestartCodes → ℕ → Call
play_call t waiting frames = block t frames waiting silence silence

abbrev pub block_of : Course → ℕ → Call
block_of p frames = play_call p.transport p.waiting frames

abbrev pub block_values : Side → Course → ℕ → List Float
block_values side p frames = Heard.read side p.state p.transport frames p.waiting silence silence

-- its lines; "Frames are counted through from 0"
unfoldable pub block_lines : Course → ℕ → List ℕ
block_lines p frames = lines p.state.played (block_values x_side p frames) (block_values y_side p frames)

-- ---- after an event that does not fail

unfoldable pub after_block : Course → ℕ → Course
after_block p frames =
    record { state = step p.state (block_of p frames); transport = moved_on p.transport frames; waiting = no_restart; index = suc p.index }

-- "a later restart request replaces one still waiting"
unfoldable pub after_restart : Course → ℕ → Course
after_restart p frame = record { state = p.state; transport = p.transport; waiting = restart_at frame; index = suc p.index }

unfoldable pub after_bus : Course → ℕ → Float → Course
after_bus p k value = record { state = step p.state (bus k value); transport = p.transport; waiting = p.waiting; index = suc p.index }
