-- Some sittings, which the definitions meet by computation. Assumes nothing.
use Rattle.std.specs.Prelude.{◌≡◌, refl, [], ◌∷◌, map, replicate}
use Rattle.std.specs.Float.Ieee.{of_bits, neg, le}
use Rattle.floatlaws.specs.Numbers.{f32_0, f32_100, f64_0, f64_4, f64_120}
use Rattle.number.specs.Read as Read
use Rattle.number.specs.Read.{leading, number_of, shortest, judged, read_from, read_at}
use Rattle.settings.specs.Codes.{transport_known}
use Rattle.settings.specs.Records.{default_settings}
use Rattle.questions.specs.Tests.{transport_finite, transport_in}
use Rattle.questions.specs.Questions.{first_no, bus_questions, block_questions}
use Rattle.calls.specs.State.{new_state}
use Rattle.calls.specs.Calls.{questions, answer, buffer}
use Rattle.restart.specs.Heard as Heard
use Rattle.fields.specs.Parser.{after}
use Rattle.fields.specs.Fields.{number, below, f32}
use Rattle.record.specs.Items.{f64_48000}
use Rattle.text.specs.Lines.{lines}
use Rattle.sittings.specs.Events.{block_event, restart_event, bus_event, by_number, unknown, event}
use Rattle.sittings.specs.Courses.{Course, no_restart, block_lines, after_block, after_restart, after_bus}
use Rattle.sittings.specs.Sheets.{failed, after_end, from_event, from_read, events_text, events_from}
use Rattle.sittings.specs.Windows.{the_event, stuck, wants, went, fault_turn, read_turn, playing_turn}

-- a new player before the first event, tempo 120, four beats per bar
start : Course
start =
    record {
      state = new_state default_settings 0;
      transport =
          record {
            sample_rate = f64_48000;
            tempo = f64_120;
            beats_per_bar = f64_4;
            playing = 1;
            beats = f64_0;
            seconds = f64_0;
            swing = f32_0;
            scale = record { code = 0; percent = f32_100 };
          };
      waiting = no_restart;
      index = 0;
    }

-- Nothing; the end; the end and a byte more; two restarts and the end; an unknown event, with nothing behind it and after a restart; an event's own number cut short, and not
-- shortest; a field cut short; bus 16 with its value missing, with a value of 33 bits, not finite, and 0; a block of no frames; one of 4,097 frames.
texts : map (events_from start)
    ([]
    ∷ (3 ∷ [])
    ∷ (3 ∷ 0 ∷ [])
    ∷ (1 ∷ 5 ∷ 1 ∷ 6 ∷ 3 ∷ [])
    ∷ (4 ∷ [])
    ∷ (1 ∷ 5 ∷ 4 ∷ [])
    ∷ (0x80 ∷ [])
    ∷ (0x80 ∷ 0 ∷ [])
    ∷ (1 ∷ [])
    ∷ (2 ∷ 16 ∷ [])
    ∷ (2 ∷ 16 ∷ 0x80 ∷ 0x80 ∷ 0x80 ∷ 0x80 ∷ 0x10 ∷ [])
    ∷ (2 ∷ 16 ∷ 0x80 ∷ 0x80 ∷ 0x80 ∷ 0xfc ∷ 0x07 ∷ [])
    ∷ (2 ∷ 16 ∷ 0 ∷ 3 ∷ [])
    ∷ (0 ∷ 0 ∷ 3 ∷ [])
    ∷ (0 ∷ 0x81 ∷ 0x20 ∷ 3 ∷ [])
    ∷ [])
    ≡ failed 0 18 ∷ [] ∷ failed 0 14 ∷ [] ∷ failed 0 17 ∷ failed 1 17 ∷ failed 0 12 ∷ failed 0 13 ∷ failed 0 12 ∷ failed 0 12 ∷ failed 0 13 ∷ failed 0 2 ∷ failed 0 9 ∷ [] ∷ failed 0 7 ∷ []
unfolding start events_from events_text from_read from_event after_end event by_number block_event restart_event bus_event unknown number below f32 after read_at read_from leading judged shortest number_of Read.below answer questions bus_questions block_questions first_no transport_known transport_finite transport_in new_state block_lines lines buffer Heard.read after_block after_restart after_bus of_bits neg le
texts = refl

-- a number that does not end: 30 bytes of it may still become an event, 31 cannot
turns : playing_turn start (replicate 30 0x80) ∷ playing_turn start (replicate 31 0x80) ∷ [] ≡ wants ∷ went [] 31 (stuck (the_event 0)) ∷ []
unfolding start playing_turn read_turn fault_turn event number after read_at read_from leading
turns = refl
