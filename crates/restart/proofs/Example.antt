-- The hypotheses can be met: two lists with different seeds, settings at the start, edits, restarts, refused calls, transports and block lengths. Assumes nothing.
use Prim.Native.Nat.{ℕ, ◌<◌}
use mathlib.Core.Path.{◌≡◌, refl}
use mathlib.Core.Logic.{inl}
use mathlib.Core.Bool.{true, false}
use mathlib.Core.List.{List, [], ◌∷◌}
use native.Mathlib.Omega.{arith}
use lib.ListN.{length, get_or, replicate}
use lib.Ieee.{Float, nan, inf, of_bits, eq, lt, le}
use Rattle.floatlaws.specs.Numbers.{f32_0, f32_½, f32_1, f64_0, f64_1, f64_4, f64_120}
use Rattle.floatlaws.specs.Extrema.{clamp_of}
use Rattle.floatlaws.specs.Multiples.{is_multiple}
use Rattle.listlaws.specs.Tables.{tabulate, last_where, inserted}
use Rattle.shape.specs.Points.{clamped_point, slot_of, insert_point, sorted_points, sorted_array}
use Rattle.shape.specs.Shapes.{within, shape_of, default_shape}
use Rattle.bank.specs.Render.{outs}
use Rattle.bank.specs.Parts.{parts_outs}
use Rattle.settings.specs.declared.choices.LfoType.TheVariants.{Drawn, SampleAndHold}
use Rattle.codes.specs.declared.RateCodes.{RateCodes}
use Rattle.codes.specs.declared.SpanCodes.{SpanCodes}
use Rattle.codes.specs.declared.ScaleCodes.{ScaleCodes}
use Rattle.codes.specs.declared.SmoothCodes.{SmoothCodes}
use Rattle.codes.specs.declared.SettingsCodes.{SettingsCodes}
use Rattle.codes.specs.declared.TransportCodes.{TransportCodes}
use Rattle.settings.specs.Times.{rate_at, span_at, scale_at, clamped_rate, clamped_span}
use Rattle.settings.specs.Codes.{smooth_at, settings_at, transport_at, settings_known, transport_known}
use Rattle.settings.specs.Records.{clamped_settings}
use Rattle.codes.specs.declared.ModCodes.{ModCodes}
use Rattle.codes.specs.declared.PointCodes.{PointCodes}
use Rattle.codes.specs.declared.LoopbackCodes.{LoopbackCodes}
use Rattle.curves.specs.Given.{mod_of, point_of, given_points, loopback_of, given_shape}
use Rattle.codes.specs.declared.RestartCodes.{RestartCodes}
use Rattle.questions.specs.Limits.{f64_1000}
use Rattle.questions.specs.Tests.{every_kept, shape_known, shape_finite, loopback_in, shape_on_grid, every, point_known, point_finite, settings_finite, transport_finite, transport_in}
use Rattle.questions.specs.Questions.{first_no, settings_questions, shape_questions, bus_questions, phase_questions, block_questions}
use Rattle.calls.specs.State.{new_state, with_settings, with_shape, with_bus, moved_buses}
use Rattle.calls.specs.Blocks.{pending_of, played_state, values}
use Rattle.calls.specs.Calls.{Call, settings, shape, bus, phase, block, questions, answer, makes, made, accepted, step, after, played, buffer}
use Rattle.restart.specs.Heard.{Side, x_side, y_side, read, heard, window}
use Rattle.restart.specs.Rule.{RestartFrom, frames_from, throughout, at_restart, transport_fields, none, more, Hypotheses, JustMade}
use Rattle.restart.proofs.RestartRule.{restart_rule}

-- ---- what the calls are handed

abbrev pub hertz : Float → RateCodes
hertz hz = record { code = 1; division = 99; feel = 99; hz = hz; x10 = 0 }

abbrev seconds : Float → SpanCodes
seconds s = record { code = 2; division = 99; seconds = s }

abbrev pub off : SpanCodes
off = record { code = 0; division = 99; seconds = nan }

abbrev pub unsmoothed : SmoothCodes
unsmoothed = record { code = 0; coefficient = nan }

-- a drawn shape in mode Restart, with song lock set, a delay and a fade
abbrev pub drawn : SettingsCodes
drawn =
    record {
      kind = 0;
      mode = 1;
      direction = 2;
      rate = hertz f32_1;
      song_lock = 1;
      swing = 1;
      fade_in = seconds f32_½;
      delay = seconds f32_1;
      smooth = unsmoothed;
      phase = f32_½;
      phase_snap = 0;
      grid_x = 8;
    }

-- Sample and Hold in Free mode
abbrev other : SettingsCodes
other =
    record {
      kind = 4;
      mode = 0;
      direction = 0;
      rate = record { code = 0; division = 7; feel = 1; hz = nan; x10 = 99 };
      song_lock = 0;
      swing = 0;
      fade_in = off;
      delay = off;
      smooth = unsmoothed;
      phase = f32_0;
      phase_snap = 0;
      grid_x = 0;
    }

abbrev percent : ScaleCodes
percent = record { code = 0; percent = f32_1 }

-- the same five fields at two places of the song, stopped
abbrev pub here : TransportCodes
here =
    record {
      sample_rate = f64_1000;
      tempo = f64_120;
      beats_per_bar = f64_4;
      playing = 0;
      beats = f64_0;
      seconds = f64_0;
      swing = f32_½;
      scale = percent;
    }

abbrev pub there : TransportCodes
there =
    record {
      sample_rate = f64_1000;
      tempo = f64_120;
      beats_per_bar = f64_4;
      playing = 0;
      beats = f64_4;
      seconds = f64_1;
      swing = f32_½;
      scale = percent;
    }

-- other ones, and it plays
abbrev song : TransportCodes
song =
    record {
      sample_rate = f64_1000;
      tempo = f64_4;
      beats_per_bar = f64_1;
      playing = 1;
      beats = f64_1;
      seconds = f64_4;
      swing = f32_0;
      scale = record { code = 1; percent = f32_½ };
    }

-- a transport that question 2 refuses
abbrev endless : TransportCodes
endless =
    record {
      sample_rate = f64_1000;
      tempo = inf false;
      beats_per_bar = f64_1;
      playing = 1;
      beats = f64_1;
      seconds = f64_4;
      swing = f32_0;
      scale = percent;
    }

abbrev no_mod : ModCodes
no_mod = record { code = 0; bus = 0; depth = nan }

abbrev point : Float → Float → PointCodes
point x y = record { x = x; y = y; curve = f32_0; step = 0; x_mod = no_mod; y_mod = no_mod }

abbrev no_loopback : LoopbackCodes
no_loopback = record { code = 0; index = 99 }

-- the points of the default shape, not in their order
abbrev triangle : Call
triangle = shape (record { points = point f32_1 f32_0 ∷ point f32_0 f32_0 ∷ point f32_½ f32_1 ∷ []; count = 3; loopback = no_loopback })

abbrev line : Call
line = shape (record { points = point f32_0 f32_1 ∷ []; count = 1; loopback = no_loopback })

abbrev pub never : RestartCodes
never = record { code = 0; frame = 99 }

abbrev pub at : ℕ → RestartCodes
at k = record { code = 1; frame = k }

abbrev pub room : List Float
room = replicate 8 nan

-- ---- the two lists

abbrev before₁ : List Call
before₁ = bus 3 f32_½ ∷ block here 3 never room room ∷ []

abbrev rest₁ : List Call
rest₁ = block there 2 never room room ∷ []

-- other settings and another shape at first, a bus twice, a bus that is refused, a block with song lock in force and a restart, and a block that is refused
abbrev before₂ : List Call
before₂ =
    line ∷ settings drawn ∷ bus 3 f32_1 ∷ bus 16 f32_1 ∷ block song 2 (at 0) room room ∷ triangle ∷ bus 3 f32_½ ∷ phase song ∷ block there 9 never room room ∷ []

-- refused calls, a block of no frames, one frame, and a block with the next restart after three
abbrev rest₂ : List Call
rest₂ =
    block endless 1 (at 0) room room ∷ bus 99 f32_1 ∷ phase song ∷ block here 0 never room room ∷ block there 1 never room room ∷ block here 4 (at 3) room room
    ∷ settings other ∷ []

pub makes_drawn : makes drawn ≡ true
unfolding first_no settings_questions settings_known settings_finite of_bits
makes_drawn = refl

makes_other : makes other ≡ true
unfolding first_no settings_questions settings_known settings_finite of_bits
makes_other = refl

abbrev player₁ : JustMade
player₁ = record { codes = drawn; seed = 1; accepted = makes_drawn }

abbrev player₂ : JustMade
player₂ = record { codes = other; seed = 2; accepted = makes_other }

pub restart₁ : RestartFrom (made drawn 1)
unfolding after step answer questions first_no settings_questions block_questions bus_questions settings_known settings_finite transport_known transport_finite transport_in settings_at rate_at span_at smooth_at transport_at scale_at accepted played_state with_bus made new_state lib.Ieee.neg le lt eq of_bits
restart₁ =
    record { before = before₁; transport = here; frames = 4; restart = at 1; x = room; y = room; rest = rest₁; accepted = refl; carried = refl }

-- the restart lies beyond the end of a block of no frames
pub restart₂ : RestartFrom (made other 2)
unfolding after step answer questions first_no settings_questions block_questions bus_questions settings_known settings_finite transport_known transport_finite transport_in settings_at rate_at span_at smooth_at transport_at scale_at accepted played_state with_bus made new_state lib.Ieee.neg le lt eq of_bits shape_questions shape_known shape_finite loopback_in shape_on_grid every_kept phase_questions every point_known point_finite is_multiple clamp_of with_settings with_shape pending_of
restart₂ =
    record { before = before₂; transport = there; frames = 0; restart = at 7; x = room; y = room; rest = rest₂; accepted = refl; carried = refl }

not_held : Drawn ≡ SampleAndHold → ⊥
not_held e = let z : ◌≡◌ {A = ℕ} 0 1 = cc in omega arith

met : Hypotheses (at_restart restart₁) (at_restart restart₂) (transport_fields here)
unfolding restart₁ restart₂ throughout window after step answer questions first_no settings_questions block_questions bus_questions settings_known settings_finite transport_known transport_finite transport_in settings_at rate_at span_at smooth_at transport_at scale_at accepted played_state with_bus made new_state lib.Ieee.neg le lt eq of_bits shape_questions shape_known shape_finite loopback_in shape_on_grid every_kept phase_questions every point_known point_finite is_multiple with_settings with_shape pending_of clamped_settings clamped_rate clamped_span moved_buses given_shape given_points point_of mod_of loopback_of within shape_of sorted_array sorted_points insert_point slot_of clamped_point tabulate last_where inserted default_shape clamp_of
met =
    record {
      mode = inl refl;
      equal = record {
        settings = refl;
        shape = record { count = refl; points = refl; loopback = refl };
        path = record { count = refl; points = refl; closed = refl };
        buses = refl;
      };
      gets₁ = more (record { same = refl; unlocked = refl }) (more (record { same = refl; unlocked = refl }) none);
      gets₂ =
          more (record { same = refl; unlocked = refl })
          (more (record { same = refl; unlocked = refl }) (more (record { same = refl; unlocked = refl }) (more (record { same = refl; unlocked = refl }) none)));
      words = λ (e : Drawn ≡ SampleAndHold). absurd (not_held e);
    }

-- the first plays five frames from its restart, and the second four before its next restart
five : (side : Side) → length (frames_from restart₁ side) ≡ 5
unfolding restart₁ frames_from heard read buffer played values parts_outs outs pending_of after step answer questions first_no settings_questions block_questions bus_questions settings_known settings_finite transport_known transport_finite transport_in settings_at rate_at span_at smooth_at transport_at scale_at accepted played_state with_bus made new_state lib.Ieee.neg le lt eq of_bits
five x_side = refl
five y_side = refl

four : (side : Side) → length (frames_from restart₂ side) ≡ 4
unfolding restart₂ frames_from heard read buffer played values parts_outs outs after step answer questions first_no settings_questions block_questions bus_questions settings_known settings_finite transport_known transport_finite transport_in settings_at rate_at span_at smooth_at transport_at scale_at accepted played_state with_bus made new_state lib.Ieee.neg le lt eq of_bits shape_questions shape_known shape_finite loopback_in shape_on_grid every_kept phase_questions every point_known point_finite is_multiple clamp_of with_settings with_shape pending_of
four x_side = refl
four y_side = refl

-- so the first four frames are the same
pub same_four : (side : Side) (n : ℕ) → n < 4
    → get_or (frames_from restart₁ side) n nan ≡ get_or (frames_from restart₂ side) n nan
same_four side n h =
    restart_rule player₁ player₂ restart₁ restart₂ (transport_fields here) met side n (omega (arith, five side)) (omega (arith, four side))
