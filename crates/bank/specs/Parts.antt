-- A block of one voice, as `render_parts` of lfo/bank.rs has it: the voice begins, plays the frames before the restart, restarts, begins again and plays the frames from the restart on.
-- Assumes nothing.
use Rattle.std.specs.Prelude.{ℕ, ◌-◌, min, ◌≡◌, cond, List, ◌++◌, eqb, drop, Float, None, Option, Some}
use Rattle.floatlaws.specs.Numbers.{f64_0}
use Rattle.clock.specs.declared.block.Block.{Block}
use Rattle.settings.specs.declared.record.Settings.{Settings}
use Rattle.voice.specs.declared.Voice.{Voice}
use Rattle.voice.specs.Curve.{Curve, KeptFor}
use Rattle.voice.specs.Frame.{Frame}
use Rattle.voice.specs.Voice.{begun_voice, triggered_voice}
use Rattle.bank.specs.declared.stretch.Rendered.{Rendered}
use Rattle.bank.specs.Render.{voice_after, outs, last_count}

-- of settings s and a curve q, in the block b of `frames` frames, for the voice v
module _ (s : Settings) (q : Curve) (b : Block) (frames : ℕ) (v : Voice) where
  -- frames by these settings
  abbrev after : ℕ → ℕ → Voice → Voice
  after = voice_after s.kind s.mode s.direction q b

  abbrev values : ℕ → (Frame → Float) → ℕ → Voice → List Float
  values = outs s.kind s.mode s.direction q b

  abbrev last : ℕ → ℕ → Voice → Float → Float
  last = last_count s.kind s.mode s.direction q b

  -- the voice as the block begins
  unfoldable pub begun : Voice
  begun = begun_voice s b 0 v

  -- and after the first k frames of it
  abbrev pub reaching : ℕ → Voice
  reaching k = after 0 k begun

  -- there it restarts and begins again; a restart beyond the end means the end
  unfoldable pub restarted : ℕ → Voice
  restarted k = begun_voice s b k (triggered_voice s b (reaching k))

  -- the voice after the block
  unfoldable pub parts_voice : Option ℕ → Voice
  parts_voice None = reaching frames
  parts_voice (Some at) = let k = min at frames in after k (frames - k) (restarted k)

  -- one value of each frame
  unfoldable pub parts_outs : Option ℕ → (Frame → Float) → List Float
  parts_outs None f = values 0 f frames begun
  parts_outs (Some at) f = let k = min at frames in values 0 f k begun ++ values k f (frames - k) (restarted k)

  -- the swung cycle count of the last frame, 0 where there is none
  unfoldable pub parts_count : Option ℕ → Float
  parts_count None = last 0 frames begun f64_0
  parts_count (Some at) = let k = min at frames in last k (frames - k) (restarted k) (last 0 k begun f64_0)

-- ---- how the code goes through it

-- how many stretches there are
unfoldable pub stretches_of : Option ℕ → ℕ
stretches_of None = 1
stretches_of (Some at) = 2

-- where the first of them ends
unfoldable pub first_end : Option ℕ → ℕ → ℕ
first_end None frames = frames
first_end (Some at) frames = min at frames

-- the voice after a stretch: restarted where another one is left
unfoldable pub between_of : ℕ → Settings → Block → Voice → Voice
between_of left s b v = cond (eqb left 0) v (triggered_voice s b v)

-- ---- the code's promises

-- of a block: both buffers hold its values and then what they held
pub record PlaysParts (s : Settings) (q : Curve) (b : Block) (v : Voice) (at : Option ℕ) (frames : ℕ) (x y : List Float) (r : Rendered) (x' y' : List Float) : Type 0 where
  pub voice_is : r.voice ≡ parts_voice s q b frames v at
  pub count_is : r.count ≡ parts_count s q b frames v at
  pub x_is : x' ≡ parts_outs s q b frames v at (λ f. f.x) ++ drop frames x
  pub y_is : y' ≡ parts_outs s q b frames v at (λ f. f.y) ++ drop frames y
  pub kept_is : KeptFor s.kind q r.kept
