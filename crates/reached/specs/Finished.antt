-- What it means that a block says finished (document 02, W-204: "finished means that position has come to rest"), for every player that calls have reached. Assumes nothing.
use Rattle.std.specs.Prelude.{ℕ, suc, ◌^◌, ◌≡◌, ◌⊎◌, Bool, true, false, List, T, Float, Option, Result}
use Rattle.std.specs.Float.Ieee.{le}
use Rattle.floatlaws.specs.Numbers.{f64}
use Rattle.settings.specs.declared.choices.LfoType.TheVariants.{Drawn, Path}
use Rattle.settings.specs.declared.choices.Mode.TheVariants.{OneShot}
use Rattle.settings.specs.declared.record.Settings.{Settings}
use Rattle.settings.specs.declared.record.Transport.{Transport}
use Rattle.position.specs.Position.{position_of}
use Rattle.position.specs.Rest.{loopback_in_force}
use Rattle.position.specs.Laws.{Moves, rest_at}
use Rattle.calls.specs.State.{State}
use Rattle.calls.specs.Blocks.{curve, end_count, finished}
use Rattle.questions.specs.declared.question.Question.{Question}
use Rattle.player.specs.declared.Player.{Player}
use Rattle.player.specs.declared.Played.{Played}
use Rattle.player.specs.Player.{state_of}
use Rattle.player.specs.Promises.{finished_in, Plays}
use Rattle.reached.specs.Traces.{History}
use Rattle.reached.specs.Players.{AcceptedBlock}
use Rattle.reached.specs.Frames.{nth_frame}

-- what a block that is accepted says, by its contract
abbrev pub BlockSays : Type 0
BlockSays =
    (p : Player) (t : Transport) (frames : ℕ) (at : Option ℕ) (a : AcceptedBlock p t frames at) (r : Result Played Question) (x y : List Float)
    → Plays p a.codes frames a.restart a.x a.y r x y → finished_in r ≡ finished (state_of p) t frames at

-- the count that it is said by is that of the last frame that is written
abbrev pub LastFrame : Type 0
LastFrame = (p : State) (t : Transport) (k : ℕ) (at : Option ℕ) → end_count p t (suc k) at ≡ (nth_frame p t (suc k) at k).count

-- and a block of no frames says 0
abbrev pub NoFrames : Type 0
NoFrames = (p : State) (t : Transport) (at : Option ℕ) → finished p t 0 at ≡ false

module _ (p : Player) (t : Transport) (frames : ℕ) (at : Option ℕ) where
  abbrev s : Settings
  s = p.page.settings

  abbrev says : Bool
  says = finished (state_of p) t frames at

  abbrev count : Float
  count = end_count (state_of p) t frames at

  -- the loopback as the block's frames read it
  abbrev from : Option Float
  from = (curve (state_of p) t frames at).from

  abbrev in_force : Bool
  in_force = loopback_in_force s.kind s.direction from

  -- of a block of a drawn shape or a path
  pub record SaysFinished : Type 0 where
    -- said: position is at rest, at that count and at every greater one
    pub rests : says ≡ true → (later : Float) → T (le count later) → position_of s.mode s.direction later from ≡ rest_at s.direction
    -- not said of a One-shot with no loopback in force: some greater count has another position
    pub moves : s.mode ≡ OneShot → in_force ≡ false → says ≡ false → Moves OneShot s.direction from count
    -- "with a loopback in force in any direction it never comes"
    pub never : in_force ≡ true → says ≡ false
    -- nor is position at rest there, up to 2^20 cycles
    pub loops_on : s.mode ≡ OneShot → in_force ≡ true → T (le count (f64 (2 ^ 20) 1)) → Moves OneShot s.direction from count

abbrev pub FinishedMeans : Type 0
FinishedMeans =
    (p : Player) (t : Transport) (frames : ℕ) (at : Option ℕ) → History p → AcceptedBlock p t frames at
    → (p.page.settings.kind ≡ Drawn) ⊎ (p.page.settings.kind ≡ Path) → SaysFinished p t frames at
