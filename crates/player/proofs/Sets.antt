-- What each setting call gives, of the equations of what it calls. Assumes nothing.
use Rattle.std.specs.Prelude.{None, Option, Some, Ok, Err}
use Prim.Native.Nat.{ℕ, suc, ◌^◌, ◌<◌, min}
use mathlib.Core.Path.{◌≡◌, refl, sym}
use mathlib.Core.Bool.{Bool, true, false, cond}
use mathlib.Core.List.{List, ◌∷◌, ◌++◌}
use native.Mathlib.Nat.{min-le_right}
use native.Mathlib.Omega.{arith}
use borrow.Author.Tests.{ltb-true}
use lib.Dec.{T, ltb}
use lib.ListN.{get_or, set, take, drop}
use lib.Seq.{set_split}
use lib.Ieee.{Float, nan, eq}
use lib.Ieee.Scale.{finite}
use Rattle.shape.specs.declared.Shape.{Shape}
use Rattle.shape.specs.Shapes.{within, shape_of}
use Rattle.shape.proofs.Accepted.{accepted_x}
use Rattle.path.specs.declared.Path.{Path}
use Rattle.settings.specs.declared.record.Settings.{Settings}
use Rattle.codes.specs.declared.SettingsCodes.{SettingsCodes}
use Rattle.settings.specs.Codes.{settings_at}
use Rattle.settings.specs.Records.{clamped_settings}
use Rattle.slot.specs.Moved.{LoopbackIn}
use Rattle.slot.specs.Slot.{ShapeIn, PathIn}
use Rattle.slot.specs.declared.page.Page.{Page}
use Rattle.slot.specs.Page.{page_of}
use Rattle.slot.proofs.Curves.{accepted_path}
use Rattle.slot.proofs.Slots.{stored_in}
use Rattle.codes.specs.declared.ShapeCodes.{ShapeCodes}
use Rattle.codes.specs.declared.PathCodes.{PathCodes}
use Rattle.curves.specs.Given.{is_yes, given_points, loopback_of, given_shape, given_path_points, given_path}
use Rattle.questions.specs.declared.question.Question.{Question}
use Rattle.questions.specs.Answers.{question_number}
use Rattle.questions.specs.Questions.{first_no, settings_questions, shape_questions, path_questions, bus_questions}
use Rattle.questions.proofs.Facts.{settings_in, shape_accepted, bus_accepted}
use Rattle.calls.specs.State.{with_settings, with_shape, with_path, with_bus, moved_buses}
use Rattle.calls.specs.Calls.{settings, shape, path, bus, questions, answer, accepted}
use Rattle.player.specs.declared.Player.{Player}
use Rattle.player.specs.Player.{edited_player, Valid}
use Rattle.player.specs.Promises.{Changes}
use Rattle.player.proofs.Answers.{refused, changed}
use Rattle.player.proofs.Players.{edited_valid, bus_in}

-- ---- settings

is_grid : (s stored : Settings) → stored ≡ clamped_settings s → stored.grid_x ≡ s.grid_x
unfolding clamped_settings
is_grid s stored e = rw e

module _ (p : Player) (v : Valid p) (c : SettingsCodes) where
  pub settings_refused : (q : Question) → question_number q ≡ first_no (settings_questions c) → Changes p (settings c) (Err q)
  unfolding answer questions
  settings_refused q asked = refused p (settings c) q asked v

  pub settings_set : 0 ≡ first_no (settings_questions c) → (s stored : Settings) → settings_at c ≡ Some s → stored ≡ clamped_settings s → stored.grid_x < 2 ^ 16
      → (page : Page) → page ≡ page_of stored p.page.shape p.page.path p.page.buses → (r : Player) → r ≡ edited_player p page
      → Changes p (settings c) (Ok r)
  unfolding answer questions
  settings_set asked s stored known is grid page paged r made =
      let i = v.lfo_in in
      let same : stored.grid_x ≡ s.grid_x = is_grid s stored is in
      rw (made, paged, is)
      (changed p (settings c) asked _ (unfold accepted with_settings in rw known)
      (edited_valid p _ _ _ _ v (stored_in s (settings_in c (sym asked) s known (rw same at grid))) i.shape_in i.path_in i.buses_in))

-- ---- a shape

-- a loopback point that is kept is one of the points
within_in : (l : Option ℕ) (n : ℕ) → LoopbackIn (within l n) n
unfolding within
within_in None n = tt
within_in (Some i) n = go (ltb i n) refl
  where
    go : (b : Bool) → ltb i n ≡ b → LoopbackIn (cond b (Some i) None) n
    go true e = ltb-true i n e
    go false e = tt

module _ (p : Player) (v : Valid p) (c : ShapeCodes) where
  abbrev given : Shape
  given = given_shape c

  pub shape_refused : (q : Question) → question_number q ≡ first_no (shape_questions true c) → Changes p (shape c) (Err q)
  unfolding answer questions
  shape_refused q asked = refused p (shape c) q asked v

  given_in : 0 ≡ first_no (shape_questions true c) → ShapeIn given
  unfolding given_shape shape_of
  given_in asked =
      record {
        short = min-le_right c.count 64;
        loopback_is_in = within_in (loopback_of c.loopback) (min c.count 64);
        moves = accepted_x (given_points c.points (min c.count 64)) (min c.count 64) (shape_accepted true c (sym asked)).points_finite;
      }

  pub shape_set : 0 ≡ first_no (shape_questions true c) → (s : Shape) → s ≡ given → (page : Page) → page ≡ page_of p.page.settings s p.page.path p.page.buses
      → (r : Player) → r ≡ edited_player p page → Changes p (shape c) (Ok r)
  unfolding answer questions
  shape_set asked s is page paged r made =
      let i = v.lfo_in in
      rw (made, paged, is)
      (changed p (shape c) asked _ (unfold accepted with_shape in refl)
      (edited_valid p _ _ _ _ v i.settings_in (given_in asked) i.path_in i.buses_in))

-- ---- a path

module _ (p : Player) (v : Valid p) (c : PathCodes) where
  abbrev travelled : Path
  travelled = given_path c

  pub path_refused : (q : Question) → question_number q ≡ first_no (path_questions true c) → Changes p (path c) (Err q)
  unfolding answer questions
  path_refused q asked = refused p (path c) q asked v

  travelled_in : PathIn travelled
  unfolding given_path
  travelled_in = accepted_path (given_path_points c.points (min c.count 64)) c.count (is_yes c.closed)

  pub path_set : 0 ≡ first_no (path_questions true c) → (s : Path) → s ≡ travelled → (page : Page) → page ≡ page_of p.page.settings p.page.shape s p.page.buses
      → (r : Player) → r ≡ edited_player p page → Changes p (path c) (Ok r)
  unfolding answer questions
  path_set asked s is page paged r made =
      let i = v.lfo_in in
      rw (made, paged, is)
      (changed p (path c) asked _ (unfold accepted with_path in refl)
      (edited_valid p _ _ _ _ v i.settings_in i.shape_in travelled_in i.buses_in))

-- ---- a bus

module _ (p : Player) (v : Valid p) (k : ℕ) (value : Float) where
  abbrev buses : List Float
  buses = p.page.buses

  pub bus_refused : (q : Question) → question_number q ≡ first_no (bus_questions k value) → Changes p (bus k value) (Err q)
  unfolding answer questions
  bus_refused q asked = refused p (bus k value) q asked v

  module _ (asked : 0 ≡ first_no (bus_questions k value)) where
    bus_facts : T (finite value) × (k < 16)
    bus_facts = bus_accepted k value (sym asked)

    pub bus_few : k < 16
    bus_few = bus_facts.1

    pub bus_same : eq (get_or buses k nan) value ≡ true → Changes p (bus k value) (Ok p)
    unfolding answer questions
    bus_same same = changed p (bus k value) asked p (unfold accepted with_bus moved_buses in rw same) v

    bus_split : set buses k value ≡ take k buses ++ value ∷ drop (suc k) buses
    bus_split = set_split buses k value (omega (arith, bus_few, v.lfo_in.buses_in.long))

    pub bus_set : eq (get_or buses k nan) value ≡ false → (page : Page) → page ≡ page_of p.page.settings p.page.shape p.page.path (set buses k value)
        → (r : Player) → r ≡ edited_player p page → Changes p (bus k value) (Ok r)
    unfolding answer questions
    bus_set other page paged r made =
        let i = v.lfo_in in
        rw (made, paged)
        (changed p (bus k value) asked _ (unfold accepted with_bus moved_buses in rw (other, bus_split))
        (edited_valid p _ _ _ _ v i.settings_in i.shape_in i.path_in (bus_in buses k value i.buses_in bus_few bus_facts.0)))
