-- A block of an ensemble: each voice plays it by itself, as crate bank's definitions say, into its own column of both buffers. Assumes nothing.
use Rattle.std.specs.Prelude.{ℕ, suc, ◌+◌, ◌*◌, ◌^◌, ◌≤◌, ◌<◌, ◌≡◌, false, List, ◌∷◌, ◌++◌, map, length, get_or, take, drop, Float, None}
use Rattle.std.specs.Float.{nan}
use Rattle.columns.specs.Columns.{strided, interleaved}
use Rattle.position.specs.Rest.{finished_of}
use Rattle.clock.specs.Anchor.{sample_count}
use Rattle.clock.specs.Block.{free_count}
use Rattle.voice.specs.Curve.{Curve, curve_by, Searchable}
use Rattle.voice.specs.Frame.{Frame}
use Rattle.voice.specs.Voice.{new_voice}
use Rattle.bank.specs.Parts.{parts_voice, parts_outs, parts_count}
use Rattle.ensemble.specs.declared.BlockPage.{BlockPage}
use Rattle.ensemble.specs.declared.Member.{Member}

-- ---- one voice

-- the curve that the voices read
abbrev pub page_curve : BlockPage → Curve
page_curve p = curve_by p.lists.xs p.lists.ys p.lists.es p.lists.steps p.n p.times p.closed p.loopback

-- a record after the block: of the page and itself alone
unfoldable pub member_after : BlockPage → Member → Member
member_after p m =
    record {
      voice = parts_voice p.settings (page_curve p) p.block p.frames m.voice m.pending;
      pending = None;
      finished =
          finished_of p.settings.kind p.settings.mode p.settings.direction p.loopback
          (parts_count p.settings (page_curve p) p.block p.frames m.voice m.pending);
    }

-- and one value of each of its frames
unfoldable pub member_outs : BlockPage → (Frame → Float) → Member → List Float
member_outs p f m = parts_outs p.settings (page_curve p) p.block p.frames m.voice m.pending f

-- ---- what a block asks

-- of a block's page: points that can be searched, few frames and voices, and a clock that stays small
pub record PageIn (p : BlockPage) : Type 0 where
  pub searchable : Searchable p.settings.kind (page_curve p)
  pub short : p.frames ≤ 4096
  pub few : p.voices ≤ 16
  pub clock_small : free_count p.block.free < 2 ^ 63

-- of a record: a count that stays small
abbrev pub MemberIn : BlockPage → Member → Type 0
MemberIn p m = sample_count m.voice.anchor + p.frames < 2 ^ 63

-- of the buffers: room for every voice
abbrev pub RoomFor : BlockPage → List Float → Type 0
RoomFor p l = p.frames * p.voices ≤ length l

-- ---- the promises of one voice

pub record Ready (p : BlockPage) (m : Member) (v : ℕ) (x y : List Float) : Type 0 where
  pub page_in : PageIn p
  pub member_in : MemberIn p m
  pub one : v < p.voices
  pub room_x : RoomFor p x
  pub room_y : RoomFor p y

pub record Plays (p : BlockPage) (m : Member) (v : ℕ) (x y : List Float) (r : Member) (x' y' : List Float) : Type 0 where
  pub member_is : r ≡ member_after p m
  pub x_is : x' ≡ strided p.voices v (member_outs p (λ f. f.x) m) x
  pub y_is : y' ≡ strided p.voices v (member_outs p (λ f. f.y) m) y

-- ---- the promises of a turn

-- what stands past a list's end
abbrev pub no_member : Member
no_member = record { voice = new_voice 0; pending = None; finished = false }

pub record TurnReady (p : BlockPage) (v : ℕ) (before : List Member) (x y : List Float) : Type 0 where
  pub listed : v < length before
  pub ready : Ready p (get_or before v no_member) v x y

-- record v and column v are the voice's own, and all else stands as it did
pub record Turns (p : BlockPage) (v : ℕ) (before : List Member) (x y : List Float) (after : List Member) (x' y' : List Float) : Type 0 where
  pub voices_are : after ≡ take v before ++ (member_after p (get_or before v no_member) ∷ drop (suc v) before)
  pub x_is : x' ≡ strided p.voices v (member_outs p (λ f. f.x) (get_or before v no_member)) x
  pub y_is : y' ≡ strided p.voices v (member_outs p (λ f. f.y) (get_or before v no_member)) y

-- ---- the promises of a block of all voices

pub record AllReady (p : BlockPage) (before : List Member) (x y : List Float) : Type 0 where
  pub page_in : PageIn p
  pub listed : p.voices ≤ length before
  pub members_in : (v : ℕ) → v < p.voices → MemberIn p (get_or before v no_member)
  pub room_x : RoomFor p x
  pub room_y : RoomFor p y

-- a buffer after it: the values of the voices, interleaved, and then what it held
abbrev pub buffer_after : BlockPage → (Frame → Float) → List Member → List Float → List Float
buffer_after p f voices l = interleaved nan p.frames (map (member_outs p f) (take p.voices voices)) ++ drop (p.frames * p.voices) l

pub record PlaysAll (p : BlockPage) (before : List Member) (x y : List Float) (after : List Member) (x' y' : List Float) : Type 0 where
  pub voices_are : after ≡ map (member_after p) (take p.voices before) ++ drop p.voices before
  pub x_is : x' ≡ buffer_after p (λ f. f.x) before x
  pub y_is : y' ≡ buffer_after p (λ f. f.y) before y
