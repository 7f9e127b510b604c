-- A voice that counts samples: its frames read neither the block's place nor theirs in it, and a stretch that goes on is begun as it is. Assumes nothing.
use Rattle.std.specs.Prelude.{Some, None}
use Prim.Native.Nat.{ℕ, ◌+◌}
use mathlib.Core.Path.{◌≡◌, refl, ap}
use mathlib.Core.Logic.{inl, inr}
use mathlib.Core.Bool.{true}
use lib.Ieee.{Float, eq}
use borrow.Author.Tests.{eq-eqb}
use Rattle.settings.specs.declared.choices.LfoType.{LfoType}
use Rattle.settings.specs.declared.choices.LfoType.TheVariants.{Drawn, Path, Lorenz, Rossler, SampleAndHold}
use Rattle.settings.specs.declared.choices.Mode.{Mode}
use Rattle.settings.specs.declared.choices.Direction.{Direction}
use Rattle.settings.specs.declared.record.Settings.{Settings}
use Rattle.clock.specs.declared.anchor.Anchor.{Anchor}
use Rattle.clock.specs.declared.anchor.Anchor.TheVariants.{Samples}
use Rattle.clock.specs.declared.block.Block.{Block}
use Rattle.clock.specs.Anchor.{next_anchor, begun_of}
use Rattle.voice.specs.declared.Voice.{Voice}
use Rattle.voice.specs.declared.source.Source.{Source}
use Rattle.voice.specs.Source.{is_made_for, kind_number}
use Rattle.voice.specs.Curve.{Curve}
use Rattle.voice.specs.Generate.{count_at, source_after}
use Rattle.voice.specs.Frame.{frame_of}
use Rattle.voice.specs.Voice.{begun_source, begun_anchor, begun_voice}
use Rattle.restart.specs.Rule.{Restarts}
use Rattle.restart.proofs.Constants.{constants_of}

-- it counts samples by inc, and has begun for this type
pub record Running (kind : LfoType) (inc : Float) (v : Voice) : Type 0 where
  pub c0 : Float
  pub n : ℕ
  pub is : v.anchor ≡ Samples c0 n inc
  pub made : v.made_for ≡ Some kind

-- ---- a frame

count_same : (mode : Mode) (b b' : Block) (k k' : ℕ) (kind : LfoType) (inc : Float) (v : Voice) → Restarts mode → b.swing ≡ b'.swing → Running kind inc v
    → count_at mode b v.anchor k ≡ count_at mode b' v.anchor k'
unfolding count_at
count_same mode b b' k k' kind inc v (inl m) e r = rw (m, r.is, e) refl
count_same mode b b' k k' kind inc v (inr m) e r = rw (m, r.is, e) refl

source_same : (kind : LfoType) (mode : Mode) (b b' : Block) (s : Source) (c : Float) → b.chaos_h ≡ b'.chaos_h → b.chaos_steps ≡ b'.chaos_steps
    → source_after kind mode b s c ≡ source_after kind mode b' s c
unfolding source_after
source_same Drawn mode b b' s c h n = refl
source_same Path mode b b' s c h n = refl
source_same Lorenz mode b b' s c h n = rw (h, n) refl
source_same Rossler mode b b' s c h n = rw (h, n) refl
source_same SampleAndHold mode b b' s c h n = refl

module _ (kind : LfoType) (mode : Mode) (direction : Direction) (q : Curve) (b b' : Block) (m : Restarts mode) (e : constants_of b ≡ constants_of b') where
  -- it looks at the block's constants alone
  pub same_frame : (k k' : ℕ) (inc : Float) (v : Voice) → Running kind inc v → frame_of kind mode direction q b k v ≡ frame_of kind mode direction q b' k' v
  unfolding frame_of
  same_frame k k' inc v r =
      let c = count_same mode b b' k k' kind inc v m (ap (λ z. z.swing) e) r in
      let s = source_same kind mode b b' v.source (count_at mode b' v.anchor k') (ap (λ z. z.chaos_h) e) (ap (λ z. z.chaos_steps) e) in
      let o : b.smooth ≡ b'.smooth = ap (λ z. z.smooth) e in
      rw (c, s, o) refl

-- it goes on counting
pub running_frame : (kind : LfoType) (mode : Mode) (direction : Direction) (q : Curve) (b : Block) (k : ℕ) (inc : Float) (v : Voice) → Running kind inc v
    → Running kind inc (frame_of kind mode direction q b k v).voice
unfolding frame_of
running_frame kind mode direction q b k inc v r = record { c0 = r.c0; n = r.n + 1; is = ap next_anchor r.is; made = r.made }

-- ---- a stretch begun

made_for : (kind : LfoType) → is_made_for (Some kind) kind ≡ true
made_for kind = eq-eqb (kind_number kind) (kind_number kind) refl

anchor_same : (mode : Mode) (a : Anchor) (b : Block) (k : ℕ) (c0 : Float) (n : ℕ) (inc : Float) → Restarts mode → b.song_lock ≡ None → eq inc b.inc ≡ true
    → a ≡ Samples c0 n inc → begun_anchor mode a b k ≡ a
unfolding begun_anchor begun_of
anchor_same mode a b k c0 n inc (inl m) l t e = rw (m, l, e, t) refl
anchor_same mode a b k c0 n inc (inr m) l t e = rw (m, l, e, t) refl

-- A voice that counts by what compares equal to the block's increment is begun as it is. (0 and −0 compare equal: the anchor keeps its bits.)
pub begun_same : (s : Settings) (b : Block) (k : ℕ) (v : Voice) (inc : Float) → Restarts s.mode → b.song_lock ≡ None → eq inc b.inc ≡ true
    → Running s.kind inc v → begun_voice s b k v ≡ v
unfolding begun_voice begun_source
begun_same s b k v inc m l t r =
    rw (anchor_same s.mode v.anchor b k r.c0 r.n inc m l t r.is, r.made, made_for s.kind) refl
