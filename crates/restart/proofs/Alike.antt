-- Two voices that are alike give equal frames and stay alike: what the next frames read, and what they do not. Assumes nothing.
use Rattle.std.specs.Prelude.{Option}
use Prim.Native.Nat.{ℕ}
use mathlib.Core.Path.{◌≡◌, refl, ap}
use mathlib.Core.Logic.{◌⊎◌, inl, inr}
use mathlib.Core.Bool.{Bool, true}
use lib.Ieee.{Float}
use Rattle.settings.specs.declared.choices.LfoType.{LfoType}
use Rattle.settings.specs.declared.choices.LfoType.TheVariants.{Drawn, Path, Lorenz, Rossler, SampleAndHold}
use Rattle.settings.specs.declared.choices.Mode.{Mode}
use Rattle.settings.specs.declared.choices.Direction.{Direction}
use Rattle.clock.specs.declared.anchor.Anchor.{Anchor}
use Rattle.clock.specs.declared.block.Block.{Block}
use Rattle.clock.specs.Anchor.{next_anchor}
use Rattle.reach.specs.Bounds.{SwingIn}
use Rattle.voice.specs.declared.Voice.{Voice}
use Rattle.voice.specs.declared.source.Source.{Source}
use Rattle.voice.specs.declared.output.Channel.{Channel}
use Rattle.voice.specs.declared.output.Output.{Output}
use Rattle.voice.specs.Source.{cycle_of}
use Rattle.voice.specs.Curve.{Curve}
use Rattle.voice.specs.Generate.{count_at, source_after, raw_of}
use Rattle.voice.specs.Output.{captured_of, post_of, second_of, second_value, posted, gain_of, later_of}
use Rattle.voice.specs.Frame.{frame_of}
use Rattle.restart.specs.Rule.{Restarts}
use Rattle.restart.proofs.Draws.{Draws, same_draw, first_draws}

-- ---- what is alike

-- an output's state, or that the next frame sets it
abbrev pub Started : Bool → Channel → Channel → Type 0
Started capture c d = (capture ≡ true) ⊎ (c ≡ d)

-- the second output is read in a path alone
pub record OutAlike (kind : LfoType) (o p : Output) : Type 0 where
  pub t : o.t ≡ p.t
  pub delay : o.delay ≡ p.delay
  pub fade : o.fade ≡ p.fade
  pub inverse : o.inv_fade ≡ p.inv_fade
  pub capture : o.capture ≡ p.capture
  pub first : Started p.capture o.x p.x
  pub second : kind ≡ Path → Started p.capture o.y p.y

-- the chaos state is read by an attractor alone, and the random values by Sample and Hold
abbrev pub SourceAlike : LfoType → Anchor → Source → Source → Type 0
SourceAlike Drawn a s q = Unit
SourceAlike Path a s q = Unit
SourceAlike Lorenz a s q = s.chaos ≡ q.chaos
SourceAlike Rossler a s q = s.chaos ≡ q.chaos
SourceAlike SampleAndHold a s q = Draws a s q

pub record Alike (kind : LfoType) (v w : Voice) : Type 0 where
  pub anchor : v.anchor ≡ w.anchor
  pub source : SourceAlike kind w.anchor v.source w.source
  pub output : OutAlike kind v.output w.output
  pub made : v.made_for ≡ w.made_for

-- ---- the output

post_same : (smooth : Option Float) (g : Float) (t : Bool) (raw : Float) (c d : Channel) → Started t c d → post_of smooth g t raw c ≡ post_of smooth g t raw d
unfolding post_of captured_of
post_same smooth g t raw c d (inl e) = rw e refl
post_same smooth g t raw c d (inr e) = rw e refl

-- the second output, of its states c and d before a sample
module _ (smooth : Option Float) (g : Float) (t : Bool) (raw : Float) (c d : Channel) where
  abbrev second : LfoType → Channel → Channel
  second kind z = second_of kind smooth g t raw z

  second_value_lem : (kind : LfoType) → (kind ≡ Path → Started t c d) → second_value kind raw (second kind c) ≡ second_value kind raw (second kind d)
  unfolding second_value second_of
  second_value_lem Drawn s = refl
  second_value_lem Path s = ap (λ (z : Channel). z.smoothed) (post_same smooth g t raw c d (s refl))
  second_value_lem Lorenz s = refl
  second_value_lem Rossler s = refl
  second_value_lem SampleAndHold s = refl

  second_same : (kind : LfoType) → (kind ≡ Path → Started t c d) → kind ≡ Path → second kind c ≡ second kind d
  unfolding second_of
  second_same kind s e = rw e (post_same smooth g t raw c d (s e))

pub record PostedAlike (kind : LfoType) (smooth : Option Float) (o p : Output) (x y : Float) : Type 0 where
  pub x_same : (posted kind smooth o x y).x ≡ (posted kind smooth p x y).x
  pub y_same : (posted kind smooth o x y).y ≡ (posted kind smooth p x y).y
  pub outputs : OutAlike kind (posted kind smooth o x y).output (posted kind smooth p x y).output

posted_alike : (kind : LfoType) (smooth : Option Float) (o p : Output) (x y : Float) → OutAlike kind o p → PostedAlike kind smooth o p x y
unfolding posted
posted_alike kind smooth o p x y a =
    let g = gain_of p.t p.delay p.fade p.inv_fade in
    let first = post_same smooth g p.capture x o.x p.x a.first in
    record {
      x_same = rw (a.t, a.delay, a.fade, a.inverse, a.capture) (ap (λ (z : Channel). z.smoothed) first);
      y_same = rw (a.t, a.delay, a.fade, a.inverse, a.capture) (second_value_lem smooth g p.capture y o.y p.y kind a.second);
      outputs = record {
        t = ap later_of a.t;
        delay = a.delay;
        fade = a.fade;
        inverse = a.inverse;
        capture = refl;
        first = inr (rw (a.t, a.delay, a.fade, a.inverse, a.capture) first);
        second = λ (e : kind ≡ Path). inr (rw (a.t, a.delay, a.fade, a.inverse, a.capture) (second_same smooth g p.capture y o.y p.y kind a.second e));
      };
    }

-- ---- one frame

module _ (mode : Mode) (direction : Direction) (q : Curve) (b : Block) (k : ℕ) (m : Restarts mode) (w : SwingIn b.swing) where
  -- at one count, the sources after it are alike and what they give is equal
  record RawAlike (kind : LfoType) (a : Anchor) (s r : Source) (c : Float) : Type 0 where
    x_raw : (raw_of kind mode direction q (source_after kind mode b s c) c).x ≡ (raw_of kind mode direction q (source_after kind mode b r c) c).x
    y_raw : (raw_of kind mode direction q (source_after kind mode b s c) c).y ≡ (raw_of kind mode direction q (source_after kind mode b r c) c).y
    sources : SourceAlike kind (next_anchor a) (source_after kind mode b s c) (source_after kind mode b r c)

  raw_alike : (kind : LfoType) (a : Anchor) (s r : Source) → SourceAlike kind a s r → RawAlike kind a s r (count_at mode b a k)
  unfolding raw_of source_after
  raw_alike Drawn a s r e = record { x_raw = refl; y_raw = refl; sources = tt }
  raw_alike Path a s r e = record { x_raw = refl; y_raw = refl; sources = tt }
  raw_alike Lorenz a s r e = record { x_raw = rw e refl; y_raw = refl; sources = rw e refl }
  raw_alike Rossler a s r e = record { x_raw = rw e refl; y_raw = refl; sources = rw e refl }
  raw_alike SampleAndHold a s r e =
      let d = same_draw a s r (cycle_of mode (count_at mode b a k)) e (first_draws mode b a k m w) in
      record { x_raw = rw d.held refl; y_raw = refl; sources = inl d }

  -- two frames with equal values and alike voices
  pub record Same (kind : LfoType) (v u : Voice) : Type 0 where
    pub x : (frame_of kind mode direction q b k v).x ≡ (frame_of kind mode direction q b k u).x
    pub y : (frame_of kind mode direction q b k v).y ≡ (frame_of kind mode direction q b k u).y
    pub voices : Alike kind (frame_of kind mode direction q b k v).voice (frame_of kind mode direction q b k u).voice

  pub frame_alike : (kind : LfoType) (v u : Voice) → Alike kind v u → Same kind v u
  unfolding frame_of
  frame_alike kind v u a =
      let c = count_at mode b u.anchor k in
      let r = raw_alike kind u.anchor v.source u.source a.source in
      let raw = raw_of kind mode direction q (source_after kind mode b u.source c) c in
      let o = posted_alike kind b.smooth v.output u.output raw.x raw.y a.output in
      record {
        x = rw (a.anchor, r.x_raw, r.y_raw) o.x_same;
        y = rw (a.anchor, r.x_raw, r.y_raw) o.y_same;
        voices = record {
          anchor = ap next_anchor a.anchor;
          source = rw a.anchor r.sources;
          output = rw (a.anchor, r.x_raw, r.y_raw) o.outputs;
          made = a.made;
        };
      }
