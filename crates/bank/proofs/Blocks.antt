-- A block is one stretch, or two with a restart between them. Assumes nothing.
use Rattle.std.specs.Prelude.{None, Option, Some}
use mathlib.Core.Path.{◌≡◌, ap, ◌∙◌, subst}
use mathlib.Core.List.{List, ◌++◌}
use Prim.Native.Nat.{ℕ, ◌+◌, ◌-◌, ◌≤◌, min}
use native.Mathlib.Nat.{zero-add, min-le_right}
use native.Mathlib.Omega.{arith}
use lib.ListN.{length, drop, length-append}
use lib.Ieee.{Float}
use Rattle.floatlaws.specs.Numbers.{f64_0}
use Rattle.listlaws.specs.Over.{over}
use Rattle.listlaws.proofs.Over.{over_front, over_over, length_over}
use Rattle.clock.specs.declared.block.Block.{Block}
use Rattle.clock.specs.Anchor.{sample_count}
use Rattle.settings.specs.declared.record.Settings.{Settings}
use Rattle.voice.specs.declared.Voice.{Voice}
use Rattle.voice.specs.declared.generator.Kept.{Kept}
use Rattle.voice.specs.Curve.{Curve}
use Rattle.voice.specs.Frame.{Frame}
use Rattle.voice.specs.Voice.{begun_voice, triggered_voice}
use Rattle.bank.specs.declared.stretch.Rendered.{Rendered}
use Rattle.bank.specs.Render.{voice_after, outs, last_count, Stretch, Renders}
use Rattle.bank.specs.Parts.{begun, restarted, parts_voice, parts_outs, parts_count, PlaysParts}
use Rattle.bank.proofs.Frames.{length_outs, count_after}
use Rattle.bank.proofs.Counts.{begun_count, triggered_count}

-- a list of n values over the front of x
front : (x l : List Float) (n : ℕ) → length l ≡ n → over x 0 l ≡ l ++ drop n x
front x l n e = over_front x l ∙ ap (λ (m : ℕ). l ++ drop m x) e

-- and another behind it
behind : (x l l' : List Float) (k n : ℕ) → length l ≡ k → length l' ≡ n - k → k ≤ n → n ≤ length x → over (over x 0 l) k l' ≡ (l ++ l') ++ drop n x
behind x l l' k n e e' h room =
    subst (λ (m : ℕ). over (over x 0 l) m l' ≡ over x 0 (l ++ l')) (zero-add (length l) ∙ e) (over_over x 0 l l' (omega arith))
    ∙ front x (l ++ l') n (length-append l l' ∙ omega arith)

module _ (s : Settings) (q : Curve) (b : Block) where
  abbrev values : ℕ → (Frame → Float) → ℕ → Voice → List Float
  values = outs s.kind s.mode s.direction q b

  abbrev size : (from : ℕ) (f : Frame → Float) (n : ℕ) (v : Voice) → length (values from f n v) ≡ n
  size = length_outs s.kind s.mode s.direction q b

  -- what a stretch asks of its voice before it is begun holds of the voice that is begun
  pub begun_stretch : {v : Voice} {kept : Kept} {from count : ℕ} {x y : List Float} (w : Voice) → w ≡ begun_voice s b from v → Stretch s q b v kept from count x y → Stretch s q b w kept from count x y
  begun_stretch {v} {kept} {from} w e h =
      record {
        searchable = h.searchable;
        kept_for = h.kept_for;
        short = h.short;
        room_x = h.room_x;
        room_y = h.room_y;
        anchor_small = rw e (omega (arith, begun_count b s v from, h.anchor_small));
        clock_small = h.clock_small;
      }

  -- and what a block asks holds of its first k frames
  pub first_frames : {v : Voice} {kept : Kept} {frames : ℕ} {x y : List Float} (k : ℕ) → k ≤ frames → Stretch s q b v kept 0 frames x y → Stretch s q b v kept 0 k x y
  first_frames k le h =
      record {
        searchable = h.searchable;
        kept_for = h.kept_for;
        short = omega (arith, h.short);
        room_x = omega (arith, h.room_x);
        room_y = omega (arith, h.room_y);
        anchor_small = omega (arith, h.anchor_small);
        clock_small = h.clock_small;
      }

  module _ (v : Voice) (frames : ℕ) (x y : List Float) where
    pub plays_through : (r : Rendered) (x' y' : List Float) → Renders s q b (begun_voice s b 0 v) f64_0 0 frames x y r x' y' → PlaysParts s q b v None frames x y r x' y'
    unfolding parts_voice parts_outs parts_count begun
    plays_through r x' y' h =
        record {
          voice_is = h.voice_is;
          count_is = h.count_is;
          x_is = h.x_is ∙ front x _ frames (size 0 (λ f. f.x) frames (begun_voice s b 0 v));
          y_is = h.y_is ∙ front y _ frames (size 0 (λ f. f.y) frames (begun_voice s b 0 v));
          kept_is = h.kept_is;
        }

    -- the restart at k, with a the stretch before it
    module _ (at k : ℕ) (split : k ≡ min at frames) (within : k ≤ frames) (room_x : frames ≤ length x) (room_y : frames ≤ length y) (a : Rendered) (x₁ y₁ : List Float)
        (first : Renders s q b (begun_voice s b 0 v) f64_0 0 k x y a x₁ y₁) (w : Voice) (on : w ≡ triggered_voice s b a.voice) where
      abbrev before : Voice
      before = begun_voice s b 0 v

      x_same : length x₁ ≡ length x
      x_same = ap length first.x_is ∙ length_over x 0 _ (omega (arith, size 0 (λ f. f.x) k before))

      y_same : length y₁ ≡ length y
      y_same = ap length first.y_is ∙ length_over y 0 _ (omega (arith, size 0 (λ f. f.y) k before))

      counted : sample_count w.anchor ≤ sample_count v.anchor + k
      counted =
          rw (on, first.voice_is)
          (omega (
            arith,
            triggered_count b s (voice_after s.kind s.mode s.direction q b 0 k before),
            count_after s.kind s.mode s.direction q b 0 k before,
            begun_count b s v 0,
          ))

      -- what the stretch after it asks
      pub restart_stretch : {kept : Kept} → Stretch s q b v kept 0 frames x y → Stretch s q b w a.kept k (frames - k) x₁ y₁
      restart_stretch h =
          record {
            searchable = h.searchable;
            kept_for = first.kept_is;
            short = omega (arith, h.short);
            room_x = omega (arith, x_same);
            room_y = omega (arith, y_same);
            anchor_small = omega (arith, counted, h.anchor_small);
            clock_small = h.clock_small;
          }

      abbrev after : ℕ → Voice
      after m = voice_after s.kind s.mode s.direction q b 0 m before

      abbrev again : ℕ → Voice
      again m = begun_voice s b m (triggered_voice s b (after m))

      abbrev last : ℕ → ℕ → Voice → Float → Float
      last = last_count s.kind s.mode s.direction q b

      starts : begun_voice s b k w ≡ again k
      starts = ap (λ (z : Voice). begun_voice s b k z) (on ∙ ap (λ (z : Voice). triggered_voice s b z) first.voice_is)

      -- one buffer
      both : (f : Frame → Float) (z z₁ : List Float) → z₁ ≡ over z 0 (values 0 f k before) → frames ≤ length z
          → over z₁ k (values k f (frames - k) (begun_voice s b k w)) ≡ parts_outs s q b frames v (Some at) f ++ drop frames z
      unfolding parts_outs begun restarted
      both f z z₁ e room =
          ap (λ (l : List Float). over l k (values k f (frames - k) (begun_voice s b k w))) e
          ∙ behind z (values 0 f k before) (values k f (frames - k) (begun_voice s b k w)) k frames (size 0 f k before) (size k f (frames - k) (begun_voice s b k w)) within room
          ∙ ap (λ (u : Voice). (values 0 f k before ++ values k f (frames - k) u) ++ drop frames z) starts
          ∙ ap (λ (m : ℕ). (values 0 f m before ++ values m f (frames - m) (again m)) ++ drop frames z) split

      pub plays_restart : (r : Rendered) (x' y' : List Float) → Renders s q b (begun_voice s b k w) a.count k (frames - k) x₁ y₁ r x' y' → PlaysParts s q b v (Some at) frames x y r x' y'
      unfolding parts_voice parts_count begun restarted
      plays_restart r x' y' h =
          record {
            voice_is =
                h.voice_is
                ∙ ap (λ (u : Voice). voice_after s.kind s.mode s.direction q b k (frames - k) u) starts
                ∙ ap (λ (m : ℕ). voice_after s.kind s.mode s.direction q b m (frames - m) (again m)) split;
            count_is =
                h.count_is
                ∙ ap (λ (u : Voice). last k (frames - k) u a.count) starts
                ∙ ap (λ (c : Float). last k (frames - k) (again k) c) first.count_is
                ∙ ap (λ (m : ℕ). last m (frames - m) (again m) (last 0 m before f64_0)) split;
            x_is = h.x_is ∙ both (λ f. f.x) x x₁ first.x_is room_x;
            y_is = h.y_is ∙ both (λ f. f.y) y y₁ first.y_is room_y;
            kept_is = h.kept_is;
          }

  -- a block has one value for each frame
  pub length_parts : (n : ℕ) (v : Voice) (at : Option ℕ) (f : Frame → Float) → length (parts_outs s q b n v at f) ≡ n
  unfolding parts_outs
  length_parts n v None f = size 0 f n (begun s q b n v)
  length_parts n v (Some at) f =
      let k = min at n in
      simp (length-append, size 0 f k (begun s q b n v), size k f (n - k) (restarted s q b n v k)) (omega (arith, min-le_right at n))
