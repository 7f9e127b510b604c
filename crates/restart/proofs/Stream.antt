-- The frames of one voice, however they are cut into blocks: a stretch that goes on is the same list of frames, and two alike voices give equal ones. Assumes nothing.
use Prim.Native.Nat.{ℕ, zero, suc, ◌+◌, ◌<◌}
use mathlib.Core.Path.{◌≡◌, refl, sym, ap, ap₂, ◌∙◌}
use mathlib.Core.Logic.{inl, inr}
use mathlib.Core.List.{List, [], ◌∷◌, ◌++◌, append_assoc, append-nil}
use native.Mathlib.Nat.{eq-or-lt_of_le, le_of_suc-le-suc, add-suc, add-zero}
use native.Mathlib.Numerals.{add-one}
use native.Mathlib.Omega.{arith}
use lib.ListN.{length, get_or, length-append, get_or-append}
use lib.Seq.{get_or_at}
use lib.Ieee.{Float, nan}
use Rattle.settings.specs.declared.choices.LfoType.{LfoType}
use Rattle.settings.specs.declared.choices.Mode.{Mode}
use Rattle.settings.specs.declared.choices.Direction.{Direction}
use Rattle.clock.specs.declared.block.Block.{Block}
use Rattle.reach.specs.Bounds.{SwingIn}
use Rattle.voice.specs.declared.Voice.{Voice}
use Rattle.voice.specs.Curve.{Curve}
use Rattle.voice.specs.Frame.{Frame, frame_of}
use Rattle.bank.specs.Render.{voice_after, outs}
use Rattle.restart.specs.Rule.{Restarts}
use Rattle.restart.proofs.Constants.{constants_of}
use Rattle.restart.proofs.Frames.{Running, same_frame, running_frame}
use Rattle.restart.proofs.Alike.{Alike, frame_alike}

-- ---- the frames of a voice, with no block: by the block b₀ at its sample 0, whichever that is

module _ (kind : LfoType) (mode : Mode) (direction : Direction) (q : Curve) (b₀ : Block) where
  abbrev pub tone : Voice → Frame
  tone v = frame_of kind mode direction q b₀ 0 v

  unfoldable pub later : ℕ → Voice → Voice
  later zero v = v
  later (suc n) v = (tone (later n v)).voice

  unfoldable pub plays : (Frame → Float) → ℕ → Voice → List Float
  plays f zero v = []
  plays f (suc n) v = plays f n v ++ (f (tone (later n v)) ∷ [])

  pub running_later : (inc : Float) (n : ℕ) (v : Voice) → Running kind inc v → Running kind inc (later n v)
  unfolding later
  running_later inc zero v r = r
  running_later inc (suc n) v r = running_frame kind mode direction q b₀ 0 inc (later n v) (running_later inc n v r)

  pub length_plays : (f : Frame → Float) (n : ℕ) (v : Voice) → length (plays f n v) ≡ n
  unfolding plays
  length_plays f zero v = refl
  length_plays f (suc n) v = simp (length-append, length_plays f n v) (add-one n)

  pub plays_at : (f : Frame → Float) (m n : ℕ) (v : Voice) → n < m → get_or (plays f m v) n nan ≡ f (tone (later n v))
  unfolding plays
  plays_at f zero n v h = absurd (omega arith)
  plays_at f (suc m) n v h =
      elim (eq-or-lt_of_le (le_of_suc-le-suc h)) [
        | inl e ↦ rw e (get_or_at (plays f m v) (f (tone (later m v))) [] nan m (length_plays f m v))
        | inr l ↦ get_or-append (plays f m v) (f (tone (later m v)) ∷ []) nan n (rw (length_plays f m v) l) ∙ plays_at f m n v l
      ]

  -- ---- cutting does not matter

  pub later_add : (m n : ℕ) (v : Voice) → later (m + n) v ≡ later n (later m v)
  unfolding later
  later_add m zero v = rw add-zero refl
  later_add m (suc n) v = rw add-suc (ap (λ (z : Voice). (tone z).voice) (later_add m n v))

  pub plays_add : (f : Frame → Float) (m n : ℕ) (v : Voice) → plays f (m + n) v ≡ plays f m v ++ plays f n (later m v)
  unfolding plays
  plays_add f m zero v = rw add-zero (sym (append-nil (plays f m v)))
  plays_add f m (suc n) v =
      rw add-suc (ap₂ (λ (l : List Float) (z : Voice). l ++ (f (tone z) ∷ [])) (plays_add f m n v) (later_add m n v) ∙ append_assoc (plays f m v) (plays f n (later m v)) _)

  -- a stretch of a block with b₀'s constants is the same
  module _ (b : Block) (from : ℕ) (inc : Float) (m : Restarts mode) (e : constants_of b ≡ constants_of b₀) where
    pub after_later : (n : ℕ) (v : Voice) → Running kind inc v → voice_after kind mode direction q b from n v ≡ later n v
    unfolding voice_after later
    after_later zero v r = refl
    after_later (suc n) v r =
        ap (λ (z : Voice). (frame_of kind mode direction q b (from + n) z).voice) (after_later n v r)
        ∙ ap (λ (z : Frame). z.voice) (same_frame kind mode direction q b b₀ m e (from + n) 0 inc (later n v) (running_later inc n v r))

    pub outs_plays : (f : Frame → Float) (n : ℕ) (v : Voice) → Running kind inc v → outs kind mode direction q b from f n v ≡ plays f n v
    unfolding outs plays
    outs_plays f zero v r = refl
    outs_plays f (suc n) v r =
        ap₂ (λ (l : List Float) (z : Frame). l ++ (f z ∷ [])) (outs_plays f n v r)
        (ap (λ (z : Voice). frame_of kind mode direction q b (from + n) z) (after_later n v r) ∙ same_frame kind mode direction q b b₀ m e (from + n) 0 inc (later n v) (running_later inc n v r))

  -- ---- two alike voices

  module _ (m : Restarts mode) (w : SwingIn b₀.swing) where
    pub alike_later : (n : ℕ) (v u : Voice) → Alike kind v u → Alike kind (later n v) (later n u)
    unfolding later
    alike_later zero v u a = a
    alike_later (suc n) v u a = (frame_alike mode direction q b₀ 0 m w kind (later n v) (later n u) (alike_later n v u a)).voices

    pub alike_x : (n : ℕ) (v u : Voice) → Alike kind v u → (tone (later n v)).x ≡ (tone (later n u)).x
    alike_x n v u a = (frame_alike mode direction q b₀ 0 m w kind (later n v) (later n u) (alike_later n v u a)).x

    pub alike_y : (n : ℕ) (v u : Voice) → Alike kind v u → (tone (later n v)).y ≡ (tone (later n u)).y
    alike_y n v u a = (frame_alike mode direction q b₀ 0 m w kind (later n v) (later n u) (alike_later n v u a)).y
