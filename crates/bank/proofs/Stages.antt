-- A block played stretch by stretch: where it stands before a stretch, what the stretch asks, and where it stands after it. Assumes nothing.
use Rattle.std.specs.Prelude.{None, Option, Some}
use Prim.Native.Nat.{ℕ, ◌-◌, ◌≤◌, ◌<◌}
use mathlib.Core.Path.{◌≡◌, refl, sym, ◌∙◌}
use mathlib.Core.Logic.{◌⊎◌, inl, inr}
use mathlib.Core.List.{List}
use native.Mathlib.Omega.{arith}
use lib.Ieee.{Float}
use Rattle.floatlaws.specs.Numbers.{f64_0}
use Rattle.clock.specs.declared.block.Block.{Block}
use Rattle.settings.specs.declared.record.Settings.{Settings}
use Rattle.voice.specs.declared.Voice.{Voice}
use Rattle.voice.specs.declared.generator.Kept.{Kept}
use Rattle.voice.specs.Curve.{Curve}
use Rattle.voice.specs.Voice.{begun_voice, triggered_voice}
use Rattle.bank.specs.declared.stretch.Rendered.{Rendered}
use Rattle.bank.specs.Render.{Stretch, Renders}
use Rattle.bank.specs.Parts.{stretches_of, first_end, between_of, PlaysParts}
use Rattle.bank.proofs.Blocks.{first_frames, plays_through, restart_stretch, plays_restart}

minus_none : (n : ℕ) → n - 0 ≡ n
minus_none n = omega arith

abbrev pub rendered : Voice → Kept → Float → Rendered
rendered w held last = record { voice = w; kept = held; count = last }

one_or_two : (at : Option ℕ) → (stretches_of at ≡ 1) ⊎ (stretches_of at ≡ 2)
unfolding stretches_of
one_or_two None = inl refl
one_or_two (Some k) = inr refl

first_within : (at : Option ℕ) (frames : ℕ) → first_end at frames ≤ frames
unfolding first_end
first_within None frames = omega arith
first_within (Some k) frames = omega arith

-- of a block of `frames` frames for the voice v, whose first stretch of `stretches` ends at `split`
module _ (s : Settings) (q : Curve) (b : Block) (v : Voice) (kept : Kept) (frames split stretches : ℕ) (x₀ y₀ : List Float) where
  -- what is known as it begins
  pub record Opened : Type 0 where
    ready : Stretch s q b v kept 0 frames x₀ y₀
    within : split ≤ frames
    some : (stretches ≡ 1) ⊎ (stretches ≡ 2)

  pub opens : (at : Option ℕ) → split ≡ first_end at frames → stretches ≡ stretches_of at → Stretch s q b v kept 0 frames x₀ y₀ → Opened
  opens at first count h = record { ready = h; within = rw first (first_within at frames); some = rw count (one_or_two at) }

  -- where it stands, with `left` stretches left, the next of them from `from` to `end`
  pub data Stage (x y : List Float) (w : Voice) (held : Kept) (last : Float) (from end left : ℕ) : Type 0 where
    -- none is played
    ahead : w ≡ v → held ≡ kept → last ≡ f64_0 → from ≡ 0 → end ≡ split → left ≡ stretches → x ≡ x₀ → y ≡ y₀ → Stage x y w held last from end left
    -- the first of two is played, and the voice restarted
    again : left ≡ 1 → stretches ≡ 2 → from ≡ split → end ≡ frames → (a : Rendered) → Renders s q b (begun_voice s b 0 v) f64_0 0 split x₀ y₀ a x y
        → w ≡ triggered_voice s b a.voice → held ≡ a.kept → last ≡ a.count → Stage x y w held last from end left
    -- all are
    done : left ≡ 0 → ((at : Option ℕ) → stretches_of at ≡ stretches → first_end at frames ≡ split → PlaysParts s q b v at frames x₀ y₀ (rendered w held last) x y)
        → Stage x y w held last from end left

  module _ (o : Opened) where
    -- there is a stretch
    never : stretches ≡ 0 → ⊥
    never e = by o.some
      where
        by : (stretches ≡ 1) ⊎ (stretches ≡ 2) → ⊥
        by (inl one) = omega (arith, one, e)
        by (inr two) = omega (arith, two, e)

    module _ (a : Rendered) (x' y' : List Float) (w' : Voice) where
      -- a block of one stretch
      through : w' ≡ a.voice → Renders s q b (begun_voice s b 0 v) f64_0 0 split x₀ y₀ a x' y' → (at : Option ℕ) → stretches_of at ≡ 1 → first_end at frames ≡ split
          → PlaysParts s q b v at frames x₀ y₀ (rendered w' a.kept a.count) x' y'
      unfolding stretches_of first_end
      through e r None one whole = rw e (plays_through s q b v frames x₀ y₀ a x' y' (rw (← whole) at r))
      through e r (Some k) one whole = absurd (omega (arith, one))

      -- and of two
      restarted : w' ≡ a.voice → (a₁ : Rendered) (x y : List Float) → Renders s q b (begun_voice s b 0 v) f64_0 0 split x₀ y₀ a₁ x y → (w : Voice) → w ≡ triggered_voice s b a₁.voice
          → Renders s q b (begun_voice s b split w) a₁.count split (frames - split) x y a x' y' → (at : Option ℕ) → stretches_of at ≡ 2 → first_end at frames ≡ split
          → PlaysParts s q b v at frames x₀ y₀ (rendered w' a.kept a.count) x' y'
      unfolding stretches_of first_end
      restarted e a₁ x y f w on r None two split_is = absurd (omega (arith, two))
      restarted e a₁ x y f w on r (Some k) two split_is =
          rw e
          (plays_restart s q b v frames x₀ y₀ k split (sym split_is) o.within (omega (arith, o.ready.room_x)) (omega (arith, o.ready.room_y)) a₁ x y f w on a x' y' r)

    -- the voice that a stretch leaves, by what is left
    last_voice : (left : ℕ) (u : Voice) → left ≡ 1 → between_of (left - 1) s b u ≡ u
    unfolding between_of
    last_voice left u e = rw e

    next_voice : (left : ℕ) (u : Voice) → left ≡ 2 → between_of (left - 1) s b u ≡ triggered_voice s b u
    unfolding between_of
    next_voice left u e = rw e

    module _ {x y : List Float} {w : Voice} {held : Kept} {last : Float} {from end left : ℕ} where
      pub in_order : Stage x y w held last from end left → 0 < left → from ≤ end
      in_order (ahead ew eh el ef ee en ex ey) h = omega (arith, ef)
      in_order (again el es ef ee a f ew eh ec) h = omega (arith, ef, ee, o.within)
      in_order (done el p) h = absurd (omega (arith, el, h))

      -- what the next stretch asks
      pub next_stretch : Stage x y w held last from end left → 0 < left → Stretch s q b w held from (end - from) x y
      next_stretch (ahead ew eh el ef ee en ex ey) h = rw (ew, eh, ef, ee, minus_none split, ex, ey) (first_frames s q b split o.within o.ready)
      next_stretch (again el es ef ee a f ew eh ec) h =
          rw (eh, ef, ee)
          (restart_stretch s q b v frames x₀ y₀ split split (omega (arith, o.within)) o.within (omega (arith, o.ready.room_x)) (omega (arith, o.ready.room_y)) a x y f w ew o.ready)
      next_stretch (done el p) h = absurd (omega (arith, el, h))

      -- and what is played when none is left
      pub all_played : Stage x y w held last from end left → left ≡ 0 → (at : Option ℕ) → stretches_of at ≡ stretches → first_end at frames ≡ split
          → PlaysParts s q b v at frames x₀ y₀ (rendered w held last) x y
      all_played (ahead ew eh el ef ee en ex ey) e = absurd (never (omega (arith, en, e)))
      all_played (again el es ef ee a f ew eh ec) e = absurd (omega (arith, el, e))
      all_played (done el p) e = p

      -- a stretch on
      pub one_more : Stage x y w held last from end left → 0 < left → (a : Rendered) (x' y' : List Float) → Renders s q b (begun_voice s b from w) last from (end - from) x y a x' y'
          → (w' : Voice) → w' ≡ between_of (left - 1) s b a.voice → Stage x' y' w' a.kept a.count end frames (left - 1)
      one_more (ahead ew eh el ef ee en ex ey) h a x' y' r w' e = by o.some
        where
          r' : Renders s q b (begun_voice s b 0 v) f64_0 0 split x₀ y₀ a x' y'
          r' = rw (ew, el, ef, ee, minus_none split, ex, ey) at r

          by : (stretches ≡ 1) ⊎ (stretches ≡ 2) → Stage x' y' w' a.kept a.count end frames (left - 1)
          by (inl one) =
              done (omega (arith, en, one)) (λ (at : Option ℕ) (n : stretches_of at ≡ stretches) (k : first_end at frames ≡ split).
              through a x' y' w' (e ∙ last_voice left a.voice (en ∙ one)) r' at (n ∙ one) k)
          by (inr two) = again (omega (arith, en, two)) two ee refl a r' (e ∙ next_voice left a.voice (en ∙ two)) refl refl
      one_more (again el es ef ee a₁ f ew eh ec) h a x' y' r w' e =
          done (omega (arith, el)) (λ (at : Option ℕ) (n : stretches_of at ≡ stretches) (k : first_end at frames ≡ split).
          restarted a x' y' w' (e ∙ last_voice left a.voice el) a₁ x y f w ew (rw (ef, ee, ec) at r) at (n ∙ es) k)
      one_more (done el p) h a x' y' r w' e = absurd (omega (arith, el, h))
