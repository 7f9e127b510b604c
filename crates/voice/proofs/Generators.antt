-- What each generator gives is what `Generates` promises, over plain variables. Assumes nothing.
use Rattle.std.proofs.Common.{◌≡◌, ◌≤◌, T, ◌⊎◌, sym, ap, subst, inl, inr}
use lib.Ieee.{Float}
use Rattle.shape_segments.specs.Segments.{contains_of}
use Rattle.shape_segments.proofs.KeptSegment.{kept_segment}
use Rattle.path_segments.specs.Segments.{path_contains}
use Rattle.path_segments.proofs.KeptPath.{kept_path}
use Rattle.clock.specs.declared.block.Block.{Block}
use Rattle.settings.specs.declared.choices.LfoType.{LfoType}
use Rattle.settings.specs.declared.choices.LfoType.TheVariants.{Drawn, Path, Lorenz, Rossler, SampleAndHold}
use Rattle.settings.specs.declared.choices.Mode.{Mode}
use Rattle.settings.specs.declared.choices.Direction.{Direction}
use Rattle.voice.specs.declared.generator.Generated.{Generated}
use Rattle.voice.specs.declared.generator.Kept.{Kept}
use Rattle.voice.specs.declared.source.Source.{Source}
use Rattle.voice.specs.Source.{attractor_of, cycle_of, step_of}
use Rattle.voice.specs.Curve.{Curve, drawn_at, path_at, HoldsDrawn, HoldsPath, Searchable, KeptFor}
use Rattle.voice.specs.Generate.{place_of, source_after, raw_of, drew_at, traced_at, held_at, chaotic_at, Generates}

-- the type of an arm of two that is not the second
pub the_first : {kind a b : LfoType} → (kind ≡ a) ⊎ (kind ≡ b) → (kind ≡ b → ⊥) → kind ≡ a
the_first (inl e) other = e
the_first (inr e) other = absurd (other e)

module _ (q : Curve) (k : Kept) where
  -- what `drawn` asks, and `traced`
  pub drawn_ready : Searchable Drawn q → KeptFor Drawn q k → (q.n ≤ 64) × HoldsDrawn (drawn_at q) k.seg
  unfolding Searchable KeptFor
  drawn_ready s f = (s.0, f)

  pub path_ready : Searchable Path q → KeptFor Path q k → (q.n ≤ 64) × HoldsPath (path_at q) k.path_seg
  unfolding Searchable KeptFor
  path_ready s f = (s.0, f)

module _ (mode : Mode) (direction : Direction) (q : Curve) (b : Block) (s : Source) (k : Kept) (c : Float) (r : Generated) where
  abbrev place : Float
  place = place_of mode direction q.from c

  -- what they give
  pub drawn_gives : Searchable Drawn q → r ≡ drew_at s k (drawn_at q place) place → Generates Drawn mode direction q b s c r
  unfolding Searchable KeptFor source_after raw_of
  drawn_gives up e =
      record {
        source_is = ap (λ (g : Generated). g.source) e;
        x_is = ap (λ (g : Generated). g.x) e;
        y_is = ap (λ (g : Generated). g.y) e;
        kept_is =
            subst (λ (g : Generated). HoldsDrawn (drawn_at q) g.kept.seg) (sym e)
            (λ (x : Float) (holds : T (contains_of (drawn_at q place) x)). kept_segment q.xs q.ys q.es q.steps q.n up.1 place x holds);
      }

  pub path_gives : Searchable Path q → r ≡ traced_at s k (path_at q place) place → Generates Path mode direction q b s c r
  unfolding Searchable KeptFor source_after raw_of
  path_gives up e =
      record {
        source_is = ap (λ (g : Generated). g.source) e;
        x_is = ap (λ (g : Generated). g.x) e;
        y_is = ap (λ (g : Generated). g.y) e;
        kept_is =
            subst (λ (g : Generated). HoldsPath (path_at q) g.kept.path_seg) (sym e)
            (λ (x : Float) (holds : T (path_contains (path_at q place) x)). kept_path q.xs q.ys q.es q.times q.n q.closed up.1 place x holds);
      }

  -- what `chaotic` gives
  abbrev Chaotic : LfoType → Type 0
  Chaotic kind = r ≡ chaotic_at (attractor_of kind) (step_of mode c b.chaos_h) b.chaos_steps s k → Generates kind mode direction q b s c r

  lorenz_gives : Chaotic Lorenz
  unfolding KeptFor source_after raw_of chaotic_at
  lorenz_gives e =
      record { source_is = ap (λ (g : Generated). g.source) e; x_is = ap (λ (g : Generated). g.x) e; y_is = ap (λ (g : Generated). g.y) e; kept_is = tt }

  rossler_gives : Chaotic Rossler
  unfolding KeptFor source_after raw_of chaotic_at
  rossler_gives e =
      record { source_is = ap (λ (g : Generated). g.source) e; x_is = ap (λ (g : Generated). g.x) e; y_is = ap (λ (g : Generated). g.y) e; kept_is = tt }

  pub chaos_gives : (kind : LfoType) → (kind ≡ Lorenz) ⊎ (kind ≡ Rossler) → Chaotic kind
  chaos_gives kind (inl h) = subst Chaotic (sym h) lorenz_gives
  chaos_gives kind (inr h) = subst Chaotic (sym h) rossler_gives

  -- what `held` gives
  pub hold_gives : (kind : LfoType) → kind ≡ SampleAndHold → r ≡ held_at s k (cycle_of mode c) → Generates kind mode direction q b s c r
  unfolding KeptFor source_after raw_of held_at
  hold_gives kind h e =
      subst (λ (m : LfoType). Generates m mode direction q b s c r) (sym h)
      (record { source_is = ap (λ (g : Generated). g.source) e; x_is = ap (λ (g : Generated). g.x) e; y_is = ap (λ (g : Generated). g.y) e; kept_is = tt })
