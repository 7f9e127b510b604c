-- Two restarts in blocks of the same constants leave voices that are alike, whatever the voices were. Assumes nothing.
use Rattle.std.specs.Prelude.{None}
use Prim.Native.Nat.{◌+◌, ◌-◌, ◌^◌, zero-le}
use mathlib.Core.Path.{◌≡◌, refl, sym, ap, ap₂, ◌∙◌}
use mathlib.Core.Logic.{◌⊎◌, inl, inr}
use lib.Dec.{lit≤}
use lib.Ieee.{Float, nan}
use Rattle.floatlaws.specs.Size.{Size}
use Rattle.floatlaws.proofs.Size.{size_more}
use Rattle.settings.specs.declared.choices.LfoType.{LfoType}
use Rattle.settings.specs.declared.choices.LfoType.TheVariants.{Drawn, Path, Lorenz, Rossler, SampleAndHold}
use Rattle.settings.specs.declared.choices.Mode.{Mode}
use Rattle.settings.specs.declared.times.Span.{Span}
use Rattle.settings.specs.declared.times.Span.TheVariants as Span
use Rattle.settings.specs.declared.record.Settings.{Settings}
use Rattle.settings.specs.Times.{clamped_span}
use Rattle.clock.specs.declared.anchor.Anchor.{Anchor}
use Rattle.clock.specs.declared.anchor.Anchor.TheVariants.{Samples}
use Rattle.clock.specs.declared.block.Block.{Block}
use Rattle.clock.specs.Spans.{length_of, span_length, samples_of}
use Rattle.voice.specs.declared.Voice.{Voice}
use Rattle.voice.specs.Source.{attractor_at}
use Rattle.voice.specs.Voice.{fresh_source, restarted_source, inverse_of, restarted_output, triggered_voice}
use Rattle.restart.specs.Rule.{Restarts}
use Rattle.restart.proofs.Constants.{constants_of}
use Rattle.restart.proofs.Draws.{First}
use Rattle.restart.proofs.Alike.{SourceAlike, Alike}
use Rattle.restart.proofs.Parts.{triggered_anchor}

-- a span in samples is by the block's constants
span_same : (d : Span) (b b' : Block) → constants_of b ≡ constants_of b' → samples_of d b ≡ samples_of d b'
unfolding samples_of span_length
span_same d b b' e = rw (same (clamped_span d)) refl
  where
    beat : b.beats_per_sample ≡ b'.beats_per_sample
    beat = ap (λ z. z.beat) e

    rate : b.sample_rate ≡ b'.sample_rate
    rate = ap (λ z. z.rate) e

    bar : b.beats_per_bar ≡ b'.beats_per_bar
    bar = ap (λ z. z.bar) e

    same : (d : Span) → length_of d b ≡ length_of d b'
    same Span.Off = unfold length_of in refl
    same (Span.Synced i) = unfold length_of in rw (beat, bar) refl
    same (Span.Seconds x) = unfold length_of in rw rate refl

-- what the first draw needs of a restart's block: a Phase that is small, if it is a number, and a small increment
abbrev pub Starts : Block → Type 0
Starts b = ((b.phase ≡ nan) ⊎ Size b.phase 2) × Size b.inc 1

module _ (s : Settings) (b b' : Block) (m : Restarts s.mode) (l : b.song_lock ≡ None) (l' : b'.song_lock ≡ None)
    (e : constants_of b ≡ constants_of b') (i : Starts b') (v w : Voice) (mv : v.made_for ≡ w.made_for)
    (word : s.kind ≡ SampleAndHold → v.source.rng ≡ w.source.rng) where
  first : First (triggered_voice s b' w).anchor
  first =
      record {
        c0 = b'.phase;
        n = 0;
        inc = b'.inc;
        is = triggered_anchor s b' m l' w;
        counted = zero-le;
        starts = near i.0;
        step = i.1;
      }
    where
      near : (b'.phase ≡ nan) ⊎ Size b'.phase 2 → (b'.phase ≡ nan) ⊎ Size b'.phase (2 ^ 45 + (2 ^ 40 - 0))
      near (inl z) = inl z
      near (inr z) = inr (size_more (lit≤ tt) z)

  fresh_alike : (kind : LfoType) (a : Anchor) → First a → (kind ≡ SampleAndHold → v.source.rng ≡ w.source.rng)
      → SourceAlike kind a (fresh_source kind b.phase v.source) (fresh_source kind b'.phase w.source)
  unfolding attractor_at
  fresh_alike Drawn a f h = tt
  fresh_alike Path a f h = tt
  fresh_alike Lorenz a f h = rw (ap (λ z. z.phase) e) refl
  fresh_alike Rossler a f h = rw (ap (λ z. z.phase) e) refl
  fresh_alike SampleAndHold a f h = inr (record { first = f; word = h refl; void_s = refl; void_q = refl })

  source_alike : (kind : LfoType) (mode : Mode) (a : Anchor) → Restarts mode → First a → (kind ≡ SampleAndHold → v.source.rng ≡ w.source.rng)
      → SourceAlike kind a (restarted_source mode kind b.phase v.source) (restarted_source mode kind b'.phase w.source)
  unfolding restarted_source
  source_alike kind mode a (inl z) f h = rw z (fresh_alike kind a f h)
  source_alike kind mode a (inr z) f h = rw z (fresh_alike kind a f h)

  same_anchor : (triggered_voice s b v).anchor ≡ (triggered_voice s b' w).anchor
  same_anchor =
      triggered_anchor s b m l v ∙ ap₂ (λ (c : Float) (z : Float). Samples c 0 z) (ap (λ z. z.phase) e) (ap (λ z. z.inc) e) ∙ sym (triggered_anchor s b' m l' w)

  pub triggered_alike : Alike s.kind (triggered_voice s b v) (triggered_voice s b' w)
  unfolding triggered_voice restarted_output
  triggered_alike =
      record {
        anchor = same_anchor;
        source = source_alike s.kind s.mode (triggered_voice s b' w).anchor m first word;
        output = record {
          t = refl;
          delay = span_same s.delay b b' e;
          fade = span_same s.fade_in b b' e;
          inverse = ap inverse_of (span_same s.fade_in b b' e);
          capture = refl;
          first = inl refl;
          second = λ (z : s.kind ≡ Path). inl refl;
        };
        made = mv;
      }
