-- Sample and hold: the first frame after a restart draws, so that equal random words are enough. Assumes nothing.
use Rattle.std.specs.Prelude.{None, Option, Some}
use Prim.Native.Nat.{ℕ, zero, suc, ◌+◌, ◌-◌, ◌*◌, ◌/◌, ◌^◌, ◌≤◌, ◌<◌, zero-le}
use mathlib.Core.Path.{◌≡◌, refl, ap, ◌∙◌}
use mathlib.Core.Logic.{◌⊎◌, inl, inr}
use mathlib.Core.Bool.{Bool, true, false, cond}
use native.Mathlib.Nat.{le_trans, le_refl, le_of_lt, min-eq_left, div-mul-le_self, le_of_mul-le-mul_right}
use native.Mathlib.Omega.{arith}
use lib.Dec.{lit≤, lit<}
use lib.IntN.{ℤ, pos, neg_ℤ}
use lib.Ieee.{Float, nan, inf, fin, binary64, up, down, of_bits, add, mul, to_signed}
use lib.Ieee.Fits.{down_pos}
use borrow.Author.Tests.{ne_eqb}
use Rattle.floatlaws.specs.Numbers.{f64_0}
use Rattle.floatlaws.specs.Rounded.{to_f64}
use Rattle.floatlaws.specs.Whole.{whole_of, to_floor}
use Rattle.floatlaws.specs.Size.{Sized, Size}
use Rattle.floatlaws.proofs.Size.{size_more}
use Rattle.random.specs.Draw.{drawn}
use Rattle.settings.specs.declared.choices.Mode.{Mode}
use Rattle.position.specs.Position.{swung_of, swung_by}
use Rattle.clock.specs.declared.anchor.Anchor.{Anchor}
use Rattle.clock.specs.declared.anchor.Anchor.TheVariants.{Samples}
use Rattle.clock.specs.declared.block.Block.{Block}
use Rattle.clock.specs.Anchor.{along}
use Rattle.reach.specs.Bounds.{SwingIn}
use Rattle.reach.proofs.Reach.{reached_size}
use Rattle.reach.proofs.Swing.{floor_size, swung_in}
use Rattle.voice.specs.declared.source.Source.{Source}
use Rattle.voice.specs.Source.{no_cycle, same_cycle, sampled_of, cycle_of}
use Rattle.voice.specs.Generate.{count_at}
use Rattle.restart.specs.Rule.{Restarts}

-- ---- a count that a player reaches is in no cycle that stands for none

below : (n k : ℕ) → n < 2 ^ 63 → k ≤ n → same_cycle (neg_ℤ (pos k)) no_cycle ≡ false
unfolding same_cycle
below n zero h l = refl
below n (suc k) h l = ne_eqb k (2 ^ 63 - 1) (λ (e : k ≡ 2 ^ 63 - 1). absurd (omega arith))

signed_apart : (x : Float) (n : ℕ) → Sized x n → n < 2 ^ 63 → same_cycle (to_signed 63 x) no_cycle ≡ false
unfolding to_signed
signed_apart nan n z h = absurd z
signed_apart (inf s) n z h = absurd z
signed_apart (fin false m e) n z h = unfold same_cycle in refl
signed_apart (fin true m e) n z h =
    let w : m * up e / down e ≤ n = le_of_mul-le-mul_right (le_trans (div-mul-le_self (m * up e) (down e)) z) (down_pos e) in
    rw (min-eq_left (le_trans w (le_of_lt h))) (below n (m * up e / down e) h w)

sized_apart : (w : Option Float) (c : Float) → SwingIn w → Size c (2 ^ 46) → same_cycle (to_signed 63 (whole_of binary64 to_floor (swung_by w c))) no_cycle ≡ false
sized_apart w c i z =
    let f = floor_size (lit≤ tt) (swung_in w c z i) in signed_apart (whole_of binary64 to_floor (swung_by w c)) (2 ^ 50 + 1) f.sized (lit< tt)

nan_apart : (w : Option Float) → same_cycle (to_signed 63 (whole_of binary64 to_floor (swung_by w nan))) no_cycle ≡ false
unfolding same_cycle to_signed whole_of swung_of add mul of_bits
nan_apart None = refl
nan_apart (Some first) = refl

-- ---- an anchor at which it draws

-- it has counted no more samples than a player may play, from a start that has not gone further; or its start is no number
pub record First (a : Anchor) : Type 0 where
  pub c0 : Float
  pub n : ℕ
  pub inc : Float
  pub is : a ≡ Samples c0 n inc
  pub counted : n ≤ 2 ^ 40
  pub starts : (c0 ≡ nan) ⊎ Size c0 (2 ^ 45 + (2 ^ 40 - n))
  pub step : Size inc 1

zero_size : (n : ℕ) → Size f64_0 n
unfolding of_bits
zero_size n = size_more {a = 0} zero-le (record { sized = lit≤ tt })

reached : (c0 : Float) (n : ℕ) (inc : Float) → n ≤ 2 ^ 40 → Size c0 (2 ^ 45 + (2 ^ 40 - n)) → Size inc 1 → Size (along c0 (to_f64 n) inc) (2 ^ 46)
reached c0 n inc h z i = size_more (lit≤ tt) (reached_size (zero_size _) (zero_size _) (2 ^ 40) (le_refl (2 ^ 40)) (Samples c0 n inc) (h, z, i))

along_apart : (w : Option Float) → SwingIn w → (c0 : Float) (n : ℕ) (inc : Float) → n ≤ 2 ^ 40 → (c0 ≡ nan) ⊎ Size c0 (2 ^ 45 + (2 ^ 40 - n)) → Size inc 1
    → same_cycle (to_signed 63 (whole_of binary64 to_floor (swung_by w (along c0 (to_f64 n) inc)))) no_cycle ≡ false
along_apart w i c0 n inc h (inl e) s = rw e (unfold add in nan_apart w)
along_apart w i c0 n inc h (inr z) s = sized_apart w (along c0 (to_f64 n) inc) i (reached c0 n inc h z s)

-- the frame there draws
pub first_draws : (mode : Mode) (b : Block) (a : Anchor) (k : ℕ) → Restarts mode → SwingIn b.swing → First a → same_cycle (cycle_of mode (count_at mode b a k)) no_cycle ≡ false
unfolding cycle_of count_at same_cycle
first_draws mode b a k (inl m) w f = rw (m, f.is) (along_apart b.swing w f.c0 f.n f.inc f.counted f.starts f.step)
first_draws mode b a k (inr m) w f = rw m refl

-- ---- what two voices with one anchor draw: the same, or equal words where both draw at their next frame

pub record SameDraw (s q : Source) : Type 0 where
  pub word : s.rng ≡ q.rng
  pub held : s.held ≡ q.held
  pub cycle : s.cycle ≡ q.cycle

pub record Due (a : Anchor) (s q : Source) : Type 0 where
  pub first : First a
  pub word : s.rng ≡ q.rng
  pub void_s : s.cycle ≡ no_cycle
  pub void_q : q.cycle ≡ no_cycle

abbrev pub Draws : Anchor → Source → Source → Type 0
Draws a s q = SameDraw s q ⊎ Due a s q

abbrev redrawn : Source → ℤ → Source
redrawn s z = record { rng = (drawn s.rng).word; held = (drawn s.rng).value; cycle = z; chaos = s.chaos }

-- so they hold the same after it
pub same_draw : (a : Anchor) (s q : Source) (z : ℤ) → Draws a s q → (First a → same_cycle z no_cycle ≡ false) → SameDraw (sampled_of s z) (sampled_of q z)
unfolding sampled_of
same_draw a s q z (inl e) h = go (same_cycle z s.cycle) (same_cycle z q.cycle) (ap (same_cycle z) e.cycle)
  where
    go : (t u : Bool) → t ≡ u → SameDraw (cond t s (redrawn s z)) (cond u q (redrawn q z))
    go true u l = rw (← l) e
    go false u l = rw (← l) (record { word = rw e.word refl; held = rw e.word refl; cycle = refl })
same_draw a s q z (inr d) h =
    go (same_cycle z s.cycle) (same_cycle z q.cycle) (ap (same_cycle z) d.void_s ∙ h d.first) (ap (same_cycle z) d.void_q ∙ h d.first)
  where
    go : (t u : Bool) → t ≡ false → u ≡ false → SameDraw (cond t s (redrawn s z)) (cond u q (redrawn q z))
    go t u l m = rw (l, m) (record { word = rw d.word refl; held = rw d.word refl; cycle = refl })
