-- Reading goes on in a run and stays in it. Assumes nothing.
--     ahead-..     what is read takes one byte or more, and all of them are in the run
--     steady-..    what is read, if it takes any byte, takes bytes of the run
use Prim.Native.Nat.{ℕ, zero, suc, ◌+◌, ◌^◌, ◌≤◌, ◌<◌}
use mathlib.Core.Path.{◌≡◌, refl}
use mathlib.Core.Bool.{Bool, true, false, cond}
use mathlib.Core.List.{List}
use native.Mathlib.Omega.{arith}
use borrow.Author.Tests.{ltb-true}
use lib.Dec.{ltb}
use lib.ListN.{length, drop, get_or, take, length-drop}
use Rattle.floatlaws.specs.Numbers.{f32_0}
use Rattle.std.specs.Prelude.{Ok, Err}
use Rattle.number.specs.declared.Fault.TheVariants.{CutShort, BadNumber}
use Rattle.number.specs.Read.{Reading, leading, number_of, shortest, judged, read_from, read_at}
use Rattle.number.proofs.Exact.{err_is_none, same_parts, below_small}
use Rattle.fields.specs.Parser.{read, Parser, ◌then◌, done, when}
use Rattle.fields.specs.Fields.{number, below, f32, f64}
use Rattle.fields.proofs.Chains.{was_read, same_place}
use Rattle.fields.proofs.Trips.{parsed_read}
use Rattle.runs.specs.Records.{rate, span, smooth, settings, scale, transport, restart}
use Rattle.runs.specs.Curves.{kept, modulation, point, loopback, shape, path_point, path}

pub record Ahead {A : Type 0} (p : Parser A) : Type 0 where
  pub ahead : (run : List ℕ) (at : ℕ) (a : A) (next : ℕ) → p run at ≡ read a next → (at < next) × (next ≤ length run)

pub record Steady {A : Type 0} (p : Parser A) : Type 0 where
  pub steady : (run : List ℕ) (at : ℕ) (a : A) (next : ℕ) → p run at ≡ read a next → (at ≤ next) × (at ≤ length run → next ≤ length run)

pub steady_ahead : {A : Type 0} {p : Parser A} → Ahead p → Steady p
steady_ahead h = record { steady = λ run at a next e. let w = h.ahead run at a next e in (omega arith, λ _. w.1) }

pub steady_done : {A : Type 0} (a : A) → Steady (done a)
steady_done a = record { steady = λ run at b next e. let same : at ≡ next = same_place e in (omega arith, λ h. omega arith) }

-- ---- one after the other

module _ {A B : Type 0} (p : Parser A) (f : A → Parser B) where
  pub ahead_then : Ahead p → ((a : A) → Steady (f a)) → Ahead (p then f)
  ahead_then h s =
      record {
        ahead = λ run at b end e.
            let (a, next, first, rest) = was_read (p run at) _ e in
            let w = h.ahead run at a next first in
            let v = (s a).steady run next b end rest in
            (omega arith, v.1 w.1);
      }

  pub steady_then : Steady p → ((a : A) → Steady (f a)) → Steady (p then f)
  steady_then h s =
      record {
        steady = λ run at b end e.
            let (a, next, first, rest) = was_read (p run at) _ e in
            let w = h.steady run at a next first in
            let v = (s a).steady run next b end rest in
            (omega arith, λ inside. v.1 (w.1 inside));
      }

-- ---- the fields

-- the place after a number
module _ (run : List ℕ) (at v next : ℕ) where
  judged_next : (k b value end : ℕ) → judged k b value end ≡ Ok (v, next) → next ≡ end
  unfolding judged
  judged_next k b value end = by_tests (shortest k b) (ltb value (2 ^ 64))
    where
      by_tests : (s t : Bool) → cond {A = Reading} s (cond {A = Reading} t (Ok (value, end)) (Err BadNumber)) (Err BadNumber) ≡ Ok (v, next) → next ≡ end
      by_tests true true e = (same_parts e).1
      by_tests true false e = absurd (err_is_none e)
      by_tests false t e = absurd (err_is_none e)

  number_ahead : read_at run at ≡ Ok (v, next) → (at < next) × (next ≤ length run)
  unfolding read_at read_from
  number_ahead e = by_test (ltb k (length l)) refl e
    where
      l : List ℕ
      l = drop at run

      k : ℕ
      k = leading l

      by_test : (t : Bool) → ltb k (length l) ≡ t → cond t (judged k (get_or l k 0) (number_of (take (suc k) l)) (at + suc k)) (Err CutShort) ≡ Ok (v, next)
          → (at < next) × (next ≤ length run)
      by_test true inside e =
          let place : next ≡ at + suc k = judged_next k _ _ _ e in
          let few : k < length l = ltb-true _ _ inside in
          (omega arith, omega (arith, rw length-drop at few))
      by_test false inside e = let z : ◌≡◌ {A = ℕ} 0 1 = cc e in absurd (omega arith)

pub ahead_number : Ahead number
unfolding number
ahead_number = record { ahead = λ run at v next e. number_ahead run at v next (parsed_read (read_at run at) e) }

pub ahead_below : (limit : ℕ) → Ahead (below limit)
unfolding below
ahead_below limit = record { ahead = λ run at v next e. number_ahead run at v next (below_small limit (read_at run at) v next (parsed_read _ e)).1 }

pub ahead_f32 : Ahead f32
unfolding f32
ahead_f32 = ahead_then _ _ (ahead_below _) λ _. steady_done _

pub ahead_f64 : Ahead f64
unfolding f64
ahead_f64 = ahead_then _ _ ahead_number λ _. steady_done _

-- a field that belongs to one case
pub steady_when : {A : Type 0} {p : Parser A} → Ahead p → (blank : A) (chosen : Bool) → Steady (when chosen blank p)
unfolding when
steady_when h blank true = steady_ahead h
steady_when h blank false = steady_done _

steady_number_if : (chosen : Bool) → Steady (when chosen 0 number)
steady_number_if = steady_when ahead_number 0

steady_f32_if : (chosen : Bool) → Steady (when chosen f32_0 f32)
steady_f32_if = steady_when ahead_f32 f32_0

-- ---- what they make

pub ahead_rate : Ahead rate
unfolding rate
ahead_rate =
    ahead_then _ _ ahead_number λ _.
    steady_then _ _ (steady_number_if _) λ _.
    steady_then _ _ (steady_number_if _) λ _.
    steady_then _ _ (steady_f32_if _) λ _.
    steady_then _ _ (steady_number_if _) λ _.
    steady_done _

pub ahead_span : Ahead span
unfolding span
ahead_span =
    ahead_then _ _ ahead_number λ _.
    steady_then _ _ (steady_number_if _) λ _.
    steady_then _ _ (steady_f32_if _) λ _.
    steady_done _

pub ahead_smooth : Ahead smooth
unfolding smooth
ahead_smooth =
    ahead_then _ _ ahead_number λ _.
    steady_then _ _ (steady_f32_if _) λ _.
    steady_done _

pub ahead_settings : Ahead settings
unfolding settings
ahead_settings =
    ahead_then _ _ ahead_number λ _.
    steady_then _ _ (steady_ahead ahead_number) λ _.
    steady_then _ _ (steady_ahead ahead_number) λ _.
    steady_then _ _ (steady_ahead ahead_rate) λ _.
    steady_then _ _ (steady_ahead ahead_number) λ _.
    steady_then _ _ (steady_ahead ahead_number) λ _.
    steady_then _ _ (steady_ahead ahead_span) λ _.
    steady_then _ _ (steady_ahead ahead_span) λ _.
    steady_then _ _ (steady_ahead ahead_smooth) λ _.
    steady_then _ _ (steady_ahead ahead_f32) λ _.
    steady_then _ _ (steady_ahead ahead_number) λ _.
    steady_then _ _ (steady_ahead (ahead_below _)) λ _.
    steady_done _

pub ahead_scale : Ahead scale
unfolding scale
ahead_scale =
    ahead_then _ _ ahead_number λ _.
    steady_then _ _ (steady_f32_if _) λ _.
    steady_done _

pub ahead_transport : Ahead transport
unfolding transport
ahead_transport =
    ahead_then _ _ ahead_f64 λ _.
    steady_then _ _ (steady_ahead ahead_f64) λ _.
    steady_then _ _ (steady_ahead ahead_f64) λ _.
    steady_then _ _ (steady_ahead ahead_number) λ _.
    steady_then _ _ (steady_ahead ahead_f64) λ _.
    steady_then _ _ (steady_ahead ahead_f64) λ _.
    steady_then _ _ (steady_ahead ahead_f32) λ _.
    steady_then _ _ (steady_ahead ahead_scale) λ _.
    steady_done _

pub ahead_restart : Ahead restart
unfolding restart
ahead_restart =
    ahead_then _ _ ahead_number λ _.
    steady_then _ _ (steady_number_if _) λ _.
    steady_done _

pub steady_kept : {A : Type 0} (blank : A) (p : Parser A) → Ahead p → (n : ℕ) → Steady (kept blank p n)
unfolding kept
steady_kept blank p h zero = steady_done _
steady_kept blank p h (suc n) =
    steady_then _ _ (steady_kept blank p h n) λ _.
    steady_then _ _ (steady_ahead h) λ _.
    steady_done _

pub ahead_modulation : Ahead modulation
unfolding modulation
ahead_modulation =
    ahead_then _ _ ahead_number λ _.
    steady_then _ _ (steady_when (ahead_below _) 0 _) λ _.
    steady_then _ _ (steady_f32_if _) λ _.
    steady_done _

pub ahead_point : Ahead point
unfolding point
ahead_point =
    ahead_then _ _ ahead_f32 λ _.
    steady_then _ _ (steady_ahead ahead_f32) λ _.
    steady_then _ _ (steady_ahead ahead_f32) λ _.
    steady_then _ _ (steady_ahead ahead_number) λ _.
    steady_then _ _ (steady_ahead ahead_modulation) λ _.
    steady_then _ _ (steady_ahead ahead_modulation) λ _.
    steady_done _

pub ahead_loopback : Ahead loopback
unfolding loopback
ahead_loopback =
    ahead_then _ _ ahead_number λ _.
    steady_then _ _ (steady_number_if _) λ _.
    steady_done _

pub ahead_shape : Ahead shape
unfolding shape
ahead_shape =
    ahead_then _ _ (ahead_below _) λ _.
    steady_then _ _ (steady_kept _ _ ahead_point _) λ _.
    steady_then _ _ (steady_ahead ahead_loopback) λ _.
    steady_done _

pub ahead_path_point : Ahead path_point
unfolding path_point
ahead_path_point =
    ahead_then _ _ ahead_f32 λ _.
    steady_then _ _ (steady_ahead ahead_f32) λ _.
    steady_then _ _ (steady_ahead ahead_f32) λ _.
    steady_then _ _ (steady_ahead ahead_modulation) λ _.
    steady_then _ _ (steady_ahead ahead_modulation) λ _.
    steady_done _

pub ahead_path : Ahead path
unfolding path
ahead_path =
    ahead_then _ _ (ahead_below _) λ _.
    steady_then _ _ (steady_ahead ahead_number) λ _.
    steady_then _ _ (steady_kept _ _ ahead_path_point _) λ _.
    steady_done _
