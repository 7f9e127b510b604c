-- Each event takes a byte or more, so as many events as there are bytes are all of them. Assumes nothing.
use Prim.Native.Nat.{ℕ, zero, suc, ◌+◌, ◌-◌, ◌≤◌}
use mathlib.Core.Path.{◌≡◌, refl}
use mathlib.Core.List.{List, [], ◌∷◌}
use native.Mathlib.Omega.{arith}
use lib.ListN.{length, drop, length-drop}
use Rattle.fields.specs.Parser.{Parsed, read, fault}
use Rattle.sittings.specs.declared.Event.{Event}
use Rattle.sittings.specs.declared.Event.TheVariants.{Block, Restart, Bus, End}
use Rattle.sittings.specs.Events.{event}
use Rattle.sittings.specs.Courses.{Course, after_block, after_restart, after_bus}
use Rattle.sittings.specs.Sheets.{from_event, from_read, events_text, events_from}
use Rattle.sittings.proofs.Reading.{event_ahead}

module _ (f g : Course → List ℕ → List ℕ) (p : Course) where
  same_event : (e : Event) (l : List ℕ) → ((q : Course) → f q l ≡ g q l) → from_event f p e l ≡ from_event g p e l
  unfolding from_event
  same_event (Block frames) l same = rw (same (after_block p frames))
  same_event (Restart frame) l same = same (after_restart p frame)
  same_event (Bus k value) l same = rw (same (after_bus p k value))
  same_event End l same = refl

  pub same_read : (l : List ℕ) (x : Parsed Event) → ((q : Course) (e : Event) (next : ℕ) → x ≡ read e next → f q (drop next l) ≡ g q (drop next l))
      → from_read f p l x ≡ from_read g p l x
  unfolding from_read
  same_read l (read e next) same = same_event e (drop next l) (λ q. same q e next refl)
  same_read l (fault n) same = refl

-- fewer bytes are left behind an event
shorter : (b : ℕ) (l : List ℕ) (e : Event) (next : ℕ) → event (b ∷ l) 0 ≡ read e next → length (drop next (b ∷ l)) ≤ length l
shorter b l e next is = let far = event_ahead (b ∷ l) e next (omega arith) is in omega (arith, length-drop next (b ∷ l))

-- where the bound is the number of bytes left, a larger one changes nothing
pub enough : (most more : ℕ) (p : Course) (l : List ℕ) → length l ≤ most → events_text (most + more) p l ≡ events_text most p l
unfolding events_text
enough zero zero p l h = refl
enough zero (suc more) p [] h = let e : zero + suc more ≡ suc more = omega arith in rw e
enough zero (suc more) p (b ∷ l) h = absurd (omega arith)
enough (suc most) more p [] h =
    let e : suc most + more ≡ suc (most + more) = omega arith in
    rw e
enough (suc most) more p (b ∷ l) h =
    let e : suc most + more ≡ suc (most + more) = omega arith in
    rw e
    (same_read (events_text (most + more)) (events_text most) p (b ∷ l) (event (b ∷ l) 0)
    (λ q ev next is. enough most more q (drop next (b ∷ l)) (omega (arith, shorter b l ev next is))))

-- an event, and then the rest
pub one_event : (p : Course) (b : ℕ) (l : List ℕ) → events_from p (b ∷ l) ≡ from_read events_from p (b ∷ l) (event (b ∷ l) 0)
unfolding events_from events_text
one_event p b l =
    same_read (events_text (length l)) events_from p (b ∷ l) (event (b ∷ l) 0)
    λ q e next is.
    let left = drop next (b ∷ l) in
    let short = shorter b l e next is in
    let sum : length left + (length l - length left) ≡ length l = omega arith in
    rw sum at (enough (length left) (length l - length left) q left (omega arith))
