-- The player that an item's calls leave. Assumes nothing.
use Rattle.std.specs.Prelude.{None, Option, Some}
use Prim.Native.Nat.{ℕ, suc}
use mathlib.Core.Path.{◌≡◌, refl, sym, ap, ◌∙◌}
use mathlib.Core.Bool.{Bool, true, false, cond}
use mathlib.Core.List.{List, [], ◌∷◌, ◌++◌, map}
use native.Mathlib.Omega.{arith}
use lib.ListN.{length, take, drop, replicate, length-append}
use lib.Seq.{append_snoc, get_or_at, take_at, drop_at}
use lib.Ieee.{Float, nan, eq}
use Rattle.floatlaws.specs.Numbers.{f32_0}
use Rattle.codes.specs.declared.SettingsCodes.{SettingsCodes}
use Rattle.codes.specs.declared.ItemCodes.{ItemCodes}
use Rattle.settings.specs.Codes.{settings_at}
use Rattle.shape.specs.declared.Shape.{Shape}
use Rattle.path.specs.declared.Path.{Path}
use Rattle.curves.specs.Given.{given_shape, given_path}
use Rattle.calls.specs.State.{State, new_state, moved_buses, with_shape, with_path, with_bus}
use Rattle.calls.specs.Calls.{Call, shape, path, bus, by_settings, makes, no_player, made, answer, accepted, step, after}
use Rattle.record.specs.Kept.{codes_of_point, codes_of_path_point, kept_shape, kept_path, kept}
use Rattle.record.specs.Questions.{item_answer}
use Rattle.item_calls.specs.Calls.{bus_calls, item_calls, item_state, entered, PlaysTheItem, StoresTheWritten}
use Rattle.item_calls.proofs.Accepted.{BusesPass, next_pass, bus_passes, shape_passes, path_passes, buses_pass}
use Rattle.settings.specs.declared.record.Settings.{Settings}

-- a player with these curves and buses
abbrev pub with_curves : State → Shape → Path → List Float → State
with_curves p drawn way buses =
    record { lfo = record { settings = p.lfo.settings; shape = drawn; path = way; buses = buses; clock = p.lfo.clock }; voice = p.voice; played = p.played }

abbrev with_buses : State → List Float → State
with_buses p buses = with_curves p p.lfo.shape p.lfo.path buses

-- ---- buses

module _ (front rest : List Float) (value : Float) (k : ℕ) (here : length front ≡ k) where
  by_test : (t : Bool) → cond t (front ++ (f32_0 ∷ rest)) (front ++ (value ∷ rest)) ≡ front ++ (cond t f32_0 value ∷ rest)
  by_test true = refl
  by_test false = refl

  moved : moved_buses (front ++ (f32_0 ∷ rest)) k value ≡ front ++ (entered value ∷ rest)
  unfolding moved_buses
  moved =
      let long : length (front ++ (f32_0 ∷ [])) ≡ suc k = omega (arith, length-append front (f32_0 ∷ [])) in
      let behind : drop (suc k) (front ++ (f32_0 ∷ rest)) ≡ rest =
      ap (drop (suc k)) (sym (append_snoc front f32_0 rest)) ∙ drop_at (front ++ (f32_0 ∷ [])) rest (suc k) long in
      rw (get_or_at front f32_0 rest nan k here, take_at front (f32_0 ∷ rest) k here, behind) (by_test (eq f32_0 value))

stepped : (p : State) (c : Call) → answer p c ≡ 0 → step p c ≡ accepted p c
unfolding step
stepped p c h = rw h

one_bus : (p : State) (front rest : List Float) (value : Float) (k : ℕ) → length front ≡ k → p.lfo.buses ≡ front ++ (f32_0 ∷ rest) → answer p (bus k value) ≡ 0
    → step p (bus k value) ≡ with_buses p (front ++ (entered value ∷ rest))
unfolding accepted with_bus
one_bus p front rest value k here e h =
    stepped p (bus k value) h ∙ ap (with_buses p) (ap (λ (l : List Float). moved_buses l k value) e ∙ moved front rest value k here)

all_entered : (l : List Float) (k : ℕ) (p : State) (front : List Float) → length front ≡ k → p.lfo.buses ≡ front ++ replicate (length l) f32_0 → BusesPass l k
    → after p (bus_calls l k) ≡ with_buses p (front ++ map entered l)
unfolding after bus_calls
all_entered [] k p front here e f = λ d. with_buses p (e d)
all_entered (value ∷ l) k p front here e f =
    let rest = replicate (length l) f32_0 in
    let q = with_buses p (front ++ (entered value ∷ rest)) in
    let next = front ++ (entered value ∷ []) in
    let long : length next ≡ suc k = omega (arith, length-append front (entered value ∷ [])) in
    ap (λ (s : State). after s (bus_calls l (suc k))) (one_bus p front rest value k here e (bus_passes p value l k f))
    ∙ all_entered l (suc k) q next long (sym (append_snoc front (entered value) rest)) (next_pass value l k f)
    ∙ ap (with_buses p) (append_snoc front (entered value) (map entered l))

-- ---- from a player just made

made_new : (c : SettingsCodes) (seed : ℕ) → ((made c seed).lfo.buses ≡ replicate 16 f32_0) × ((made c seed).played ≡ 0)
unfolding made new_state
made_new c seed = by_codes (makes c) (settings_at c)
  where
    by_codes : (t : Bool) (k : Option Settings)
        → let p = cond t (by_settings (no_player seed) k (λ s. new_state s seed)) (no_player seed) in (p.lfo.buses ≡ replicate 16 f32_0) × (p.played ≡ 0)
    by_codes false k = (refl, refl)
    by_codes true (Some s) = (refl, refl)
    by_codes true None = (refl, refl)

pub left : (i : ItemCodes) → length i.buses ≡ 16 → item_answer i ≡ 0
    → item_state i ≡ with_curves (made i.settings i.seed) (given_shape i.shape) (given_path i.path) (map entered i.buses)
unfolding item_calls after accepted with_shape with_path
left i sixteen h =
    let p = made i.settings i.seed in
    let c = shape i.shape in
    let d = path i.path in
    let drawn = with_shape p (given_shape i.shape) in
    let q = with_path drawn (given_path i.path) in
    let first : step p c ≡ drawn = stepped p c (shape_passes i h p) in
    let second : step drawn d ≡ q = stepped drawn d (path_passes i h drawn) in
    let stored : q.lfo.buses ≡ [] ++ replicate (length i.buses) f32_0 = rw sixteen (made_new i.settings i.seed).0 in
    ap (λ (x : State). after (step x d) (bus_calls i.buses 0)) first
    ∙ ap (λ (x : State). after x (bus_calls i.buses 0)) second
    ∙ all_entered i.buses 0 q [] refl stored (buses_pass i h sixteen)

pub plays_the_item : PlaysTheItem
plays_the_item i sixteen h =
    let is = left i sixteen h in
    record {
      settings = ap (λ (x : State). x.lfo.settings) is;
      shape = ap (λ (x : State). x.lfo.shape) is;
      path = ap (λ (x : State). x.lfo.path) is;
      buses = ap (λ (x : State). x.lfo.buses) is;
      clock = ap (λ (x : State). x.lfo.clock) is;
      voice = ap (λ (x : State). x.voice) is;
      played = ap (λ (x : State). x.played) is ∙ (made_new i.settings i.seed).1;
    }

pub stores_the_written : StoresTheWritten
unfolding kept kept_shape kept_path
stores_the_written i sixteen h =
    let p = plays_the_item i sixteen h in
    record {
      count = ap (λ (x : Shape). x.len) p.shape;
      points = ap (λ (x : Shape). take x.len (map codes_of_point x.points)) p.shape;
      path_count = ap (λ (x : Path). x.len) p.path;
      path_points = ap (λ (x : Path). take x.len (map codes_of_path_point x.points)) p.path;
    }
