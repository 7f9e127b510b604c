-- Codes that are handed to a function have their types: from what the tool says of a parameter (`c.good`). A struct's `.1 .1` are its fields, one after the other. Assumes nothing.
--     item_typed     of an item
use Prim.Native.Nat.{ℕ, zero, suc, ◌<◌}
use mathlib.Core.Path.{◌≡◌}
use mathlib.Core.List.{List, [], ◌∷◌}
use native.Mathlib.Omega.{arith}
use base.Fml.{Fml}
use mir.Val.{Val}
use denote.Array.{each}
use denote.Builtin.{f32}
use denote.Floats.{passes}
use denote.Laws.{Is}
use denote.Shadow.{shadow}
use lib.ListN.{length, get_or}
use Rattle.codes.specs.declared.SettingsCodes.{SettingsCodes}
use Rattle.codes.specs.declared.ModCodes.{ModCodes}
use Rattle.codes.specs.declared.PointCodes.{PointCodes}
use Rattle.codes.specs.declared.PathPointCodes.{PathPointCodes}
use Rattle.codes.specs.declared.ItemCodes.{ItemCodes}
use Rattle.codes.specs.contracts.SettingsCodes as Settings
use Rattle.codes.specs.contracts.ModCodes as Mod
use Rattle.codes.specs.contracts.PointCodes as Point
use Rattle.codes.specs.contracts.PathPointCodes as PathPoint
use Rattle.codes.specs.contracts.ItemCodes as Item
use Rattle.record.specs.Promises.{IsF32, SettingsTyped, ModTyped, PointTyped, PathPointTyped, Typed}

-- what holds of each element of an array
each_all : {X : Type 0} (own : X → List Val → Fml) (P : X → Type 0) → ((x : X) (vs : List Val) → shadow (own x vs) → P x)
    → (xs : List X) (us : List Val) → shadow (each X own xs us) → (d : X) (k : ℕ) → k < length xs → P (get_or xs k d)
each_all own P h [] us s d k r = let z : ⊥ = omega arith in absurd z
each_all own P h (x ∷ xs) [] s d k r = absurd s
each_all own P h (x ∷ xs) (u ∷ us) s d zero r = h x (u ∷ []) s.0
each_all own P h (x ∷ xs) (u ∷ us) s d (suc k) r = each_all own P h xs us s.1 d k (omega arith)

settings_typed : (c : SettingsCodes) (vs : List Val) → Is Settings.the_row c vs → SettingsTyped c
settings_typed c vs held =
    let f = held.1.1 in
    let rate = f.1.1.1.0.1.1 in
    let fade = f.1.1.1.1.1.1.0.1.1 in
    let delay = f.1.1.1.1.1.1.1.0.1.1 in
    let smooth = f.1.1.1.1.1.1.1.1.0.1.1 in
    let rest = f.1.1.1.1.1.1.1.1.1 in
    record {
      hz = passes _ rate.1.1.1.0.1;
      fade = passes _ fade.1.1.0.1;
      delay = passes _ delay.1.1.0.1;
      coefficient = passes _ smooth.1.0.1;
      phase = passes _ rest.0.1;
      grid = rest.1.1.0.1;
    }

mod_typed : (c : ModCodes) (vs : List Val) → Is Mod.the_row c vs → ModTyped c
mod_typed c vs held = let f = held.1.1 in record { bus = f.1.0.1; depth = passes _ f.1.1.0.1 }

point_typed : (c : PointCodes) (vs : List Val) → Is Point.the_row c vs → PointTyped c
point_typed c vs held =
    let f = held.1.1 in
    record {
      x = passes _ f.0.1;
      y = passes _ f.1.0.1;
      curve = passes _ f.1.1.0.1;
      x_mod = mod_typed c.x_mod _ f.1.1.1.1.0;
      y_mod = mod_typed c.y_mod _ f.1.1.1.1.1.0;
    }

path_point_typed : (c : PathPointCodes) (vs : List Val) → Is PathPoint.the_row c vs → PathPointTyped c
path_point_typed c vs held =
    let f = held.1.1 in
    record {
      x = passes _ f.0.1;
      y = passes _ f.1.0.1;
      bend = passes _ f.1.1.0.1;
      x_mod = mod_typed c.x_mod _ f.1.1.1.0;
      y_mod = mod_typed c.y_mod _ f.1.1.1.1.0;
    }

pub item_typed : (c : ItemCodes) (vs : List Val) → Is Item.the_row c vs → Typed c
item_typed c vs held =
    let f = held.1.1 in
    let points = f.1.0.1.1.0.1 in
    let path = f.1.1.0.1.1.0.1 in
    let buses = f.1.1.1.0.1 in
    let rest = f.1.1.1.1 in
    let points_long : length c.shape.points ≡ 64 = points.0.1 in
    let path_long : length c.path.points ≡ 64 = path.0.1 in
    let buses_long : length c.buses ≡ 16 = buses.0.1 in
    record {
      settings = settings_typed c.settings _ f.0;
      shape = λ k h. each_all (Point.the_row).own_val PointTyped point_typed c.shape.points f.1.0.1.1.0.0 points.1 _ k (omega (arith, points_long));
      path = λ k h. each_all (PathPoint.the_row).own_val PathPointTyped path_point_typed c.path.points f.1.1.0.1.1.0.0 path.1 _ k (omega (arith, path_long));
      sixteen = buses_long;
      buses = λ k h. each_all f32.own_val (λ x. IsF32 x) (λ x us s. passes _ s.1) c.buses _ buses.1 _ k (omega (arith, buses_long));
      seed = rest.0.1;
      tempo = passes _ rest.1.0.1;
      bar = passes _ rest.1.1.0.1;
      swing = passes _ rest.1.1.1.0.1;
      percent = passes _ rest.1.1.1.1.0.1.1.1.0.1;
    }
