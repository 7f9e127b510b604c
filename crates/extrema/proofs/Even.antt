-- Of two equal floats the larger and the smaller, by a sign. Assumes nothing.
use Rattle.std.proofs.Common.{◌≡◌, refl, sym, ◌∙◌, Bool, true, false, ◌&&◌, ◌||◌, cond, true≢false}
use Rattle.std.specs.Float.{Float, nan, inf, fin, NotNan, is_sign_negative}
use Rattle.std.specs.Float.Ieee.{lt, eq, is_nan}
use Rattle.floatlaws.specs.Extrema.{signed, max_of, min_of}

sign_is : (x : Float) → is_sign_negative x ≡ signed x
unfolding is_sign_negative
sign_is nan = refl
sign_is (inf s) = refl
sign_is (fin s m e) = refl

picked : (less same : Bool) (x y z : Float) {b : Bool} → less ≡ false → same ≡ true → is_sign_negative z ≡ b → cond b y x ≡ cond (less || (same && signed z)) y x
picked less same x y z h k e = rw (h, k, ← sign_is z, e)

no_nan : (x y w : Float) → eq x y ≡ true → cond (is_nan x) y w ≡ w
unfolding is_nan eq
no_nan nan y w k = absurd (true≢false (sym k))
no_nan (inf s) y w k = refl
no_nan (fin s m e) y w k = refl

pub max_even : (x y : Float) {b : Bool} → lt x y ≡ false → eq x y ≡ true → is_sign_negative x ≡ b → cond b y x ≡ max_of x y
unfolding max_of
max_even x y h k e = picked (lt x y) (eq x y) x y x h k e ∙ sym (no_nan x y _ k)

pub min_even : (x y : Float) {b : Bool} → lt y x ≡ false → eq x y ≡ true → is_sign_negative y ≡ b → cond b y x ≡ min_of x y
unfolding min_of
min_even x y h k e = picked (lt y x) (eq x y) x y y h k e ∙ sym (no_nan x y _ k)

pub right_is_number : (x y : Float) → eq x y ≡ true → NotNan y
unfolding is_nan eq
right_is_number x (inf s) k = tt
right_is_number x (fin s m e) k = tt
right_is_number nan nan k = absurd (true≢false (sym k))
right_is_number (inf s) nan k = absurd (true≢false (sym k))
right_is_number (fin s m e) nan k = absurd (true≢false (sym k))
