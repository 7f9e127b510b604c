-- Columns that are written one after the other are interleaved. Assumes nothing.
use mathlib.Core.Path.{◌≡◌, refl, sym, ap, ◌∙◌}
use Prim.Native.Nat.{ℕ, zero, suc, ◌+◌, ◌*◌, ◌≤◌, ◌<◌}
use native.Mathlib.Nat.{zero-add, suc-add, suc-mul, zero-mul, add_comm}
use native.Mathlib.Numerals.{add-one}
use native.Mathlib.Omega.{arith}
use mathlib.Core.List.{List, [], ◌∷◌, ◌++◌, map, append-nil, append_assoc, map-append}
use lib.ListN.{length, set, get_or, take, drop, length-set, length-append, length-drop, length-map, take-append-drop, drop_of_length-le}
use lib.Seq.{length-take-le, drop-cons, drop-drop, append_snoc, set_at, set-append_left}
use Rattle.columns.specs.Columns.{strided, interleaved}

module _ {A : Type 0} where
  -- ---- one column

  set_behind : (a b : List A) (p : ℕ) (x : A) → set (a ++ b) (length a + p) x ≡ a ++ set b p x
  set_behind [] b p x = ap (λ (k : ℕ). set b k x) (zero-add p)
  set_behind (y ∷ a) b p x = ap (λ (k : ℕ). set (y ∷ a ++ b) k x) (suc-add (length a) p) ∙ ap {B = List A} (λ t. y ∷ t) (set_behind a b p x)

  -- a column of what stands behind a whole frame
  strided_behind : (s p : ℕ) (vs a b : List A) → length a ≡ s → strided s (p + s) vs (a ++ b) ≡ a ++ strided s p vs b
  unfolding strided
  strided_behind s p [] a b e = refl
  strided_behind s p (x ∷ vs) a b e =
      ap (λ (k : ℕ). strided s ((p + s) + s) vs (set (a ++ b) k x)) (add_comm p s ∙ ap (λ (k : ℕ). k + p) (sym e))
      ∙ ap (λ (z : List A). strided s ((p + s) + s) vs z) (set_behind a b p x)
      ∙ strided_behind s (p + s) vs a (set b p x) e

  -- ---- some columns

  abbrev heads : A → List (List A) → List A
  heads d cs = map (λ c. get_or c 0 d) cs

  abbrev tails : List (List A) → List (List A)
  tails cs = map (λ c. drop 1 c) cs

  -- the first columns of n frames of l, of s places each
  unfoldable pub woven : A → ℕ → ℕ → List (List A) → List A → List A
  woven d s zero cs l = l
  woven d s (suc n) cs l = (heads d cs ++ drop (length cs) (take s l)) ++ woven d s n (tails cs) (drop s l)

  pub woven_none : (d : A) (s n : ℕ) (l : List A) → woven d s n [] l ≡ l
  unfolding woven
  woven_none d s zero l = refl
  woven_none d s (suc n) l = ap (λ (z : List A). take s l ++ z) (woven_none d s n (drop s l)) ∙ take-append-drop s l

  length_heads : (d : A) (cs : List (List A)) → length (heads d cs) ≡ length cs
  length_heads d cs = length-map cs (λ c. get_or c 0 d)

  length_tails : (cs : List (List A)) → length (tails cs) ≡ length cs
  length_tails cs = length-map cs (λ c. drop 1 c)

  -- a frame of which the first columns are written has s places
  length_frame : (d : A) (s : ℕ) (cs : List (List A)) (l : List A) → length cs ≤ s → s ≤ length l → length (heads d cs ++ drop (length cs) (take s l)) ≡ s
  length_frame d s cs l few room =
      length-append (heads d cs) (drop (length cs) (take s l)) ∙ omega (arith, length_heads d cs, length-drop (length cs) (take s l), length-take-le s l room)

  -- one place more of a frame
  frame_more : (d : A) (s : ℕ) (cs : List (List A)) (x : A) (c l : List A) → length cs < s → s ≤ length l
      → set (heads d cs ++ drop (length cs) (take s l)) (length cs) x ≡ heads d (cs ++ ((x ∷ c) ∷ [])) ++ drop (length (cs ++ ((x ∷ c) ∷ []))) (take s l)
  frame_more d s cs x c l few room =
      let k = length cs in
      ap (λ (z : List A). set (heads d cs ++ z) k x) (drop-cons (take s l) k d (omega (arith, length-take-le s l room)))
      ∙ set_at (heads d cs) (get_or (take s l) k d) (drop (suc k) (take s l)) x k (length_heads d cs)
      ∙ ap (λ (j : ℕ). heads d cs ++ x ∷ drop j (take s l)) (sym (length-append cs ((x ∷ c) ∷ []) ∙ add-one k))
      ∙ sym (append_snoc (heads d cs) x (drop (length (cs ++ ((x ∷ c) ∷ []))) (take s l)))
      ∙ ap (λ (z : List A). z ++ drop (length (cs ++ ((x ∷ c) ∷ []))) (take s l)) (sym (map-append (λ (e : List A). get_or e 0 d) cs ((x ∷ c) ∷ [])))

  -- the frames after the first have room for theirs
  room_behind : (s n : ℕ) (l : List A) → suc n * s ≤ length l → n * s ≤ length (drop s l)
  room_behind s n l room = omega (arith, suc-mul n s, length-drop s l, room)

  room_first : (s n : ℕ) (l : List A) → suc n * s ≤ length l → s ≤ length l
  room_first s n l room = omega (arith, suc-mul n s, room)

  pub length_woven : (d : A) (s n : ℕ) (cs : List (List A)) (l : List A) → length cs ≤ s → n * s ≤ length l → length (woven d s n cs l) ≡ length l
  unfolding woven
  length_woven d s zero cs l few room = refl
  length_woven d s (suc n) cs l few room =
      length-append (heads d cs ++ drop (length cs) (take s l)) (woven d s n (tails cs) (drop s l))
      ∙ omega (
        arith,
        length_frame d s cs l few (room_first s n l room),
        length_woven d s n (tails cs) (drop s l) (omega (arith, length_tails cs)) (room_behind s n l room),
        length-drop s l,
        room_first s n l room,
      )

  -- one column more
  pub woven_more : (d : A) (s n : ℕ) (cs : List (List A)) (c : List A) (l : List A) → length cs < s → length c ≡ n → n * s ≤ length l
      → strided s (length cs) c (woven d s n cs l) ≡ woven d s n (cs ++ (c ∷ [])) l
  unfolding woven strided
  woven_more d s zero cs [] l few e room = refl
  woven_more d s zero cs (x ∷ c) l few e room = let z : ⊥ = omega (arith, e) in absurd z
  woven_more d s (suc n) cs [] l few e room = let z : ⊥ = omega (arith, e) in absurd z
  woven_more d s (suc n) cs (x ∷ c) l few e room =
      let k = length cs in
      let a = heads d cs ++ drop k (take s l) in
      let w = woven d s n (tails cs) (drop s l) in
      let long = length_frame d s cs l (omega arith) (room_first s n l room) in
      ap (λ (z : List A). strided s (k + s) c z) (set-append_left a w k x (omega (arith, long)))
      ∙ strided_behind s k c (set a k x) w (length-set a k x ∙ long)
      ∙ ap (λ (z : List A). set a k x ++ z)
      (ap (λ (j : ℕ). strided s j c w) (sym (length_tails cs))
      ∙ woven_more d s n (tails cs) c (drop s l) (omega (arith, length_tails cs)) (omega (arith, e)) (room_behind s n l room)
      ∙ ap (λ (z : List (List A)). woven d s n z (drop s l)) (sym (map-append (λ (u : List A). drop 1 u) cs ((x ∷ c) ∷ []))))
      ∙ ap (λ (z : List A). z ++ woven d s n (tails (cs ++ ((x ∷ c) ∷ []))) (drop s l)) (frame_more d s cs x c l few (room_first s n l room))

  -- all of them
  pub woven_all : (d : A) (s n : ℕ) (cs : List (List A)) (l : List A) → length cs ≡ s → n * s ≤ length l → woven d s n cs l ≡ interleaved d n cs ++ drop (n * s) l
  unfolding woven interleaved
  woven_all d s zero cs l e room = ap (λ (k : ℕ). drop k l) (sym (zero-mul s))
  woven_all d s (suc n) cs l e room =
      ap (λ (z : List A). (heads d cs ++ z) ++ woven d s n (tails cs) (drop s l)) (drop_of_length-le (take s l) {i = length cs} (omega (arith, e, length-take-le s l (room_first s n l room))))
      ∙ ap (λ (z : List A). z ++ woven d s n (tails cs) (drop s l)) (append-nil (heads d cs))
      ∙ ap (λ (z : List A). heads d cs ++ z) (woven_all d s n (tails cs) (drop s l) (length_tails cs ∙ e) (room_behind s n l room))
      ∙ sym (append_assoc (heads d cs) (interleaved d n (tails cs)) (drop (n * s) (drop s l)))
      ∙ ap (λ (z : List A). (heads d cs ++ interleaved d n (tails cs)) ++ z) (drop-drop (n * s) s l ∙ ap (λ (k : ℕ). drop k l) (add_comm s (n * s) ∙ sym (suc-mul n s)))
