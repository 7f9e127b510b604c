-- Where a value of interleaved columns stands: frame k of column v at k × columns + v. Assumes nothing.
use mathlib.Core.Path.{◌≡◌, sym, ap, ◌∙◌, subst}
use Prim.Native.Nat.{ℕ, zero, suc, ◌+◌, ◌*◌, ◌<◌}
use native.Mathlib.Nat.{zero-add, zero-mul, suc-mul, mul-le-mul_right, add_comm, add_assoc, not-suc-le-zero, le_of_suc-le-suc}
use native.Mathlib.Numerals.{add-one}
use native.Mathlib.Omega.{arith}
use mathlib.Core.List.{List, [], ◌++◌, map}
use lib.ListN.{length, get_or, drop, length-append, length-map, get_or-map, get_or-append}
use lib.Seq.{get_or-append-add, get_or-drop, drop-cons}
use Rattle.columns.specs.Columns.{interleaved}

-- an element of a mapped list, whatever stands past its end
pub get_or_map_in : {A B : Type 0} (f : A → B) (l : List A) (v : ℕ) (d : A) (e : B) → v < length l → get_or (map f l) v e ≡ f (get_or l v d)
get_or_map_in f l v d e h =
    let one : v < length (map f l) = omega (arith, length-map l f) in
    ap (λ (z : List _). get_or z 0 e) (sym (drop-cons (map f l) v e one) ∙ drop-cons (map f l) v (f d) one) ∙ get_or-map f l v d

-- it lies among the frames
pub place_in : (n s k v : ℕ) → k < n → v < s → k * s + v < n * s
place_in n s k v h one = omega (arith, suc-mul k s, mul-le-mul_right s h)

module _ {A : Type 0} (d : A) where
  abbrev heads : List (List A) → List A
  heads cols = map (λ c. get_or c 0 d) cols

  abbrev tails : List (List A) → List (List A)
  tails cols = map (λ c. drop 1 c) cols

  length_interleaved : (n : ℕ) (cols : List (List A)) → length (interleaved d n cols) ≡ n * length cols
  unfolding interleaved
  length_interleaved zero cols = sym (zero-mul (length cols))
  length_interleaved (suc n) cols =
      length-append (heads cols) (interleaved d n (tails cols))
      ∙ omega (
        arith,
        length-map cols (λ (c : List A). get_or c 0 d),
        length_interleaved n (tails cols) ∙ ap (λ (i : ℕ). n * i) (length-map cols (λ (c : List A). drop 1 c)),
        suc-mul n (length cols),
      )

  interleaved_at : (n : ℕ) (cols : List (List A)) (k v : ℕ) → k < n → v < length cols → get_or (interleaved d n cols) (k * length cols + v) d ≡ get_or (get_or cols v []) k d
  unfolding interleaved
  interleaved_at zero cols k v h one = absurd (not-suc-le-zero h)
  interleaved_at (suc n) cols zero v h one =
      ap (λ (i : ℕ). get_or (heads cols ++ interleaved d n (tails cols)) i d) (ap (λ (i : ℕ). i + v) (zero-mul (length cols)) ∙ zero-add v)
      ∙ get_or-append (heads cols) (interleaved d n (tails cols)) d v (omega (arith, length-map cols (λ (c : List A). get_or c 0 d)))
      ∙ get_or-map (λ (c : List A). get_or c 0 d) cols v []
  interleaved_at (suc n) cols (suc k) v h one =
      let wide = length-map cols (λ (c : List A). drop 1 c) in
      ap (λ (i : ℕ). get_or (heads cols ++ interleaved d n (tails cols)) i d)
      (ap (λ (i : ℕ). i + v) (suc-mul k (length cols) ∙ add_comm (k * length cols) (length cols)) ∙ add_assoc (length cols) (k * length cols) v
      ∙ ap (λ (i : ℕ). i + (k * length cols + v)) (sym (length-map cols (λ (c : List A). get_or c 0 d))))
      ∙ get_or-append-add (heads cols) (interleaved d n (tails cols)) (k * length cols + v) d
      ∙ ap (λ (i : ℕ). get_or (interleaved d n (tails cols)) (k * i + v) d) (sym wide)
      ∙ interleaved_at n (tails cols) k v (le_of_suc-le-suc h) (omega (arith, wide))
      ∙ ap (λ (c : List A). get_or c k d) (get_or-map (λ (c : List A). drop 1 c) cols v [])
      ∙ get_or-drop 1 (get_or cols v []) k d
      ∙ ap (λ (i : ℕ). get_or (get_or cols v []) i d) (add_comm 1 k ∙ add-one k)

  -- in a buffer that goes on after the frames
  pub column_at : (n : ℕ) (cols : List (List A)) (rest : List A) (k v : ℕ) → k < n → v < length cols
      → get_or (interleaved d n cols ++ rest) (k * length cols + v) d ≡ get_or (get_or cols v []) k d
  column_at n cols rest k v h one =
      get_or-append (interleaved d n cols) rest d (k * length cols + v) (subst (λ (i : ℕ). k * length cols + v < i) (sym (length_interleaved n cols)) (place_in n (length cols) k v h one))
      ∙ interleaved_at n cols k v h one
