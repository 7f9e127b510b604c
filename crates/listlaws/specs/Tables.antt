-- Lists by their elements, and the arrays that hold them. Assumes nothing.
use Rattle.std.specs.Prelude.{ℕ, zero, suc, ◌-◌, Bool, cond, List, [], ◌∷◌, ◌++◌, length, take, drop, replicate}

-- f 0, f 1, .. f (n - 1)
unfoldable pub tabulate : {A : Type 0} → (ℕ → A) → ℕ → List A
tabulate f zero = []
tabulate f (suc n) = tabulate f n ++ (f n ∷ [])

-- one more than the last k below n at which t holds, and 0 where there is none
unfoldable pub last_where : (ℕ → Bool) → ℕ → ℕ
last_where t zero = 0
last_where t (suc n) = cond (t n) (suc n) (last_where t n)

-- an array of `size` elements that begins with the list, and holds z after it
abbrev pub padded : {A : Type 0} → ℕ → A → List A → List A
padded size z l = l ++ replicate (size - length l) z

-- v put at place j of l; what stood from there on comes after it
unfoldable pub inserted : {A : Type 0} → List A → ℕ → A → List A
inserted l j v = take j l ++ v ∷ drop j l

-- the same in an array whose first n places are in use: what stood from place j up to n moves up by one, over what stood at n
abbrev pub opened : {A : Type 0} → List A → ℕ → ℕ → A → List A
opened a n j v = take j a ++ v ∷ (take (n - j) (drop j a) ++ drop (suc n) a)

-- those elements of a list that a test picks, in their order
unfoldable pub select : {A : Type 0} → (A → Bool) → List A → List A
select t [] = []
select t (a ∷ l) = cond (t a) (a ∷ select t l) (select t l)
