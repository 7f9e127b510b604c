-- Some numbers, and what of them fits, which the definitions meet by computation. Assumes nothing.
use Rattle.std.specs.Prelude.{ℕ, ◌≡◌, refl, List, [], ◌∷◌, map}
use Rattle.number.specs.Encoded.{groups, encoded}
use Rattle.replies.specs.Replies.{bytes_of, fitting}

-- what three calls give, in 1, 3 and 1 bytes
calls : List (List ℕ)
calls = (1 ∷ []) ∷ (2 ∷ 300 ∷ []) ∷ (3 ∷ []) ∷ []

-- into buffers of 5, 4, 3 and 0 bytes: where the second has no room, nothing of it is written and nothing of the third
fitted : map (λ len. fitting len 0 calls) (5 ∷ 4 ∷ 3 ∷ 0 ∷ [])
    ≡ (1 ∷ 2 ∷ 0xac ∷ 0x02 ∷ 3 ∷ []) ∷ (1 ∷ 2 ∷ 0xac ∷ 0x02 ∷ []) ∷ (1 ∷ []) ∷ [] ∷ []
unfolding calls fitting bytes_of encoded groups
fitted = refl
