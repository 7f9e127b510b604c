-- `idle_members` meets its contract. The loop's invariant: those before the index are idle. Assumes nothing.
use Rattle.std.proofs.Common.{◌≡◌, ℕ, zero, suc, List, [], ◌∷◌, ◌++◌, map, length, get_or, drop, set, sym, refl, ap, ◌∙◌, append-nil, arith, take_all}
use lib.Seq.{drop-length}
use Rattle.ensemble.specs.declared.Member.{Member}
use Rattle.ensemble.proofs.Mapped.{mapped, mapped_is}
use Rattle.ensemble_player.specs.Ensembles.{idle_member}
use Rattle.ensemble_player.proofs.playing.idle_members.Given as goal

pub set_mapped : (f : Member → Member) (v : ℕ) (l : List Member) (d : Member) → set (mapped f v l) v (f (get_or (mapped f v l) v d)) ≡ mapped f (suc v) l
unfolding mapped
set_mapped f zero [] d = refl
set_mapped f zero (x ∷ l) d = refl
set_mapped f (suc v) [] d = refl
set_mapped f (suc v) (x ∷ l) d = ap (λ t. f x ∷ t) (set_mapped f v l d)

pub all_mapped : (f : Member → Member) (l : List Member) → length l ≡ 16 → mapped f 16 l ≡ map f l
all_mapped f l e =
    mapped_is f 16 l ∙ ap (λ (t : List Member). map f t ++ drop 16 l) (take_all 16 l (omega (arith, e))) ∙ ap (λ (t : List Member). map f l ++ t) (ap (λ (n : ℕ). drop n l) (sym e) ∙ drop-length l)
    ∙ append-nil (map f l)

abbrev pub invariant-loop-m : goal.invariant-loop-m
invariant-loop-m l = l.m-items ≡ mapped (idle_member l.finished) l.m-index l.initial.m-items
