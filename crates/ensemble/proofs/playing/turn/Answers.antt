-- `turn` meets its contract: the record that `played` gives back is stored in its place. Assumes nothing.
use Rattle.std.proofs.Common.{ℕ, suc, ◌<◌, List, ◌∷◌, ◌++◌, length, get_or, take, drop, ap, subst, ◌∙◌}
use Rattle.std.proofs.lemmas.List.{get_or_default}
use lib.Ieee.{Float}
use lib.ListN.{set}
use lib.Seq.{set_split}
use Rattle.ensemble.specs.declared.BlockPage.{BlockPage}
use Rattle.ensemble.specs.declared.Member.{Member}
use Rattle.ensemble.specs.Ensemble.{Plays, Turns, no_member}
use Rattle.ensemble.proofs.playing.turn.Goals as goal

turned : (p : BlockPage) (l : List Member) (v : ℕ) (d : Member) (x y : List Float) (m : Member) (x' y' : List Float) → v < length l → Plays p (get_or l v d) v x y m x' y' → Turns p v l x y (set l v m) x' y'
turned p l v d x y m x' y' h w =
    let w' = subst (λ (z : Member). Plays p z v x y m x' y') (get_or_default l v d no_member h) w in
    record {
      voices_are = set_split l v m h ∙ ap (λ (z : Member). take v l ++ (z ∷ drop (suc v) l)) w'.member_is;
      x_is = w'.x_is;
      y_is = w'.y_is;
    }

pub returns : goal.returns
returns c = turned _ _ _ _ _ _ _ _ _ c.requires.listed c.played.ensures
