-- `Path::default` meets its contract: the points that follow its four are not read. Assumes nothing.
use Rattle.std.proofs.Common.{◌≡◌, ◌∙◌, true, [], ◌∷◌, ◌++◌, replicate, lit≤}
use Rattle.floatlaws.specs.Numbers.{f32_0, f32_½, f32_1}
use Rattle.path.specs.declared.PathPoint.{PathPoint}
use Rattle.path.specs.declared.Path.{Path}
use Rattle.path.specs.Paths.{new_path_point, blank_path_point, path_of, default_path}
use Rattle.path.proofs.First.{path_first}
use Rattle.path.proofs.Path.default.Goals as goal

together : (a b d e : PathPoint) (p : Path)
    → a ≡ new_path_point f32_½ f32_0
    → b ≡ new_path_point f32_1 f32_½
    → d ≡ new_path_point f32_½ f32_1
    → e ≡ new_path_point f32_0 f32_½
    → p ≡ path_of (a ∷ b ∷ d ∷ e ∷ []) 4 true
    → p ≡ default_path
unfolding default_path
together a b d e p ha hb hd he hp = rw (← ha, ← hb, ← hd, ← he) (hp ∙ path_first ((a ∷ b ∷ d ∷ e ∷ []) ++ replicate 60 blank_path_point) 4 true (lit≤ tt))

pub returns : goal.returns
returns c = (together _ _ _ _ _ c.new.ensures c.new-2.ensures c.new-3.ensures c.new-4.ensures c.new-5.ensures.0, c.new-5.ensures.1)
