-- The answer to a call is 0 where each question is answered yes, and else the number of the first no; a refused call leaves the player. Assumes nothing.
use Prim.Native.Nat.{ℕ, ◌<◌}
use mathlib.Core.Path.{◌≡◌, refl, ap, ◌∙◌}
use mathlib.Core.Bool.{Bool, true, false, cond}
use mathlib.Core.List.{List, [], ◌∷◌, ◌++◌}
use native.Mathlib.Omega.{arith}
use lib.Dec.{lit<}
use Rattle.questions.specs.Questions.{Posed, first_no, settings_questions, shape_questions, path_questions, bus_questions, phase_questions, block_questions}
use Rattle.calls.specs.State.{State}
use Rattle.calls.specs.Calls.{Call, settings, shape, path, bus, phase, block, questions, answer, accepts, accepted, step}
use Rattle.calls.specs.Laws.{AllYes, FirstNo, AnswerLaw, RefusedPlayer, PhaseKeeps}

-- ---- of any questions

-- no question has the number 0
abbrev Numbered : List Posed → Type 0
Numbered [] = Unit
Numbered (q ∷ qs) = (0 < q.0) × Numbered qs

yes_zero : (qs : List Posed) → AllYes qs → first_no qs ≡ 0
unfolding first_no
yes_zero [] y = refl
yes_zero (q ∷ qs) y = rw y.0 (yes_zero qs y.1)

zero_yes : (qs : List Posed) → Numbered qs → first_no qs ≡ 0 → AllYes qs
unfolding first_no
zero_yes [] n e = tt
zero_yes ((k, true) ∷ qs) n e = (refl, zero_yes qs n.1 e)
zero_yes ((k, false) ∷ qs) n e = let z : ⊥ = omega (arith, n.0, e) in absurd z

first_number : (n : ℕ) (before rest : List Posed) → AllYes before → first_no (before ++ ((n, false) ∷ rest)) ≡ n
unfolding first_no
first_number n [] rest y = refl
first_number n (q ∷ before) rest y = rw y.0 (first_number n before rest y.1)

-- ---- of a call

numbered : (p : State) (c : Call) → Numbered (questions p c)
unfolding questions settings_questions shape_questions path_questions bus_questions phase_questions block_questions
numbered p (settings c) = (lit< tt, (lit< tt, (lit< tt, tt)))
numbered p (shape c) = (lit< tt, (lit< tt, (lit< tt, (lit< tt, tt))))
numbered p (path c) = (lit< tt, (lit< tt, (lit< tt, tt)))
numbered p (bus k value) = (lit< tt, (lit< tt, tt))
numbered p (phase t) = (lit< tt, (lit< tt, (lit< tt, tt)))
numbered p (block t frames restart x y) = (lit< tt, (lit< tt, (lit< tt, (lit< tt, (lit< tt, tt)))))

pub answers : AnswerLaw
unfolding answer
answers p c =
    record {
      success = yes_zero (questions p c);
      only = zero_yes (questions p c) (numbered p c);
      refusal = λ (n : ℕ) (f : FirstNo n (questions p c)). ap first_no f.here ∙ first_number n f.before f.rest f.yes;
    }

-- ---- a call that leaves the player

pub refused_player : RefusedPlayer
unfolding step
refused_player p c e = rw e refl

pub phase_keeps : PhaseKeeps
unfolding step accepted
phase_keeps p c = same (accepts p (phase c))
  where
    same : (t : Bool) → cond t p p ≡ p
    same true = refl
    same false = refl
