-- The frames played are those of the accepted blocks; calls one after the other. Assumes nothing.
use Rattle.std.specs.Prelude.{None, Option, Some}
use Prim.Native.Nat.{ℕ, ◌+◌}
use mathlib.Core.Path.{◌≡◌, refl, sym, ap, ◌∙◌}
use mathlib.Core.Bool.{Bool, true, false, cond}
use mathlib.Core.List.{List, [], ◌∷◌, ◌++◌}
use native.Mathlib.Nat.{add-zero, zero-add, add_assoc}
use lib.ListN.{length}
use Rattle.codes.specs.declared.SettingsCodes.{SettingsCodes}
use Rattle.settings.specs.Codes.{settings_at}
use Rattle.questions.specs.Questions.{first_no, block_questions}
use Rattle.calls.specs.State.{State, new_state, with_settings, with_shape, with_path, with_bus}
use Rattle.calls.specs.Blocks.{played_state}
use Rattle.calls.specs.Calls.{Call, settings, shape, path, bus, phase, block, questions, answer, accepts, by_settings, no_player, makes, made, accepted, step, after}
use Rattle.calls.specs.Laws.{frames_of, frames_in, CallCounts, ListCounts}
use Rattle.calls.proofs.Blocks.{block_transport}
use Rattle.settings.specs.declared.record.Settings.{Settings}

-- ---- one call

-- a call that plays nothing, accepted or refused
none_played : (p q : State) (b : Bool) → q.played ≡ p.played → (cond b q p).played ≡ p.played + 0
none_played p q true e = e ∙ sym (add-zero p.played)
none_played p q false e = sym (add-zero p.played)

settings_played : (p : State) (z : Option Settings) → (by_settings p z (with_settings p)).played ≡ p.played
unfolding with_settings
settings_played p (Some s) = refl
settings_played p None = refl

block_played : (p q : State) (b : Bool) (frames : ℕ) → (b ≡ true → q.played ≡ p.played + frames) → (cond b q p).played ≡ p.played + cond b frames 0
block_played p q true frames e = e refl
block_played p q false frames e = sym (add-zero p.played)

pub call_counts : CallCounts
unfolding step accepted with_shape with_path with_bus played_state
call_counts p (settings c) = none_played p _ (accepts p (settings c)) (settings_played p (settings_at c))
call_counts p (shape c) = none_played p _ (accepts p (shape c)) refl
call_counts p (path c) = none_played p _ (accepts p (path c)) refl
call_counts p (bus k value) = none_played p _ (accepts p (bus k value)) refl
call_counts p (phase t) = none_played p p (accepts p (phase t)) refl
call_counts p (block c frames restart x y) =
    block_played p _ (accepts p (block c frames restart x y)) frames
    (λ (e : accepts p (block c frames restart x y) ≡ true). rw (block_transport p c frames restart x y e).1 refl)

-- ---- a list of calls

pub after_append : (p : State) (a b : List Call) → after p (a ++ b) ≡ after (after p a) b
unfolding after
after_append p [] b = refl
after_append p (c ∷ a) b = after_append (step p c) a b

after_played : (p : State) (calls : List Call) → (after p calls).played ≡ p.played + frames_in p calls
unfolding after frames_in
after_played p [] = sym (add-zero p.played)
after_played p (c ∷ cs) =
    after_played (step p c) cs ∙ ap (λ (n : ℕ). n + frames_in (step p c) cs) (call_counts p c) ∙ add_assoc p.played (frames_of p c) (frames_in (step p c) cs)

-- a player just made has played none
made_played : (codes : SettingsCodes) (seed : ℕ) → (made codes seed).played ≡ 0
unfolding made new_state
made_played codes seed = by (makes codes) (settings_at codes)
  where
    by : (b : Bool) (z : Option Settings) → (cond b (by_settings (no_player seed) z (λ s. new_state s seed)) (no_player seed)).played ≡ 0
    by true (Some s) = refl
    by true None = refl
    by false z = refl

made_counts : (codes : SettingsCodes) (seed : ℕ) (calls : List Call) → (after (made codes seed) calls).played ≡ frames_in (made codes seed) calls
made_counts codes seed calls =
    let n = frames_in (made codes seed) calls in
    after_played (made codes seed) calls ∙ ap (λ (k : ℕ). k + n) (made_played codes seed) ∙ zero-add n

pub list_counts : ListCounts
unfolding answer questions
list_counts codes seed calls =
    let n = made_counts codes seed calls in
    record { played_is = n; asked = λ c frames restart x y. ap (λ (k : ℕ). first_no (block_questions k c frames restart (length x) (length y))) n }
