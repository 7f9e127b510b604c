-- What a trace's calls wrote is what the definitions of crate `restart` say of its list of calls. Assumes nothing.
use Prim.Native.Nat.{ℕ}
use mathlib.Core.Path.{◌≡◌, refl, sym, ap, ◌∙◌}
use mathlib.Core.Bool.{Bool, true, false, cond, false≢true}
use mathlib.Core.List.{List, [], ◌∷◌}
use lib.Dec.{eqb}
use lib.ListN.{take}
use lib.Ieee.{Float}
use Rattle.codes.specs.declared.TransportCodes.{TransportCodes}
use Rattle.codes.specs.declared.RestartCodes.{RestartCodes}
use Rattle.calls.specs.State.{State}
use Rattle.calls.specs.Blocks.{pending_of}
use Rattle.calls.specs.Calls.{Call, settings, shape, path, bus, phase, block, is_edit, by_block, accepts, step}
use Rattle.calls.proofs.Answers.{phase_keeps}
use Rattle.player.specs.declared.Player.{Player}
use Rattle.std.specs.Prelude.{Result}
use Rattle.questions.specs.declared.question.Question.{Question}
use Rattle.player.specs.declared.Played.{Played}
use Rattle.player.specs.Player.{state_of}
use Rattle.player.specs.Promises.{Plays}
use Rattle.restart.specs.Heard.{Side, x_side, y_side, frames_up_to, blocks_up_to, read, heard, window}
use Rattle.reached.specs.Traces.{Trace, none, sets, reads, plays}
use Rattle.players_rule.specs.Written.{buffer_of, written, transports}

-- what one block left in a buffer
pub read_is : (side : Side) (p : Player) (t : TransportCodes) (n : ℕ) (restart : RestartCodes) (x y : List Float) (r : Result Played Question) (x' y' : List Float)
    → Plays p t n restart x y r x' y' → take n (buffer_of side x' y') ≡ read side (state_of p) t n restart x y
unfolding read
read_is x_side p t n restart x y r x' y' m = ap (take n) m.x_is
read_is y_side p t n restart x y r x' y' m = ap (take n) m.y_is

-- ---- a call that sets something ends what is heard where it is accepted

set_ends : {A : Type 0} (c : Call) (later : List A) (f : TransportCodes → ℕ → RestartCodes → List Float → List Float → List A) → is_edit c ≡ true
    → by_block (cond (is_edit c) [] later) c f ≡ []
set_ends (settings c) later f e = refl
set_ends (shape c) later f e = refl
set_ends (path c) later f e = refl
set_ends (bus k z) later f e = refl
set_ends (phase t) later f e = absurd (false≢true e)
set_ends (block t n restart x y) later f e = absurd (false≢true e)

set_heard : (side : Side) (s : State) (c : Call) (cs : List Call) → is_edit c ≡ true → heard side s (c ∷ cs) ≡ cond (accepts s c) [] (heard side (step s c) cs)
unfolding heard
set_heard side s c cs e = ap (λ (l : List Float). cond (accepts s c) l (heard side (step s c) cs)) (set_ends c _ _ e)

set_window : (s : State) (c : Call) (cs : List Call) → is_edit c ≡ true → window s (c ∷ cs) ≡ cond (accepts s c) [] (window (step s c) cs)
unfolding window
set_window s c cs e = ap (λ (l : List TransportCodes). cond (accepts s c) l (window (step s c) cs)) (set_ends c _ _ e)

-- ---- up to the next restart or edit

-- of an answer a, a block's own frames z and the later ones h, each by an equation
frames_by : (restart : RestartCodes) (n : ℕ) {a a' : ℕ} {z z' h h' : List Float} → a ≡ a' → z ≡ z' → h ≡ h'
    → cond (eqb a 0) (frames_up_to (pending_of restart) n z h) h ≡ cond (eqb a' 0) (frames_up_to (pending_of restart) n z' h') h'
frames_by restart n e f g = rw (e, f, g) refl

blocks_by : (restart : RestartCodes) (t : TransportCodes) {a a' : ℕ} {h h' : List TransportCodes} → a ≡ a' → h ≡ h'
    → cond (eqb a 0) (blocks_up_to (pending_of restart) t h) h ≡ cond (eqb a' 0) (blocks_up_to (pending_of restart) t h') h'
blocks_by restart t e g = rw (e, g) refl

ends_by : {A : Type 0} {a a' : ℕ} {h h' : List A} → a ≡ a' → h ≡ h' → cond (eqb a 0) [] h ≡ cond (eqb a' 0) [] h'
ends_by e g = rw (e, g) refl

-- a phase read goes on, accepted or refused
same_either : {A : Type 0} {a : A} (t : Bool) → a ≡ cond t a a
same_either true = refl
same_either false = refl

pub written_heard : {p q : Player} {cs : List Call} (side : Side) (l : Trace p cs q) → written side l ≡ heard side (state_of p) cs
unfolding written heard
written_heard side (none p) = refl
written_heard side (sets p c cs q r e m l) =
    ends_by m.answer_is (written_heard side l ∙ ap (λ (s : State). heard side s cs) m.state_is) ∙ sym (set_heard side (state_of p) c cs e)
written_heard side (reads p t cs q r m l) =
    written_heard side l ∙ ap (λ (s : State). heard side s cs) (sym (phase_keeps (state_of p) t)) ∙ same_either (accepts (state_of p) (phase t))
written_heard side (plays p t n restart x y cs q r x' y' m l) =
    frames_by restart n m.answer_is (read_is side p t n restart x y r x' y' m) (written_heard side l ∙ ap (λ (s : State). heard side s cs) m.state_is)

pub transports_window : {p q : Player} {cs : List Call} (l : Trace p cs q) → transports l ≡ window (state_of p) cs
unfolding transports window
transports_window (none p) = refl
transports_window (sets p c cs q r e m l) =
    ends_by m.answer_is (transports_window l ∙ ap (λ (s : State). window s cs) m.state_is) ∙ sym (set_window (state_of p) c cs e)
transports_window (reads p t cs q r m l) =
    transports_window l ∙ ap (λ (s : State). window s cs) (sym (phase_keeps (state_of p) t)) ∙ same_either (accepts (state_of p) (phase t))
transports_window (plays p t n restart x y cs q r x' y' m l) =
    blocks_by restart t m.answer_is (transports_window l ∙ ap (λ (s : State). window s cs) m.state_is)
