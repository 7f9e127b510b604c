-- Every player of a trace is the one that the definitions of crate `calls` say, and meets what the next call's contract requires where the first one does. Assumes nothing.
use mathlib.Core.Path.{◌≡◌, refl, sym, ap, ◌∙◌}
use mathlib.Core.List.{List}
use Rattle.calls.specs.State.{State}
use Rattle.calls.specs.Calls.{Call, made, after}
use Rattle.calls.proofs.Answers.{phase_keeps}
use Rattle.player.specs.declared.Player.{Player}
use Rattle.player.specs.Player.{state_of, Valid}
use Rattle.reached.specs.Traces.{Trace, none, sets, reads, plays, ValidAll, History}

-- the player that it leaves
pub trace_after : {p q : Player} {cs : List Call} → Trace p cs q → state_of q ≡ after (state_of p) cs
unfolding after
trace_after (none p) = refl
trace_after (sets p c cs q r e m l) = trace_after l ∙ ap (λ (s : State). after s cs) m.state_is
trace_after (reads p t cs q r m l) = trace_after l ∙ ap (λ (s : State). after s cs) (sym (phase_keeps (state_of p) t))
trace_after (plays p t n restart x y cs q r x' y' m l) = trace_after l ∙ ap (λ (s : State). after s cs) m.state_is

pub valid_all : {p q : Player} {cs : List Call} (l : Trace p cs q) → Valid p → ValidAll l
unfolding ValidAll
valid_all (none p) v = v
valid_all (sets p c cs q r e m l) v = (v, valid_all l m.valid)
valid_all (reads p t cs q r m l) v = (v, valid_all l v)
valid_all (plays p t n restart x y cs q r x' y' m l) v = (v, valid_all l m.valid)

pub valid_last : {p q : Player} {cs : List Call} (l : Trace p cs q) → ValidAll l → Valid q
unfolding ValidAll
valid_last (none p) v = v
valid_last (sets p c cs q r e m l) v = valid_last l v.1
valid_last (reads p t cs q r m l) v = valid_last l v.1
valid_last (plays p t n restart x y cs q r x' y' m l) v = valid_last l v.1

-- ---- of a history

pub history_state : {p : Player} (h : History p) → state_of p ≡ after (made h.codes h.seed) h.calls
history_state h = trace_after h.trace ∙ ap (λ (s : State). after s h.calls) h.makes.state_is

pub history_valid : {p : Player} (h : History p) → ValidAll h.trace
history_valid h = valid_all h.trace h.makes.valid
