-- The restart that an accepted block of a sitting takes. Assumes nothing.
use Prim.Native.Nat.{ℕ}
use mathlib.Core.Path.{◌≡◌, refl, sym, ap, ◌∙◌}
use mathlib.Core.List.{List, [], ◌∷◌, ◌++◌, append_assoc}
use Rattle.codes.specs.declared.RestartCodes.{RestartCodes}
use Rattle.codes.specs.declared.TransportCodes.{TransportCodes}
use Rattle.calls.specs.Calls.{bus, made, answer}
use Rattle.calls.proofs.Played.{after_append}
use Rattle.record.specs.Items.{transport_of}
use Rattle.item_calls.specs.Calls.{item_calls}
use Rattle.sittings.specs.declared.Event.{Event}
use Rattle.sittings.specs.declared.Event.TheVariants.{Block, Restart, Bus, End}
use Rattle.sittings.specs.Courses.{silence, no_restart, restart_at, moved_on, play_call}
use Rattle.sittings.specs.OneByOne.{event_calls, flat}
use Rattle.printed_rule.specs.Rule.{transport_past, waiting_past, TakenRestart}

-- a block's call behind those of the events before it
block_call_lem : (a b : List Event) (n : ℕ) (t : TransportCodes) (waiting : RestartCodes)
    → flat (event_calls t waiting (a ++ (Block n ∷ b)))
    ≡ flat (event_calls t waiting a) ++ (play_call (transport_past t a) (waiting_past waiting a) n ∷ flat (event_calls (moved_on (transport_past t a) n) no_restart b))
unfolding event_calls flat transport_past waiting_past
block_call_lem [] b n t waiting = refl
block_call_lem (Block frames ∷ a) b n t waiting = ap (λ l. play_call t waiting frames ∷ l) (block_call_lem a b n (moved_on t frames) no_restart)
block_call_lem (Restart frame ∷ a) b n t waiting = block_call_lem a b n t (restart_at frame)
block_call_lem (Bus k value ∷ a) b n t waiting = ap (λ l. bus k value ∷ l) (block_call_lem a b n t waiting)
block_call_lem (End ∷ a) b n t waiting = block_call_lem a b n t waiting

pub taken_restart : TakenRestart
taken_restart s i next before rest n h =
    let first = flat (event_calls (transport_of i) no_restart before) in
    let t = transport_past (transport_of i) before in
    let w = waiting_past no_restart before in
    let state_is = after_append (made i.settings i.seed) (item_calls i) first in (
      record {
        item = i;
        next = next;
        is_read = h.is_read;
        restart =
            record {
              before = item_calls i ++ first;
              transport = t;
              frames = n;
              restart = w;
              x = silence;
              y = silence;
              rest = flat (event_calls (moved_on t n) no_restart rest);
              accepted = ap (λ p. answer p (play_call t w n)) state_is ∙ h.accepted;
              carried = h.waits;
            };
        calls_are =
            append_assoc (item_calls i) first _
            ∙ ap (λ l. item_calls i ++ l) (sym (block_call_lem before rest n (transport_of i) no_restart) ∙ ap (λ es. flat (event_calls (transport_of i) no_restart es)) (sym h.events_are));
      },
      record { state_is = state_is; transport_is = refl; frames_are = refl; restart_is = refl },
    )
