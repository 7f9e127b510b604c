-- The restart rule of what is printed: `RestartRule` of crate `restart`, of the lines of two sheets. It is proved in proofs/PrintedRule.antt. Assumes nothing.
use Rattle.std.specs.Prelude.{ℕ, ◌+◌, ◌<◌, ◌≡◌, List, [], ◌∷◌, ◌++◌, length, get_or, drop, Float}
use Rattle.std.specs.Float.{nan}
use Rattle.codes.specs.declared.ItemCodes.{ItemCodes}
use Rattle.codes.specs.declared.RestartCodes.{RestartCodes}
use Rattle.codes.specs.declared.TransportCodes.{TransportCodes}
use Rattle.calls.specs.State.{State}
use Rattle.calls.specs.Calls.{made, answer, after}
use Rattle.restart.specs.Heard.{Side}
use Rattle.restart.specs.Rule.{RestartFrom, calls_of, state_at, frame_at, frames_from, at_restart, TransportFields, Hypotheses}
use Rattle.fields.specs.Parser.{read}
use Rattle.record.specs.Items.{transport_of}
use Rattle.record.specs.Records.{accepted_item}
use Rattle.item_calls.specs.Calls.{item_calls, item_state}
use Rattle.sittings.specs.declared.Event.{Event}
use Rattle.sittings.specs.declared.Event.TheVariants.{Block, Restart, Bus, End}
use Rattle.sittings.specs.Courses.{no_restart, restart_at, moved_on, play_call}
use Rattle.sittings.specs.OneByOne.{script, event_calls, flat, sitting_calls, printed}
use Rattle.sittings.specs.Frames.{frames_of}

-- A restart in a sitting whose item is accepted: one in the list of its calls, the item's and then those of its events, from the player that is made.
pub record SittingRestart (s : List ℕ) : Type 0 where
  pub item : ItemCodes
  pub next : ℕ
  pub is_read : accepted_item s 0 ≡ read item next
  pub restart : RestartFrom (made item.settings item.seed)
  pub calls_are : calls_of restart ≡ item_calls item ++ flat (sitting_calls item (drop next s))

-- the transport that the next block gets after some events, and the restart that waits for it
unfoldable pub transport_past : TransportCodes → List Event → TransportCodes
transport_past t [] = t
transport_past t (Block frames ∷ es) = transport_past (moved_on t frames) es
transport_past t (Restart frame ∷ es) = transport_past t es
transport_past t (Bus k value ∷ es) = transport_past t es
transport_past t (End ∷ es) = transport_past t es

unfoldable pub waiting_past : RestartCodes → List Event → RestartCodes
waiting_past waiting [] = waiting
waiting_past waiting (Block frames ∷ es) = waiting_past no_restart es
waiting_past waiting (Restart frame ∷ es) = waiting_past (restart_at frame) es
waiting_past waiting (Bus k value ∷ es) = waiting_past waiting es
waiting_past waiting (End ∷ es) = waiting_past waiting es

-- A sitting with the events `before`, then a block of n frames that is accepted, and for which a restart waits.
module _ (s : List ℕ) (i : ItemCodes) (next : ℕ) (before rest : List Event) (n : ℕ) where
  abbrev pub state_played : State
  state_played = after (item_state i) (flat (event_calls (transport_of i) no_restart before))

  abbrev pub transport_there : TransportCodes
  transport_there = transport_past (transport_of i) before

  abbrev pub waiting_there : RestartCodes
  waiting_there = waiting_past no_restart before

  pub record Taken : Type 0 where
    pub is_read : accepted_item s 0 ≡ read i next
    pub events_are : (script (drop next s)).events ≡ before ++ (Block n ∷ rest)
    pub accepted : answer state_played (play_call transport_there waiting_there n) ≡ 0
    pub waits : waiting_there.code ≡ 1

  -- the restart that this block takes, and no other
  pub record TakenBy (a : SittingRestart s) : Type 0 where
    pub state_is : state_at a.restart ≡ state_played
    pub transport_is : a.restart.transport ≡ transport_there
    pub frames_are : a.restart.frames ≡ n
    pub restart_is : a.restart.restart ≡ waiting_there

-- every restart that an accepted block of a sitting takes is a `SittingRestart`
abbrev pub TakenRestart : Type 0
TakenRestart =
    (s : List ℕ) (i : ItemCodes) (next : ℕ) (before rest : List Event) (n : ℕ) → Taken s i next before rest n → (a : SittingRestart s) × TakenBy s i next before rest n a

module _ {s : List ℕ} (a : SittingRestart s) where
  -- "Frames are counted through from 0": the index of the first line at or after the restart
  abbrev pub restart_line : ℕ
  restart_line = (state_at a.restart).played + frame_at a.restart

  -- the x or the y of the n-th line from the restart
  abbrev pub value_from : Side → ℕ → Float
  value_from side n = get_or (printed side a.item (drop a.next s)) (restart_line + n) nan

  -- there is such a line, and it is played "before the next restart or edit"
  pub record PrintsLine (side : Side) (n : ℕ) : Type 0 where
    pub there : restart_line + n < frames_of s
    pub in_time : n < length (frames_from a.restart side)

-- two sittings restarted alike, under the hypotheses of `RestartRule`, print the same x and y, line by line from the restart
abbrev pub PrintedRule : Type 0
PrintedRule =
    (s₁ s₂ : List ℕ) (a₁ : SittingRestart s₁) (a₂ : SittingRestart s₂) (fields : TransportFields) → Hypotheses (at_restart a₁.restart) (at_restart a₂.restart) fields
    → (side : Side) (n : ℕ) → PrintsLine a₁ side n → PrintsLine a₂ side n → value_from a₁ side n ≡ value_from a₂ side n
