-- The restart rule holds. Assumes nothing. The proof, with the file of each step:
-- 1. Invariant (Reach): every player that calls reach is `Good`, its settings settled and its curves told by the kept points (Settled, Kept). So `Equal` players have one curve.
-- 2. What a restart and the frames after it read of a block is made of the settings and the five fields of the transport (Constants). So one block, `standing`, stands for all (Cuts).
-- 3. A restarted voice counts samples, `Running` (Frames): a frame of it reads neither the block's place nor its own in it, and beginning a block leaves it as it is.
-- 4. Induction on frames (Stream): a stretch of any of the blocks is so many frames by the standing one, `plays`, however they are cut (`plays_add`). Parts has a whole block so.
-- 5. Induction on the calls behind the restart's block (Cuts, `heard_plays`), and that block itself (From): the frames from a restart are `plays` of the voice that it leaves.
-- 6. Relation (Alike): two voices are `Alike` where they have the same of all that later frames read. A frame of alike voices has equal values and leaves them alike; by induction
--    on frames so have all (Stream, `alike_x`, `alike_y`).
-- 7. Two restarts leave alike voices, whatever the voices were (Restarted); in Sample and Hold, where the first frame draws, from equal random words (Draws).
-- So the frames from two restarts are equal one by one (`same_frames`), of any `Good` players; and by 1 of players just made and calls on them (`restart_rule`).
use Prim.Native.Nat.{ℕ, ◌<◌}
use mathlib.Core.Path.{◌≡◌, refl, sym, ap, ◌∙◌, subst}
use mathlib.Core.List.{List, ◌∷◌, ◌++◌}
use native.Mathlib.Omega.{arith}
use lib.ListN.{length, get_or}
use lib.Ieee.{Float, nan}
use Rattle.settings.specs.declared.choices.LfoType.TheVariants.{SampleAndHold}
use Rattle.settings.specs.declared.record.Settings.{Settings}
use Rattle.codes.specs.declared.TransportCodes.{TransportCodes}
use Rattle.clock.specs.declared.block.Block.{Block}
use Rattle.clock.specs.Free.{new_clock}
use Rattle.clock.specs.Ready.{prepared_of}
use Rattle.voice.specs.declared.Voice.{Voice}
use Rattle.voice.specs.Curve.{Curve}
use Rattle.voice.specs.Voice.{triggered_voice}
use Rattle.bank.specs.Parts.{reaching, restarted}
use Rattle.slot.specs.Slot.{slot_curve}
use Rattle.codes.specs.declared.RestartCodes.{RestartCodes}
use Rattle.calls.specs.State.{State}
use Rattle.calls.specs.Calls.{Call, block, answer, after}
use Rattle.restart.specs.Heard.{Side, x_side, y_side}
use Rattle.restart.specs.Rule.{RestartFrom, calls_of, state_at, frame_at, frames_from, throughout, at_restart, TransportFields, transport_fields, Gets, Every, Hypotheses, new_player, RestartRule}
use Rattle.restart.proofs.Alike.{Alike}
use Rattle.restart.proofs.Stream.{tone, length_plays, plays_at, alike_x, alike_y}
use Rattle.restart.proofs.Parts.{reaching_made}
use Rattle.restart.proofs.Restarted.{triggered_alike}
use Rattle.restart.proofs.Accepted.{Passes, accepted_block}
use Rattle.restart.proofs.Ready.{starts, swing_fits}
use Rattle.restart.proofs.Steps.{value_of, Has}
use Rattle.restart.proofs.Reach.{Good, good_made, good_after, same_curve}
use Rattle.restart.proofs.Cuts.{head, Standing, standing, ahead}
use Rattle.restart.proofs.From.{like, free, from_plays, start_is, word_is}

module _ {p₁ p₂ : State} (r₁ : RestartFrom p₁) (r₂ : RestartFrom p₂) (fields : TransportFields)
    (g₁ : Good (state_at r₁)) (g₂ : Good (state_at r₂)) (hyp : Hypotheses (at_restart r₁) (at_restart r₂) fields) where
  abbrev P₁ : State
  P₁ = state_at r₁

  abbrev P₂ : State
  P₂ = state_at r₂

  -- the settings and the curve of both are those of the first
  abbrev s : Settings
  s = P₁.lfo.settings

  abbrev q : Curve
  q = slot_curve s.kind P₁.lfo

  has₁ : Has s q P₁
  has₁ = record { settings = refl; curve = refl }

  has₂ : Has s q P₂
  has₂ = record { settings = sym hyp.equal.settings; curve = sym (same_curve s.kind P₁ P₂ g₁ g₂ hyp.equal) }

  gets₂ : Every (Gets s fields) (throughout r₂)
  gets₂ = subst (λ (z : Settings). Every (Gets z fields) (throughout r₂)) (sym hyp.equal.settings) hyp.gets₂

  e₀ : transport_fields r₁.transport ≡ fields
  unfolding throughout
  e₀ = (head hyp.gets₁).same

  module _ (B₁ : Passes r₁.transport) (B₂ : Passes r₂.transport) where
    S : Standing s fields
    S = record { mode = hyp.mode; settled = g₁.settled; codes = r₁.transport; passes = B₁; same = e₀ }

    -- the block that stands for all blocks with these fields
    abbrev b₀ : Block
    b₀ = standing s fields S

    -- the blocks of the restarts
    abbrev b₁ : Block
    b₁ = (prepared_of s P₁.lfo.clock B₁.t r₁.frames).block

    abbrev b₂ : Block
    b₂ = (prepared_of s P₂.lfo.clock B₂.t r₂.frames).block

    -- the voices as they reach the restarts, and as the restarts leave them
    abbrev u₁ : Voice
    u₁ = reaching s q b₁ r₁.frames P₁.voice (frame_at r₁)

    abbrev u₂ : Voice
    u₂ = reaching s q b₂ r₂.frames P₂.voice (frame_at r₂)

    abbrev v₁ : Voice
    v₁ = restarted s q b₁ r₁.frames P₁.voice (frame_at r₁)

    abbrev v₂ : Voice
    v₂ = restarted s q b₂ r₂.frames P₂.voice (frame_at r₂)

    same_word : s.kind ≡ SampleAndHold → u₁.source.rng ≡ u₂.source.rng
    same_word e =
        sym (word_is s q fields S r₁ B₁ has₁ hyp.gets₁)
        ∙ hyp.words e
        ∙ word_is s q fields S r₂ B₂ has₂ gets₂

    voices_alike : Alike s.kind v₁ v₂
    voices_alike =
        subst (λ (z : Voice). Alike s.kind z v₂) (sym (start_is s q fields S r₁ B₁ has₁ hyp.gets₁))
        (subst (λ (z : Voice). Alike s.kind (triggered_voice s b₁ u₁) z) (sym (start_is s q fields S r₂ B₂ has₂ gets₂))
        (triggered_alike s b₁ b₂ hyp.mode (free s q fields S r₁ B₁ has₁ hyp.gets₁) (free s q fields S r₂ B₂ has₂ gets₂)
        (like s q fields S r₁ B₁ has₁ hyp.gets₁ ∙ sym (like s q fields S r₂ B₂ has₂ gets₂))
        (starts s g₁.settled P₂.lfo.clock B₂.t B₂.within r₂.frames) u₁ u₂
        (reaching_made s q b₁ r₁.frames P₁.voice (frame_at r₁) ∙ sym (reaching_made s q b₂ r₂.frames P₂.voice (frame_at r₂))) same_word))

    same_value : (side : Side) (n : ℕ) → value_of side (tone s.kind s.mode s.direction q b₀ (ahead s q fields S n v₁))
        ≡ value_of side (tone s.kind s.mode s.direction q b₀ (ahead s q fields S n v₂))
    same_value x_side n = alike_x s.kind s.mode s.direction q b₀ hyp.mode (swing_fits s S.settled new_clock S.passes.t S.passes.within 0) n v₁ v₂ voices_alike
    same_value y_side n = alike_y s.kind s.mode s.direction q b₀ hyp.mode (swing_fits s S.settled new_clock S.passes.t S.passes.within 0) n v₁ v₂ voices_alike

    same_by : (side : Side) (n : ℕ) → n < length (frames_from r₁ side) → n < length (frames_from r₂ side) → get_or (frames_from r₁ side) n nan ≡ get_or (frames_from r₂ side) n nan
    same_by side n h₁ h₂ =
        let z₁ = from_plays s q fields S r₁ B₁ has₁ hyp.gets₁ side in
        let z₂ = from_plays s q fields S r₂ B₂ has₂ gets₂ side in
        let l₁ : length (frames_from r₁ side) ≡ z₁.0 = ap length z₁.1 ∙ length_plays s.kind s.mode s.direction q b₀ (value_of side) z₁.0 v₁ in
        let l₂ : length (frames_from r₂ side) ≡ z₂.0 = ap length z₂.1 ∙ length_plays s.kind s.mode s.direction q b₀ (value_of side) z₂.0 v₂ in
        ap (λ (l : List Float). get_or l n nan) z₁.1
        ∙ plays_at s.kind s.mode s.direction q b₀ (value_of side) z₁.0 n v₁ (omega arith)
        ∙ same_value side n
        ∙ sym (ap (λ (l : List Float). get_or l n nan) z₂.1 ∙ plays_at s.kind s.mode s.direction q b₀ (value_of side) z₂.0 n v₂ (omega arith))

  pub same_frames : (side : Side) (n : ℕ) → n < length (frames_from r₁ side) → n < length (frames_from r₂ side) → get_or (frames_from r₁ side) n nan ≡ get_or (frames_from r₂ side) n nan
  same_frames =
      same_by (accepted_block P₁ r₁.transport r₁.frames r₁.restart r₁.x r₁.y r₁.accepted)
      (accepted_block P₂ r₂.transport r₂.frames r₂.restart r₂.x r₂.y r₂.accepted)

pub restart_rule : RestartRule
restart_rule p₁ p₂ r₁ r₂ fields =
    same_frames r₁ r₂ fields (good_after (new_player p₁) r₁.before (good_made p₁.codes p₁.seed p₁.accepted))
    (good_after (new_player p₂) r₂.before (good_made p₂.codes p₂.seed p₂.accepted))

-- every list of calls with a restart in it is the list of such a record
pub every_restart : (from : State) (calls before rest : List Call) (c : TransportCodes) (n : ℕ) (restart : RestartCodes) (x y : List Float)
    → calls ≡ before ++ (block c n restart x y ∷ rest) → answer (after from before) (block c n restart x y) ≡ 0 → restart.code ≡ 1 → (r : RestartFrom from) × (calls ≡ calls_of r)
every_restart from calls before rest c n restart x y here e k =
    (record { before = before; transport = c; frames = n; restart = restart; x = x; y = y; rest = rest; accepted = e; carried = k }, here)
