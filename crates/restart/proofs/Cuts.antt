-- What is heard of a list of calls is frames of one voice, however they are cut: refused calls, phase reads and blocks of no frames add nothing. Assumes nothing.
use Rattle.std.specs.Prelude.{None, Option, Some}
use Prim.Native.Nat.{ℕ, ◌+◌, min}
use mathlib.Core.Path.{◌≡◌, refl, sym, ap, ap₂, ◌∙◌, subst}
use mathlib.Core.Bool.{Bool, true, false, ◌&&◌, cond}
use mathlib.Core.List.{List, [], ◌∷◌, ◌++◌}
use lib.ListN.{take}
use lib.Ieee.{Float, eq}
use borrow.Author.Tests.{eqb-true}
use Rattle.settings.specs.declared.record.Settings.{Settings}
use Rattle.settings.specs.declared.record.Transport.{Transport}
use Rattle.codes.specs.declared.TransportCodes.{TransportCodes}
use Rattle.clock.specs.declared.block.Block.{Block}
use Rattle.clock.specs.declared.free.Clock.{Clock}
use Rattle.clock.specs.Free.{new_clock}
use Rattle.clock.specs.Ready.{prepared_of}
use Rattle.voice.specs.declared.Voice.{Voice}
use Rattle.voice.specs.Curve.{Curve}
use Rattle.codes.specs.declared.RestartCodes.{RestartCodes}
use Rattle.calls.specs.State.{State}
use Rattle.calls.specs.Blocks.{pending_of, played_state, values}
use Rattle.calls.specs.Calls.{Call, settings, shape, path, bus, phase, block, answer, accepts, step}
use Rattle.calls.proofs.Answers.{refused_player, phase_keeps}
use Rattle.restart.specs.Heard.{Side, read, frames_up_to, blocks_up_to, heard, window}
use Rattle.restart.specs.Rule.{Restarts, TransportFields, transport_fields, Gets, Every, more}
use Rattle.restart.proofs.Constants.{Constants, constants_of, same_constants, not_locked}
use Rattle.restart.proofs.Frames.{Running}
use Rattle.restart.proofs.Stream.{later, plays, running_later, plays_add}
use Rattle.restart.proofs.Parts.{none_outs, none_voice, before_outs}
use Rattle.restart.proofs.Accepted.{same_pace, plays_by, Passes, accepted_block}
use Rattle.restart.proofs.Settled.{Settled}
use Rattle.restart.proofs.Ready.{inc_number}
use Rattle.restart.proofs.Steps.{value_of, block_runs, read_values, Has, values_parts, played_voice, has_played}

pub head : {Q : TransportCodes → Type 0} {c : TransportCodes} {l : List TransportCodes} → Every Q (c ∷ l) → Q c
head (more q e) = q

pub tail : {Q : TransportCodes → Type 0} {c : TransportCodes} {l : List TransportCodes} → Every Q (c ∷ l) → Every Q l
tail (more q e) = e

pub block_taken : (p : State) (c : TransportCodes) (n : ℕ) (r : RestartCodes) (x y : List Float) → accepts p (block c n r x y) ≡ true → Passes c
block_taken p c n r x y e = accepted_block p c n r x y (eqb-true (answer p (block c n r x y)) 0 e)

-- ---- the blocks that get one and the same fields of the transport, song lock not in force

-- settings that restart, and a transport with these fields
pub record Standing (s : Settings) (fields : TransportFields) : Type 0 where
  pub mode : Restarts s.mode
  pub settled : Settled s
  pub codes : TransportCodes
  pub passes : Passes codes
  pub same : transport_fields codes ≡ fields

module _ (s : Settings) (fields : TransportFields) (S : Standing s fields) where
  -- the block that stands for all of them
  abbrev pub standing : Block
  standing = (prepared_of s new_clock S.passes.t 0).block

  module _ (k : Clock) (c : TransportCodes) (P : Passes c) (g : Gets s fields c) (n : ℕ) where
    pub constants_stand : constants_of (prepared_of s k P.t n).block ≡ constants_of standing
    constants_stand = same_constants s k new_clock P.t S.passes.t n 0 (same_pace c S.codes P.t S.passes.t P.reading S.passes.reading (g.same ∙ sym S.same))

    pub unlocked : (prepared_of s k P.t n).block.song_lock ≡ None
    unlocked = not_locked s k P.t n (ap (λ (z : Bool). s.song_lock && z) (plays_by c.playing P.t.playing P.reading.playing) ∙ g.unlocked)

-- ---- from a voice that goes on

module _ (s : Settings) (q : Curve) (fields : TransportFields) (S : Standing s fields) where
  abbrev b₀ : Block
  b₀ = standing s fields S

  abbrev pub ahead : ℕ → Voice → Voice
  ahead = later s.kind s.mode s.direction q b₀

  abbrev pub sounds : Side → ℕ → Voice → List Float
  sounds side = plays s.kind s.mode s.direction q b₀ (value_of side)

  pub record Steady (p : State) : Type 0 where
    pub has : Has s q p
    pub running : Running s.kind b₀.inc p.voice

  -- frames of the player's voice as it goes on
  abbrev pub GoesOn : Side → State → List Float → Type 0
  GoesOn side p l = (N : ℕ) × (l ≡ sounds side N p.voice)

  -- what is to be shown of the calls that are left
  abbrev pub Later : Side → List Call → Type 0
  Later side cs = (p : State) → Steady p → Every (Gets s fields) (window p cs) → GoesOn side p (heard side p cs)

  -- a call that leaves the player adds nothing
  left_case : (side : Side) (p z : State) (cs : List Call) → z ≡ p → Steady p → Every (Gets s fields) (window z cs) → Later side cs → GoesOn side p (heard side z cs)
  left_case side p z cs e d ev ih = subst (λ (w : State). Every (Gets s fields) (window w cs) → GoesOn side p (heard side w cs)) (sym e) (ih p d) ev

  -- an accepted edit is the end
  edit_case : (side : Side) (p : State) (c : Call) (cs : List Call) → Steady p → Every (Gets s fields) (cond (accepts p c) [] (window (step p c) cs)) → Later side cs
      → GoesOn side p (cond (accepts p c) [] (heard side (step p c) cs))
  unfolding plays
  edit_case side p c cs d ev ih = go (accepts p c) (refused_player p c) ev
    where
      go : (t : Bool) → (t ≡ false → step p c ≡ p) → Every (Gets s fields) (cond t [] (window (step p c) cs)) → GoesOn side p (cond t [] (heard side (step p c) cs))
      go true k ev = (0, refl)
      go false k ev = left_case side p (step p c) cs (k refl) d ev ih

  -- a phase read adds nothing, accepted or refused
  read_case : (side : Side) (p z : State) (cs : List Call) (t : Bool) → z ≡ p → Steady p → Every (Gets s fields) (cond t (window z cs) (window z cs)) → Later side cs
      → GoesOn side p (cond t (heard side z cs) (heard side z cs))
  read_case side p z cs true e d ev ih = left_case side p z cs e d ev ih
  read_case side p z cs false e d ev ih = left_case side p z cs e d ev ih

  module _ (side : Side) (p : State) (d : Steady p) (c : TransportCodes) (n : ℕ) (P : Passes c) (g : Gets s fields c) where
    abbrev t : Transport
    t = P.t

    abbrev b : Block
    b = (prepared_of s p.lfo.clock t n).block

    abbrev like : constants_of b ≡ constants_of b₀
    like = constants_stand s fields S p.lfo.clock c P g n

    abbrev free : b.song_lock ≡ None
    free = unlocked s fields S p.lfo.clock c P g n

    -- the voice counts by the block's increment
    by_block : eq b₀.inc b.inc ≡ true
    by_block = rw (ap (λ (z : Constants). z.inc) like) (inc_number s S.settled new_clock S.passes.t S.passes.within 0)

    voice_ahead : (played_state p t n None).voice ≡ ahead n p.voice
    voice_ahead = played_voice s q p d.has t n None ∙ none_voice s q b₀ b n p.voice S.mode free like b₀.inc by_block d.running

    steady_ahead : Steady (played_state p t n None)
    steady_ahead =
        record {
          has = has_played s q p d.has t n None;
          running = rw voice_ahead (running_later s.kind s.mode s.direction q b₀ b₀.inc n p.voice d.running);
        }

    values_ahead : values p t n None (value_of side) ≡ sounds side n p.voice
    values_ahead = values_parts s q p d.has t n None (value_of side) ∙ none_outs s q b₀ b n p.voice S.mode free like b₀.inc by_block d.running (value_of side)

    -- a block with no restart, and then what follows
    none_plays : (l : List Float) → GoesOn side (played_state p t n None) l → GoesOn side p (values p t n None (value_of side) ++ l)
    none_plays l r = (
      n + r.0,
      ap₂ (λ (a z : List Float). a ++ z) values_ahead (r.1 ∙ ap (λ (v : Voice). sounds side r.0 v) voice_ahead)
          ∙ sym (plays_add s.kind s.mode s.direction q b₀ (value_of side) n r.0 p.voice),
    )

    -- the frames before a restart
    at_plays : (k : ℕ) → GoesOn side p (take (min k n) (values p t n (Some k) (value_of side)))
    at_plays k = (
      min k n,
      ap (λ (l : List Float). take (min k n) l) (values_parts s q p d.has t n (Some k) (value_of side))
          ∙ before_outs s q b₀ b n p.voice S.mode free like b₀.inc by_block d.running k (value_of side),
    )

  module _ (side : Side) (p : State) (d : Steady p) (c : TransportCodes) (n : ℕ) (r : RestartCodes) (x y : List Float) (cs : List Call) where
    -- a block that is accepted, with the player after it and its frames as its voice gives them
    taken : (at : Option ℕ) (P : Passes c) → Every (Gets s fields) (blocks_up_to at c (window (played_state p P.t n at) cs)) → Later side cs
        → GoesOn side p (frames_up_to at n (values p P.t n at (value_of side)) (heard side (played_state p P.t n at) cs))
    taken None P ev ih =
        none_plays side p d c n P (head ev) (heard side (played_state p P.t n None) cs) (ih (played_state p P.t n None) (steady_ahead side p d c n P (head ev)) (tail ev))
    taken (Some k) P ev ih = at_plays side p d c n P (head ev) k

    block_case : (t : Bool) (z : State) → accepts p (block c n r x y) ≡ t → z ≡ step p (block c n r x y)
        → Every (Gets s fields) (cond t (blocks_up_to (pending_of r) c (window z cs)) (window z cs)) → Later side cs
        → GoesOn side p (cond t (frames_up_to (pending_of r) n (read side p c n r x y) (heard side z cs)) (heard side z cs))
    block_case true z a e ev ih =
        let B = block_taken p c n r x y a in
        let e' : z ≡ played_state p B.t n (pending_of r) = e ∙ block_runs p c n r x y B.t B.is a in
        subst (λ (w : State). Every (Gets s fields) (blocks_up_to (pending_of r) c (window w cs)) → GoesOn side p (frames_up_to (pending_of r) n (read side p c n r x y) (heard side w cs))) (sym e')
        (λ ev'. subst (λ (l : List Float). GoesOn side p (frames_up_to (pending_of r) n l (heard side (played_state p B.t n (pending_of r)) cs))) (sym (read_values p c n r x y B.t B.is a side)) (taken (pending_of r) B ev' ih))
        ev
    block_case false z a e ev ih = left_case side p z cs (e ∙ refused_player p (block c n r x y) a) d ev ih

  pub heard_plays : (side : Side) (cs : List Call) → Later side cs
  unfolding heard window plays
  heard_plays side [] p d ev = (0, refl)
  heard_plays side (settings c ∷ cs) p d ev = edit_case side p (settings c) cs d ev (heard_plays side cs)
  heard_plays side (shape c ∷ cs) p d ev = edit_case side p (shape c) cs d ev (heard_plays side cs)
  heard_plays side (path c ∷ cs) p d ev = edit_case side p (path c) cs d ev (heard_plays side cs)
  heard_plays side (bus k z ∷ cs) p d ev = edit_case side p (bus k z) cs d ev (heard_plays side cs)
  heard_plays side (phase c ∷ cs) p d ev = read_case side p (step p (phase c)) cs (accepts p (phase c)) (phase_keeps p c) d ev (heard_plays side cs)
  heard_plays side (block c n r x y ∷ cs) p d ev =
      block_case side p d c n r x y cs (accepts p (block c n r x y)) (step p (block c n r x y)) refl refl ev (heard_plays side cs)
