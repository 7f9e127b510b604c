-- How far an anchor has counted: to begin a stretch and to restart never counts on. Assumes nothing.
use Rattle.std.specs.Prelude.{Option, None, Some}
use mathlib.Core.Bool.{Bool, true, false, cond}
use Prim.Native.Nat.{ℕ, ◌≤◌, zero-le}
use native.Mathlib.Nat.{le_refl}
use lib.Ieee.{eq}
use Rattle.clock.specs.declared.anchor.Anchor.{Anchor}
use Rattle.clock.specs.declared.anchor.Anchor.TheVariants.{Samples, Beats, Seconds}
use Rattle.clock.specs.declared.block.Block.{Block}
use Rattle.clock.specs.declared.block.SongLock.{SongLock}
use Rattle.clock.specs.Anchor.{sample_count, started_by, started_of, is_grounded, locked_beats, locked_seconds, from_here, begun_by, begun_of}
use Rattle.settings.specs.declared.choices.Mode.{Mode}
use Rattle.settings.specs.declared.choices.Mode.TheVariants.{Free, Restart, OneShot}
use Rattle.settings.specs.declared.record.Settings.{Settings}
use Rattle.voice.specs.declared.Voice.{Voice}
use Rattle.voice.specs.Voice.{begun_anchor, begun_voice, restarted_anchor, triggered_voice}

either : (t : Bool) (x y : Anchor) (n : ℕ) → sample_count x ≤ n → sample_count y ≤ n → sample_count (cond t x y) ≤ n
either true x y n h k = h
either false x y n h k = k

module _ (b : Block) where
  begun_by_lem : (l : Option SongLock) (a : Anchor) (from : ℕ) → sample_count (begun_by l a b from) ≤ sample_count a
  begun_by_lem None (Samples c0 n inc) from = either (eq inc b.inc) (Samples c0 n inc) (from_here (Samples c0 n inc) b from) n (le_refl n) zero-le
  begun_by_lem None (Beats c0 b0 p) from = zero-le
  begun_by_lem None (Seconds c0 s0 p) from = zero-le
  begun_by_lem (Some (SongLock.Beats rate)) (Samples c0 n inc) from = zero-le
  begun_by_lem (Some (SongLock.Beats rate)) (Beats c0 b0 p) from = either (is_grounded b0 p rate c0 b.phase) (Beats c0 b0 p) (locked_beats b.phase rate) 0 zero-le zero-le
  begun_by_lem (Some (SongLock.Beats rate)) (Seconds c0 s0 p) from = zero-le
  begun_by_lem (Some (SongLock.Seconds rate)) (Samples c0 n inc) from = zero-le
  begun_by_lem (Some (SongLock.Seconds rate)) (Beats c0 b0 p) from = zero-le
  begun_by_lem (Some (SongLock.Seconds rate)) (Seconds c0 s0 p) from = either (is_grounded s0 p rate c0 b.phase) (Seconds c0 s0 p) (locked_seconds b.phase rate) 0 zero-le zero-le

  begun_anchor_lem : (m : Mode) (a : Anchor) (from : ℕ) → sample_count (begun_anchor m a b from) ≤ sample_count a
  unfolding begun_anchor begun_of
  begun_anchor_lem Free a from = le_refl (sample_count a)
  begun_anchor_lem Restart a from = begun_by_lem b.song_lock a from
  begun_anchor_lem OneShot a from = begun_by_lem b.song_lock a from

  started_by_lem : (l : Option SongLock) (n : ℕ) → sample_count (started_by l b) ≤ n
  started_by_lem None n = zero-le
  started_by_lem (Some (SongLock.Beats rate)) n = zero-le
  started_by_lem (Some (SongLock.Seconds rate)) n = zero-le

  restarted_anchor_lem : (m : Mode) (a : Anchor) → sample_count (restarted_anchor m a b) ≤ sample_count a
  unfolding restarted_anchor started_of
  restarted_anchor_lem Free a = le_refl (sample_count a)
  restarted_anchor_lem Restart a = started_by_lem b.song_lock (sample_count a)
  restarted_anchor_lem OneShot a = started_by_lem b.song_lock (sample_count a)

  module _ (s : Settings) (v : Voice) where
    pub begun_count : (from : ℕ) → sample_count (begun_voice s b from v).anchor ≤ sample_count v.anchor
    unfolding begun_voice
    begun_count from = begun_anchor_lem s.mode v.anchor from

    pub triggered_count : sample_count (triggered_voice s b v).anchor ≤ sample_count v.anchor
    unfolding triggered_voice
    triggered_count = restarted_anchor_lem s.mode v.anchor
