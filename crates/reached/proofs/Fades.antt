-- A voice keeps its delay and fade up to a restart, and a voice never restarted has none: full fade. Assumes nothing.
use Rattle.std.specs.Prelude.{None, Option, Some}
use Prim.Native.Nat.{ℕ, zero, suc, zero-le, ◌-◌}
use mathlib.Core.Path.{◌≡◌, refl, sym, ◌∙◌, subst}
use mathlib.Core.Bool.{Bool, true, false, ◌&&◌, ◌||◌, cond, false≢true}
use mathlib.Core.List.{List, [], ◌∷◌}
use borrow.Author.Tests.{le-ltb, le-leb}
use lib.Ieee.{Float}
use Rattle.floatlaws.specs.Numbers.{f32_1}
use Rattle.settings.specs.declared.record.Settings.{Settings}
use Rattle.codes.specs.declared.SettingsCodes.{SettingsCodes}
use Rattle.settings.specs.Codes.{settings_at, transport_at}
use Rattle.clock.specs.declared.block.Block.{Block}
use Rattle.voice.specs.declared.Voice.{Voice}
use Rattle.voice.specs.declared.output.Output.{Output}
use Rattle.voice.specs.Curve.{Curve}
use Rattle.voice.specs.Frame.{frame_of}
use Rattle.voice.specs.Output.{gain_of, posted}
use Rattle.voice.specs.Voice.{new_voice, begun_voice}
use Rattle.bank.specs.Render.{voice_after}
use Rattle.bank.specs.Parts.{begun, parts_voice}
use Rattle.curves.specs.Given.{is_yes}
use Rattle.codes.specs.declared.RestartCodes.{RestartCodes}
use Rattle.calls.specs.State.{State, new_state, with_settings, with_shape, with_path, with_bus}
use Rattle.calls.specs.Blocks.{pending_of, played_state}
use Rattle.calls.specs.Calls.{Call, settings, shape, path, bus, phase, block, accepts, by_settings, by_transport, makes, no_player, made, accepted, step, after}
use Rattle.player.specs.declared.Player.{Player}
use Rattle.player.specs.Player.{state_of}
use Rattle.reached.specs.Traces.{History}
use Rattle.reached.specs.Players.{carries, restart_in, NeverRestarted}
use Rattle.reached.specs.Frames.{FullFade}
use Rattle.reached.proofs.Traces.{history_state}
use Rattle.reached.proofs.Frames.{voice_first}
use Rattle.settings.specs.declared.record.Transport.{Transport}

-- ---- delay and fade over a stretch

pub record SameSpans (o o' : Output) : Type 0 where
  pub same_delay : o.delay ≡ o'.delay
  pub same_fade : o.fade ≡ o'.fade

module _ (s : Settings) (q : Curve) (b : Block) where
  pub after_spans : (from n : ℕ) (v : Voice) → SameSpans (voice_after s.kind s.mode s.direction q b from n v).output v.output
  unfolding voice_after frame_of posted
  after_spans from zero v = record { same_delay = refl; same_fade = refl }
  after_spans from (suc n) v = record { same_delay = (after_spans from n v).same_delay; same_fade = (after_spans from n v).same_fade }

-- ---- none of either

pub record Full (v : Voice) : Type 0 where
  pub no_delay : v.output.delay ≡ 0
  pub no_fade : v.output.fade ≡ 0

full_weight : (t delay fade : ℕ) (inv : Float) → delay ≡ 0 → fade ≡ 0 → gain_of t delay fade inv ≡ f32_1
unfolding gain_of
full_weight t delay fade inv d f = rw (d, f, le-ltb t 0 zero-le, le-leb 0 (t - 0) zero-le)

full_begun : (s : Settings) (q : Curve) (b : Block) (frames n : ℕ) (v : Voice) → Full v → Full (voice_after s.kind s.mode s.direction q b 0 n (begun s q b frames v))
unfolding begun begun_voice
full_begun s q b frames n v f =
    let same = after_spans s q b 0 n (begun_voice s b 0 v) in
    record { no_delay = same.same_delay ∙ f.no_delay; no_fade = same.same_fade ∙ f.no_fade }

-- ---- of a player

-- as it is made
full_new : (seed : ℕ) (c : Option Settings) → Full (by_settings (no_player seed) c (λ s. new_state s seed)).voice
unfolding new_state new_voice
full_new seed (Some s) = record { no_delay = refl; no_fade = refl }
full_new seed None = record { no_delay = refl; no_fade = refl }

full_made : (c : SettingsCodes) (seed : ℕ) → Full (made c seed).voice
unfolding made
full_made c seed = go (makes c)
  where
    go : (b : Bool) → Full (cond b (by_settings (no_player seed) (settings_at c) (λ s. new_state s seed)) (no_player seed)).voice
    go true = full_new seed (settings_at c)
    go false = full_new seed None

-- as a call that restarts nothing leaves it
full_set : (p : State) (c : Option Settings) → Full p.voice → Full (by_settings p c (with_settings p)).voice
unfolding with_settings
full_set p (Some s) f = f
full_set p None f = f

full_played : (p : State) (c : Option Transport) (n : ℕ) → Full p.voice → Full (by_transport p c (λ t. played_state p t n None)).voice
unfolding played_state parts_voice
full_played p (Some t) n f = full_begun _ _ _ n n p.voice f
full_played p None n f = f

none_pending : (c : RestartCodes) → is_yes c.code ≡ false → pending_of c ≡ None
unfolding pending_of
none_pending c e = rw e

full_accepted : (p : State) (c : Call) → carries c ≡ false → Full p.voice → Full (accepted p c).voice
unfolding accepted with_shape with_path with_bus
full_accepted p (settings c) e f = full_set p (settings_at c) f
full_accepted p (shape c) e f = f
full_accepted p (path c) e f = f
full_accepted p (bus k z) e f = f
full_accepted p (phase t) e f = f
full_accepted p (block c n r x y) e f = rw (none_pending r e) (full_played p (transport_at c) n f)

full_step : (p : State) (c : Call) → (accepts p c && carries c) ≡ false → Full p.voice → Full (step p c).voice
unfolding step
full_step p c e f = go (accepts p c) e
  where
    go : (b : Bool) → (b && carries c) ≡ false → Full (cond b (accepted p c) p).voice
    go true e = full_accepted p c e f
    go false e = f

-- of a test that fails, each half does
neither : (a b : Bool) → (a || b) ≡ false → (a ≡ false) × (b ≡ false)
neither true b e = absurd (false≢true (sym e))
neither false b e = (refl, e)

full_after : (p : State) (cs : List Call) → restart_in p cs ≡ false → Full p.voice → Full (after p cs).voice
unfolding after restart_in
full_after p [] e f = f
full_after p (c ∷ cs) e f =
    let n = neither (accepts p c && carries c) (restart_in (step p c) cs) e in
    full_after (step p c) cs n.1 (full_step p c n.0 f)

abbrev FullState : State → Type 0
FullState p = Full p.voice

full_reached : {p : Player} (h : History p) → NeverRestarted h → FullState (state_of p)
full_reached h u =
    subst FullState (sym (history_state h)) (full_after (made h.codes h.seed) h.calls u (full_made h.codes h.seed))

-- ---- the law

pub full_fade : FullFade
full_fade p t frames at h u k l =
    let f = full_begun _ _ _ frames k p.deck.voice (full_reached h u) in
    rw (voice_first (state_of p) t frames at k l) (full_weight _ _ _ _ f.no_delay f.no_fade)
