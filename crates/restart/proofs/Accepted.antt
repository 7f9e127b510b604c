-- The transport of an accepted block: the one that its codes stand for, in range. Assumes nothing.
use Rattle.std.specs.Prelude.{Some}
use Prim.Native.Nat.{ℕ, zero, suc}
use mathlib.Core.Path.{◌≡◌, refl, sym, ap, ◌∙◌}
use mathlib.Core.Bool.{Bool}
use mathlib.Core.List.{List}
use native.Mathlib.Omega.{arith}
use lib.Ieee.{Float}
use lib.ListN.{length}
use Rattle.floatlaws.proofs.Tests.{yes_so}
use Rattle.settings.specs.declared.times.Scale.{Scale}
use Rattle.settings.specs.declared.record.Transport.{Transport}
use Rattle.codes.specs.declared.TransportCodes.{TransportCodes}
use Rattle.settings.specs.Choices.{yes_no_at}
use Rattle.settings.specs.Times.{scale_at}
use Rattle.settings.specs.Codes.{transport_at}
use Rattle.settings.proofs.Read.{TransportRead, transport_read, transport_of}
use Rattle.reach.specs.Bounds.{TransportIn}
use Rattle.codes.specs.declared.RestartCodes.{RestartCodes}
use Rattle.questions.proofs.Facts.{transport_is_in, block_accepted}
use Rattle.curves.specs.Given.{is_yes}
use Rattle.calls.specs.State.{State}
use Rattle.calls.specs.Calls.{block, questions, answer}
use Rattle.restart.specs.Rule.{transport_fields}
use Rattle.restart.proofs.Constants.{pace_of}

-- equal codes stand for one pace
known_scale : (s r : Scale) → Some s ≡ Some r → s ≡ r
known_scale s r e = cc

pub same_pace : (c d : TransportCodes) (t u : Transport) → TransportRead c t → TransportRead d u → transport_fields c ≡ transport_fields d → pace_of t ≡ pace_of u
same_pace c d t u r q e = go rate tempo bar swing scale
  where
    rate : t.sample_rate ≡ u.sample_rate
    rate = r.rate ∙ ap (λ z. z.sample_rate) e ∙ sym q.rate

    tempo : t.tempo ≡ u.tempo
    tempo = r.tempo ∙ ap (λ z. z.tempo) e ∙ sym q.tempo

    bar : t.beats_per_bar ≡ u.beats_per_bar
    bar = r.bar ∙ ap (λ z. z.beats_per_bar) e ∙ sym q.bar

    swing : t.swing ≡ u.swing
    swing = r.swing ∙ ap (λ z. z.swing) e ∙ sym q.swing

    scale : t.scale ≡ u.scale
    scale = known_scale t.scale u.scale (sym r.scale ∙ ap (λ z. scale_at z.scale) e ∙ q.scale)

    go : t.sample_rate ≡ u.sample_rate → t.tempo ≡ u.tempo → t.beats_per_bar ≡ u.beats_per_bar → t.swing ≡ u.swing → t.scale ≡ u.scale → pace_of t ≡ pace_of u
    go a b c d e = rw (a, b, c, d, e) refl

-- a transport plays where its code is 1
pub plays_by : (n : ℕ) (b : Bool) → yes_no_at n ≡ Some b → b ≡ is_yes n
plays_by zero b e = cc
plays_by (suc zero) b e = cc
plays_by (suc (suc n)) b e = let z : ◌≡◌ {A = ℕ} 0 1 = cc in absurd (omega arith)

-- ---- an accepted block

-- codes of a transport that the questions let pass
pub record Passes (c : TransportCodes) : Type 0 where
  pub t : Transport
  pub is : transport_at c ≡ Some t
  pub reading : TransportRead c t
  pub within : TransportIn t

pub accepted_block : (p : State) (c : TransportCodes) (frames : ℕ) (restart : RestartCodes) (x y : List Float) → answer p (block c frames restart x y) ≡ 0 → Passes c
unfolding answer questions
accepted_block p c frames restart x y e =
    let a = (block_accepted p.played c frames restart (length x) (length y) e).transport in
    let r = transport_of c (yes_so a.known) in
    record { t = r.0; is = r.1; reading = transport_read c r.0 r.1; within = transport_is_in c a r.0 r.1 }
