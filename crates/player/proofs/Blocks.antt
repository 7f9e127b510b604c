-- What playing a block asks of what it calls, and what it gives of their equations. Assumes nothing.
use Rattle.std.specs.Prelude.{None, Option, Some, Ok, Err}
use Prim.Native.Nat.{ℕ, ◌+◌, ◌^◌, ◌≤◌, ◌<◌}
use mathlib.Core.Path.{◌≡◌, refl, sym, ap, ◌∙◌}
use mathlib.Core.Bool.{Bool, true, false, false≢true}
use mathlib.Core.List.{List}
use lib.ListN.{length}
use lib.Ieee.{Float}
use Rattle.settings.specs.declared.record.Settings.{Settings}
use Rattle.settings.specs.declared.record.Transport.{Transport}
use Rattle.codes.specs.declared.TransportCodes.{TransportCodes}
use Rattle.settings.specs.Codes.{transport_at}
use Rattle.position.specs.Rest.{finished_of}
use Rattle.clock.specs.declared.ready.Prepared.{Prepared}
use Rattle.clock.specs.Ready.{prepared_of}
use Rattle.reach.specs.Bounds.{TransportIn}
use Rattle.voice.specs.Curve.{Curve, curve_by}
use Rattle.bank.specs.declared.stretch.Rendered.{Rendered}
use Rattle.bank.specs.Render.{Stretch}
use Rattle.bank.specs.Parts.{PlaysParts}
use Rattle.slot.specs.Moved.{LoopbackIn, points_of, loop_of}
use Rattle.slot.specs.Slot.{Lfo, slot_curve}
use Rattle.slot.proofs.Blocks as blocks
use Rattle.codes.specs.declared.RestartCodes.{RestartCodes}
use Rattle.questions.specs.declared.question.Question.{Question}
use Rattle.questions.specs.Answers.{question_number}
use Rattle.questions.specs.Questions.{first_no, block_questions}
use Rattle.questions.proofs.Facts.{BlockAccepted, block_accepted, transport_is_in, transport_given}
use Rattle.questions.proofs.Numbers.{number_not_zero}
use Rattle.calls.specs.Blocks.{pending_of, played_state, values, finished}
use Rattle.calls.specs.Calls.{Call, block, questions, answer, accepts, accepted, played, buffer}
use Rattle.calls.proofs.Answers.{refused_player}
use Rattle.calls.proofs.Blocks.{refused_buffer}
use Rattle.player.specs.declared.Deck.{Deck}
use Rattle.player.specs.declared.Player.{Player}
use Rattle.player.specs.Player.{state_of, with_deck, Valid}
use Rattle.player.specs.Promises.{finished_by, Plays}
use Rattle.player.proofs.Answers.{accepts_it, refuses_it, step_accepted}

-- what `loop_point` asks
pub loopback_small : (p : Player) → Valid p → LoopbackIn p.page.shape.loopback 64
loopback_small p v = blocks.loopback_more p.page.shape.loopback _ _ v.lfo_in.shape_in.short v.lfo_in.shape_in.loopback_is_in

module _ (p : Player) (v : Valid p) (c : TransportCodes) (frames : ℕ) (restart : RestartCodes) (x y : List Float) where
  abbrev call : Call
  call = block c frames restart x y

  abbrev number : ℕ
  number = first_no (block_questions p.deck.played c frames restart (length x) (length y))

  number_is : number ≡ answer (state_of p) call
  unfolding answer questions
  number_is = refl

  -- the deck stays, and so do the buffers
  module _ (q : Question) (asked : question_number q ≡ number) where
    no : accepts (state_of p) call ≡ false
    no = refuses_it (state_of p) call _ (asked ∙ number_is) (number_not_zero q)

    says_none : false ≡ finished_by (state_of p) c frames restart x y
    unfolding finished_by
    says_none = rw no

    pub block_refused : Plays p c frames restart x y (Err q) x y
    block_refused =
        record {
          answer_is = asked ∙ number_is;
          state_is = sym (refused_player (state_of p) call no);
          kept = λ h. refl;
          finished_is = says_none;
          x_is = sym (refused_buffer (state_of p) c frames restart x y _ x no);
          y_is = sym (refused_buffer (state_of p) c frames restart x y _ y no);
          valid = v;
        }

  module _ (asked : 0 ≡ number) where
    put : 0 ≡ answer (state_of p) call
    put = asked ∙ number_is

    yes : accepts (state_of p) call ≡ true
    yes = accepts_it (state_of p) call _ put refl

    facts : BlockAccepted p.deck.played c frames restart (length x) (length y)
    facts = block_accepted p.deck.played c frames restart (length x) (length y) (sym asked)

    -- each code is known
    pub block_known : transport_at c ≡ None → ⊥
    block_known = transport_given c facts.transport

    -- what the sum of the frames asks
    pub within_life : p.deck.played + frames ≤ 2 ^ 40
    within_life = facts.within_life

    -- ---- a block that is played

    module _ (t : Transport) (known : transport_at c ≡ Some t) where
      abbrev lfo : Lfo
      lfo = (state_of p).lfo

      abbrev s : Settings
      s = lfo.settings

      abbrev q : Curve
      q = slot_curve s.kind lfo

      abbrev ready : Prepared
      ready = prepared_of s lfo.clock t frames

      transport_within : TransportIn t
      transport_within = transport_is_in c facts.transport t known

      -- what `prepare` asks
      pub count_small : p.deck.clock.n + frames < 2 ^ 64
      count_small = blocks.count_small lfo t p.deck.played frames v.lfo_in transport_within facts.short within_life

      module _ (n : ℕ) (from : Option Float) (points_are : n ≡ points_of s.kind p.page.shape.len p.page.path.len)
          (from_is : from ≡ loop_of s.kind p.page.shape.loopback p.page.lists.xs) where
        -- the curve that the code lends
        abbrev pub lent : Curve
        lent = let l = p.page.lists in curve_by l.xs l.ys l.es l.steps n p.page.path.times p.page.path.closed from

        lent_is : lent ≡ q
        lent_is = rw (points_are, from_is) (blocks.curve_is s.kind lfo.shape lfo.path lfo.buses p.page.lists v.lists_in)

        module _ (k : Prepared) (made : k ≡ ready) where
          -- what `render_parts` asks
          pub block_stretch : Stretch s lent k.block p.deck.voice p.deck.kept 0 frames x y
          block_stretch =
              rw (lent_is, made)
              (blocks.slot_stretch lfo t p.deck.played frames v.lfo_in transport_within facts.short within_life p.deck.voice v.anchor_in p.deck.kept x y
              v.kept_for facts.room_x facts.room_y)

          module _ (at : Option ℕ) (pending : at ≡ pending_of restart) (r : Rendered) (done : Bool) (x' y' : List Float)
              (plays : PlaysParts s lent k.block p.deck.voice at frames x y r x' y') (ends : done ≡ finished_of s.kind s.mode s.direction from r.count) where
            parts : PlaysParts s q ready.block p.deck.voice at frames x y r x' y'
            parts = rw (lent_is, made) at plays

            abbrev next : Deck
            next = record { clock = k.clock; voice = r.voice; kept = r.kept; played = p.deck.played + frames }

            state_after : state_of (with_deck p next) ≡ played_state (state_of p) t frames at
            unfolding played_state
            state_after = rw (made, parts.voice_is)

            valid_after : Valid (with_deck p next)
            valid_after =
                record {
                  within = within_life;
                  lfo_in = rw made (blocks.clocked_in lfo t p.deck.played frames v.lfo_in transport_within facts.short within_life);
                  anchor_in =
                      rw parts.voice_is
                      (blocks.voice_in lfo t p.deck.played frames v.lfo_in transport_within facts.short within_life p.deck.voice v.anchor_in at);
                  lists_in = v.lists_in;
                  kept_for = parts.kept_is;
                }

            done_is : done ≡ finished (state_of p) t frames at
            unfolding finished
            done_is = ends ∙ rw (ap (λ (z : Curve). z.from) lent_is, parts.count_is)

            pub block_played : Plays p c frames restart x y (Ok (record { finished = done; deck = next })) x' y'
            block_played =
                record {
                  answer_is = put;
                  state_is = rw (step_accepted (state_of p) call _ put refl) (unfold accepted in rw (known, ← pending) state_after);
                  kept = λ (h : accepts (state_of p) call ≡ false). absurd (false≢true (sym h ∙ yes));
                  finished_is = unfold finished_by in rw (yes, known, ← pending) done_is;
                  x_is = unfold buffer played values in rw (yes, known, ← pending) parts.x_is;
                  y_is = unfold buffer played values in rw (yes, known, ← pending) parts.y_is;
                  valid = valid_after;
                }
