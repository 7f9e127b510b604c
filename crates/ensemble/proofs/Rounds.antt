-- The list and the buffers of an ensemble after some turns, and what one more makes of them. Assumes nothing.
use mathlib.Core.Path.{◌≡◌, sym, ap, ◌∙◌, subst}
use Prim.Native.Nat.{ℕ, suc, ◌+◌, ◌*◌, ◌≤◌, ◌<◌}
use native.Mathlib.Numerals.{add-one}
use native.Mathlib.Omega.{arith}
use mathlib.Core.List.{List, [], ◌∷◌, ◌++◌, map, map-append}
use lib.ListN.{length, get_or, take, drop, length-map}
use lib.Seq.{length-take-le, take-suc}
use lib.Ieee.{Float, nan}
use Rattle.columns.specs.Columns.{strided}
use Rattle.columns.proofs.Interleave.{woven, woven_none, woven_more, woven_all, length_woven}
use Rattle.voice.specs.Frame.{Frame}
use Rattle.ensemble.specs.declared.BlockPage.{BlockPage}
use Rattle.ensemble.specs.declared.Member.{Member}
use Rattle.ensemble.specs.Ensemble.{member_after, member_outs, no_member, MemberIn, TurnReady, Turns, AllReady, PlaysAll}
use Rattle.ensemble.proofs.Mapped.{mapped, mapped_is, length_mapped, get_or_mapped, mapped_more}
use Rattle.ensemble.proofs.Alone.{length_member}

module _ (p : BlockPage) (voices : List Member) where
  -- after v turns
  abbrev pub list_after : ℕ → List Member
  list_after v = mapped (member_after p) v voices

  abbrev columns : (Frame → Float) → ℕ → List (List Float)
  columns f v = map (member_outs p f) (take v voices)

  abbrev pub woven_after : (Frame → Float) → List Float → ℕ → List Float
  woven_after f l v = woven nan p.voices p.frames (columns f v) l

  pub list_none : list_after 0 ≡ voices
  list_none = mapped_is (member_after p) 0 voices

  pub buffer_none : (f : Frame → Float) (l : List Float) → woven_after f l 0 ≡ l
  buffer_none f l = woven_none nan p.voices p.frames l

  pub length_list : (v : ℕ) → length (list_after v) ≡ length voices
  length_list v = length_mapped (member_after p) v voices

  length_columns : (f : Frame → Float) (v : ℕ) → v ≤ length voices → length (columns f v) ≡ v
  length_columns f v h = length-map (take v voices) (member_outs p f) ∙ length-take-le v voices h

  pub length_buffer : (f : Frame → Float) (l : List Float) (v : ℕ) → v ≤ p.voices → p.voices ≤ length voices → p.frames * p.voices ≤ length l → length (woven_after f l v) ≡ length l
  length_buffer f l v h listed room = length_woven nan p.voices p.frames (columns f v) l (omega (arith, length_columns f v (omega arith))) room

  -- one turn more
  list_more : (v : ℕ) (after : List Member) → v < length voices → after ≡ take v (list_after v) ++ (member_after p (get_or (list_after v) v no_member) ∷ drop (suc v) (list_after v)) → after ≡ list_after (v + 1)
  list_more v after h e =
      e ∙ ap (λ (m : Member). take v (list_after v) ++ (member_after p m ∷ drop (suc v) (list_after v))) (get_or_mapped (member_after p) v voices no_member)
      ∙ mapped_more (member_after p) v voices no_member h ∙ ap list_after (sym (add-one v))

  buffer_more : (f : Frame → Float) (l l' : List Float) (v : ℕ) → v < p.voices → p.voices ≤ length voices → p.frames * p.voices ≤ length l
      → l' ≡ strided p.voices v (member_outs p f (get_or (list_after v) v no_member)) (woven_after f l v) → l' ≡ woven_after f l (v + 1)
  buffer_more f l l' v h listed room e =
      let m = get_or voices v no_member in
      e ∙ ap (λ (z : Member). strided p.voices v (member_outs p f z) (woven_after f l v)) (get_or_mapped (member_after p) v voices no_member)
      ∙ ap (λ (k : ℕ). strided p.voices k (member_outs p f m) (woven_after f l v)) (sym (length_columns f v (omega arith)))
      ∙ woven_more nan p.voices p.frames (columns f v) (member_outs p f m) l (omega (arith, length_columns f v (omega arith))) (length_member p f m) room
      ∙ ap (λ (z : List (List Float)). woven nan p.voices p.frames z l)
      (sym (map-append (member_outs p f) (take v voices) (m ∷ [])) ∙ ap (λ (z : List Member). map (member_outs p f) z) (sym (take-suc voices v no_member (omega arith)) ∙ ap (λ (k : ℕ). take k voices) (sym (add-one v))))

  module _ (x y : List Float) (ready : AllReady p voices x y) where
    -- what the turn of voice v asks
    pub turn_ready : (v : ℕ) → v < p.voices → TurnReady p v (list_after v) (woven_after (λ f. f.x) x v) (woven_after (λ f. f.y) y v)
    turn_ready v h =
        record {
          listed = omega (arith, length_list v, ready.listed);
          ready = record {
            page_in = ready.page_in;
            member_in = subst (MemberIn p) (sym (get_or_mapped (member_after p) v voices no_member)) (ready.members_in v h);
            one = h;
            room_x = omega (arith, length_buffer (λ f. f.x) x v (omega arith) ready.listed ready.room_x, ready.room_x);
            room_y = omega (arith, length_buffer (λ f. f.y) y v (omega arith) ready.listed ready.room_y, ready.room_y);
          };
        }

    module _ (v : ℕ) (h : v < p.voices) (after : List Member) (x' y' : List Float) (e : Turns p v (list_after v) (woven_after (λ f. f.x) x v) (woven_after (λ f. f.y) y v) after x' y') where
      pub list_next : after ≡ list_after (v + 1)
      list_next = list_more v after (omega (arith, ready.listed)) e.voices_are

      pub x_next : x' ≡ woven_after (λ f. f.x) x (v + 1)
      x_next = buffer_more (λ f. f.x) x x' v h ready.listed ready.room_x e.x_is

      pub y_next : y' ≡ woven_after (λ f. f.y) y (v + 1)
      y_next = buffer_more (λ f. f.y) y y' v h ready.listed ready.room_y e.y_is

    -- all of them
    pub all_played : (v : ℕ) → v ≡ p.voices → PlaysAll p voices x y (list_after v) (woven_after (λ f. f.x) x v) (woven_after (λ f. f.y) y v)
    all_played v e =
        record {
          voices_are = ap list_after e ∙ mapped_is (member_after p) p.voices voices;
          x_is = ap (woven_after (λ f. f.x) x) e ∙ woven_all nan p.voices p.frames (columns (λ f. f.x) p.voices) x (length_columns (λ f. f.x) p.voices ready.listed) ready.room_x;
          y_is = ap (woven_after (λ f. f.y) y) e ∙ woven_all nan p.voices p.frames (columns (λ f. f.y) p.voices) y (length_columns (λ f. f.y) p.voices ready.listed) ready.room_y;
        }
