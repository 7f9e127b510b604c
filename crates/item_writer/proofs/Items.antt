-- The record of an item, from its numbers to what is written. Assumes nothing.
--     shape_put, path_put, item_put          the numbers are those of the shape, the path and the item as they are kept
--     not_asked_for, is_written              what writing says
use Prim.Native.Nat.{ℕ, zero, suc, ◌+◌, ◌≤◌}
use mathlib.Core.Path.{◌≡◌, refl, sym, ap, ◌∙◌}
use mathlib.Core.Bool.{Bool, true, false, cond}
use mathlib.Core.List.{List, [], ◌∷◌, ◌++◌, map}
use native.Mathlib.Omega.{arith}
use borrow.Author.Tests.{ne_eqb}
use lib.Dec.{eqb, leb}
use lib.ListN.{length, take, drop}
use lib.Seq.{take_at}
use Rattle.listlaws.specs.Over.{over}
use Rattle.listlaws.proofs.Over.{over_front}
use Rattle.shape.specs.declared.Shape.{Shape}
use Rattle.path.specs.declared.Path.{Path}
use Rattle.codes.specs.declared.ShapeCodes.{ShapeCodes}
use Rattle.codes.specs.declared.PathCodes.{PathCodes}
use Rattle.curves.specs.Given.{given_shape, given_path}
use Rattle.std.specs.Prelude.{Option, Some, None, Result, Ok, Err, IsErrAnd, ok_or}
use Rattle.replies.specs.Replies.{bytes_of, WritesAll}
use Rattle.replies.proofs.Laws.{bytes_length}
use Rattle.fields.specs.Bytes.{number_bytes, f32_bytes, f64_bytes, row_bytes}
use Rattle.codes.specs.declared.ItemCodes.{ItemCodes}
use Rattle.questions.specs.Answers.{question_number}
use Rattle.questions.specs.declared.question.Question.{Question}
use Rattle.questions.proofs.Numbers.{number_not_zero}
use Rattle.record.specs.Kept.{codes_of_point, kept_shape, codes_of_path_point, kept_path, kept}
use Rattle.record.specs.Writing.{point_bytes, loopback_bytes, shape_bytes, path_point_bytes, path_bytes, scale_bytes, item_bytes}
use Rattle.record.specs.Questions.{item_answer}
use Rattle.record.specs.Promises.{Typed}
use Rattle.record.specs.Records.{given, read_record, write_record, write_answer, written_length, written_to}
use Rattle.record.proofs.KeptSettings.{settings_bytes_lem, loopback_bytes_lem}
use Rattle.record.proofs.Answers.{write_answer_lem}
use Rattle.record.proofs.RoundTrips.{gives_back}
use Rattle.item_writer.specs.declared.Refusal.{Refusal}
use Rattle.item_writer.specs.Numbers.{Adds, front_bytes}
use Rattle.item_writer.specs.Written.{WritesRecord}

-- the bytes of the first n elements as codes
row_front : {A B : Type 0} (w : B → List ℕ) (f : A → B) (n : ℕ) (l : List A) → row_bytes (λ a. w (f a)) (take n l) ≡ row_bytes w (take n (map f l))
unfolding row_bytes
row_front w f zero l = refl
row_front w f (suc n) [] = refl
row_front w f (suc n) (a ∷ l) = ap (λ (k : List ℕ). w (f a) ++ k) (row_front w f n l)

module _ {x y : List ℕ} {at r : ℕ} where
  pub shape_put : (c : ShapeCodes) {s : Shape} → s ≡ given_shape c
      → Adds x at (number_bytes s.len ++ row_bytes (λ p. point_bytes (codes_of_point p)) (take s.len s.points) ++ loopback_bytes c.loopback) 643 r y
      → Adds x at (shape_bytes (kept_shape c)) 643 r y
  unfolding shape_bytes kept_shape
  shape_put c e a = rw (loopback_bytes_lem c.loopback, ← row_front point_bytes codes_of_point (given_shape c).len (given_shape c).points) (rw e at a)

  pub path_put : (c : PathCodes) {p : Path} → p ≡ given_path c
      → Adds x at (number_bytes p.len ++ number_bytes c.closed ++ row_bytes (λ q. path_point_bytes (codes_of_path_point q)) (take p.len p.points)) 578 r y
      → Adds x at (path_bytes (kept_path c)) 578 r y
  unfolding path_bytes kept_path
  path_put c e a = rw (← row_front path_point_bytes codes_of_path_point (given_path c).len (given_path c).points) (rw e at a)

pub item_put : {x y : List ℕ} {r : ℕ} (i : ItemCodes)
    → Adds x 0 (front_bytes i ++ number_bytes i.seed ++ f64_bytes i.tempo ++ f64_bytes i.beats_per_bar ++ f32_bytes i.swing ++ scale_bytes i.scale) 1264 r y
    → (bytes_of (take r y) ≡ item_bytes (kept i)) × (r ≤ 1264)
unfolding bytes_of item_bytes kept
item_put i a = (rw (settings_bytes_lem i.settings) a.bytes, omega (arith, a.few))

-- a refusal by the questions
pub not_asked_for : (i : ItemCodes) → Typed i → (x : List ℕ) (q : Question) → question_number q ≡ item_answer i → (r : Result ℕ Refusal) → IsErrAnd r (λ e. e ≡ Refusal.Question q) → WritesRecord i x r x
unfolding written_length written_to
not_asked_for i typed x q asks (Ok len) h = absurd h
not_asked_for i typed x q asks (Err e) h =
    let no : eqb (item_answer i) 0 ≡ false = rw asks at (ne_eqb (question_number q) 0 (number_not_zero q)) in
    let w = write_answer_lem i (length x) in
    rw h
    (record { answer = rw (w, no) asks; len = rw (w, no, no); bytes = rw (w, no, no); short = omega arith; typed = typed; read_back = λ e. absurd (number_not_zero q e) })

module _ (i : ItemCodes) (typed : Typed i) (x l : List ℕ) (is : bytes_of l ≡ item_bytes (kept i)) (accepted : 0 ≡ item_answer i) (few : length l ≤ 1264) where
  abbrev b : List ℕ
  b = item_bytes (kept i)

  -- the record that stands in the front of the buffer is read
  is_read : read_record (take (length b) (over x 0 b)) ≡ given (kept i)
  unfolding write_record
  is_read = rw (over_front x b, take_at b (drop (length b) x) (length b) refl) (gives_back i typed b (rw (← accepted)))

  -- what is promised, by whether there is room
  promised : (t : Bool) → leb (length b) (length x) ≡ t
      → (write_answer i (length x) ≡ cond t 0 21) × (written_length i (length x) ≡ cond t (length b) 0) × (written_to i x ≡ cond t (over x 0 b) x)
  unfolding written_length written_to
  promised true e = let w = write_answer_lem i (length x) in (rw (w, ← accepted, e), rw (w, ← accepted, e), rw (w, ← accepted, e))
  promised false e = let w = write_answer_lem i (length x) in (rw (w, ← accepted, e), rw (w, ← accepted, e), rw (w, ← accepted, e))

  -- and what was done
  done : {o : Option ℕ} {y : List ℕ} → WritesAll x 0 l o y → (t : Bool) → leb (length b) (length x) ≡ t
      → (o ≡ cond t (Some (length b)) None) × (y ≡ cond t (over x 0 b) x)
  done g t e =
      let plain : 0 + length b ≡ length b = omega arith in
      (rw (is, plain, e) at g.answer, rw (is, plain, e) at g.bytes)

  pub is_written : {o : Option ℕ} {y : List ℕ} → WritesAll x 0 l o y → WritesRecord i x (ok_or o Refusal.NoRoom) y
  is_written {o} {y} g = by_room (leb (length b) (length x)) refl
    where
      by_room : (t : Bool) → leb (length b) (length x) ≡ t → WritesRecord i x (ok_or o Refusal.NoRoom) y
      by_room true e =
          let (answer, size, bytes) = promised true e in
          let (did, left) = done g true e in
          rw did
          (record {
            answer = sym answer;
            len = sym size;
            bytes = left ∙ sym bytes;
            short = omega (arith, ap length is, bytes_length l);
            typed = typed;
            read_back = λ _. rw left is_read;
          })
      by_room false e =
          let (answer, size, bytes) = promised false e in
          let (did, left) = done g false e in
          rw did
          (record {
            answer = sym answer;
            len = sym size;
            bytes = left ∙ sym bytes;
            short = omega arith;
            typed = typed;
            read_back = λ e. let z : ⊥ = omega arith in absurd z;
          })
