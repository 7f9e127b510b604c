-- An item's bytes may come in pieces; it has at most 12,640 of them, ten for each number. Assumes nothing.
use Prim.Native.Nat.{ℕ, ◌+◌, ◌*◌, ◌≤◌, ◌<◌, ◌^◌}
use mathlib.Core.Path.{◌≡◌, refl}
use mathlib.Core.Bool.{Bool, true, false, ◌&&◌, cond, false≢true}
use mathlib.Core.List.{List, [], ◌∷◌}
use native.Mathlib.Omega.{arith}
use native.Mathlib.Nat.{mul-le-mul_right}
use borrow.Author.Tests.{ltb-true}
use lib.Dec.{eqb, ltb}
use lib.Ieee.{Float}
use Rattle.number.specs.Read as Read
use Rattle.number.specs.Read.{leading, read_from, read_at}
use Rattle.questions.specs.Questions.{Posed, first_no}
use Rattle.fields.specs.Parser.{Parser, read, fault, cut_short, after, ◌then◌, row}
use Rattle.fields.specs.Fields.{below}
use Rattle.streams.specs.Streams.{Streams}
use Rattle.streams.proofs.Parsers.{number_streams, below_streams, f32_streams, f64_streams, done_streams, fault_streams, wider, then_streams, counted_streams, that_streams, when_streams, row_streams, Ahead, below_ahead, begins}
use Rattle.codes.specs.declared.ItemCodes.{ItemCodes}
use Rattle.record.specs.Reading.{rate, span, smooth, settings, modulation, point, path_point, loopback, scale, last_x, shape, path, item}
use Rattle.record.specs.Questions.{item_questions, item_answer}
use Rattle.record.specs.Records.{accepted_item}

-- a field of one number, and what follows it
infixr 15 ◌and_then◌
◌and_then◌ : {A B : Type 0} {p : Parser A} {f : A → Parser B} {j k : ℕ} → Streams p j → ((a : A) → Streams (f a) k) → Streams (p then f) (j + k)
◌and_then◌ {f = f} = then_streams f

rate_streams : Streams rate 50
unfolding rate
rate_streams =
    below_streams 2 and_then λ code.
    when_streams (below_streams 15) (eqb code 0) 0 and_then λ division.
    when_streams (below_streams 3) (eqb code 0) 0 and_then λ feel.
    when_streams f32_streams (eqb code 1) _ and_then λ hz.
    when_streams (below_streams 2) (eqb code 1) 0 and_then λ x10. done_streams _

span_streams : Streams span 30
unfolding span
span_streams =
    below_streams 3 and_then λ code.
    when_streams (below_streams 15) (eqb code 1) 0 and_then λ division. when_streams f32_streams (eqb code 2) _ and_then λ seconds. done_streams _

smooth_streams : Streams smooth 20
unfolding smooth
smooth_streams = below_streams 2 and_then λ code. when_streams f32_streams (eqb code 1) _ and_then λ coefficient. done_streams _

settings_stream : Streams settings 210 × Ahead settings
unfolding settings
settings_stream =
    begins (below_streams 5) (below_ahead 5) λ kind.
    below_streams 3 and_then λ mode.
    below_streams 3 and_then λ direction.
    rate_streams and_then λ rate.
    below_streams 2 and_then λ lock.
    below_streams 2 and_then λ swing.
    span_streams and_then λ fade.
    span_streams and_then λ delay.
    smooth_streams and_then λ smooth.
    f32_streams and_then λ phase. below_streams 2 and_then λ snap. below_streams (2 ^ 16) and_then λ grid. done_streams _

modulation_streams : Streams modulation 30
unfolding modulation
modulation_streams =
    below_streams 2 and_then λ code.
    when_streams (below_streams (2 ^ 8)) (eqb code 1) 0 and_then λ bus. when_streams (that_streams f32_streams _) (eqb code 1) _ and_then λ depth. done_streams _

point_streams : (before : Float) → Streams (point before) 100
unfolding point
point_streams before =
    that_streams f32_streams _ and_then λ x.
    that_streams f32_streams _ and_then λ y.
    that_streams f32_streams _ and_then λ curve.
    below_streams 2 and_then λ step. modulation_streams and_then λ x_mod. modulation_streams and_then λ y_mod. done_streams _

path_point_streams : Streams path_point 90
unfolding path_point
path_point_streams =
    that_streams f32_streams _ and_then λ x.
    that_streams f32_streams _ and_then λ y.
    that_streams f32_streams _ and_then λ bend. modulation_streams and_then λ x_mod. modulation_streams and_then λ y_mod. done_streams _

loopback_streams : Streams loopback 20
unfolding loopback
loopback_streams = below_streams 2 and_then λ code. when_streams number_streams (eqb code 1) 0 and_then λ index. done_streams _

scale_streams : Streams scale 20
unfolding scale
scale_streams = below_streams 2 and_then λ code. f32_streams and_then λ percent. done_streams _

-- a row of at most 64
few : {A : Type 0} (p : List A → Parser A) (k : ℕ) → ((l : List A) → Streams (p l) k) → (n : ℕ) → n ≤ 64 → Streams (row p n) (64 * k)
few p k h n small = wider (row_streams p k h n) (64 * k) (mul-le-mul_right k small)

shape_streams : Streams shape 6430
unfolding shape
shape_streams =
    counted_streams 64 _ λ count small.
    few (λ l. point (last_x l)) 100 (λ l. point_streams (last_x l)) count small and_then λ points. loopback_streams and_then λ loopback. done_streams _

path_streams : Streams path 5780
unfolding path
path_streams =
    counted_streams 64 _ λ count small. below_streams 2 and_then λ closed. few (λ l. path_point) 90 (λ l. path_point_streams) count small and_then λ points. done_streams _

item_stream : Streams item 12640 × Ahead item
unfolding item
item_stream =
    begins settings_stream.0 settings_stream.1 λ settings.
    shape_streams and_then λ shape.
    path_streams and_then λ path.
    row_streams _ 10 (λ l. f32_streams) 16 and_then λ buses.
    number_streams and_then λ seed.
    f64_streams and_then λ tempo. f64_streams and_then λ bar. f32_streams and_then λ swing. scale_streams and_then λ scale. done_streams _

-- ---- no question has the number 12

below12 : List Posed → Bool
below12 [] = true
below12 (q ∷ l) = ltb q.0 12 && below12 l

first_below : (l : List Posed) → below12 l ≡ true → first_no l < 12
unfolding below12 first_no
first_below [] e = omega arith
first_below (q ∷ l) e = by_test q.1 (ltb q.0 12) refl (first_below l) e
  where
    by_test : (t u : Bool) → ltb q.0 12 ≡ u → (below12 l ≡ true → first_no l < 12) → u && below12 l ≡ true → cond t (first_no l) q.0 < 12
    by_test true true small rest e = rest e
    by_test false true small rest e = ltb-true q.0 12 small
    by_test t false small rest e = absurd (false≢true e)

other : (i : ItemCodes) → item_answer i ≡ cut_short → ⊥
unfolding item_answer item_questions below12
other i e = let small = first_below (item_questions i) refl in omega arith

accepted_stream : Streams accepted_item 12640 × Ahead accepted_item
unfolding accepted_item
accepted_stream = begins item_stream.0 item_stream.1 λ i. by_answer i (eqb (item_answer i) 0)
  where
    by_answer : (i : ItemCodes) (t : Bool) → Streams (λ s at. cond t (read i at) (fault (item_answer i))) 0
    by_answer i true = done_streams i
    by_answer i false = fault_streams _ (other i)

pub item_streams : Streams item 12640
item_streams = item_stream.0

pub accepted_streams : Streams accepted_item 12640
accepted_streams = accepted_stream.0

-- an item takes a byte or more
pub accepted_ahead : Ahead accepted_item
accepted_ahead = accepted_stream.1

pub accepted_none : accepted_item [] 0 ≡ fault cut_short
unfolding accepted_item item settings below after read_at read_from leading Read.below
accepted_none = refl
