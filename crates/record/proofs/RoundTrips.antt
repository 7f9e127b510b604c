-- The promises of specs/Promises.antt, from the round trip of an item. Assumes nothing.
--     was_given          where something is given, the number is 0
--     was_asked          where an item is given, it was read and its questions give 0
--     gives_back         an accepted item, points as kept, is given back
--     accepts_written    what the reader accepts is what the writer gives for that item
--     one_record         so each item has one record
--     cut_short          a record that is cut gives 12
--     in_front           the same of an item with something behind it
use Prim.Native.Nat.{ℕ, ◌+◌, min}
use mathlib.Core.Path.{◌≡◌, refl, sym, ap, ◌∙◌, subst}
use mathlib.Core.Bool.{Bool, true, false, cond}
use mathlib.Core.List.{List, [], ◌++◌, append-nil}
use native.Mathlib.Omega.{arith}
use borrow.Author.Tests.{ltb-true, eqb-true, eq-eqb}
use lib.Dec.{eqb}
use lib.ListN.{length, take, drop, get_or}
use lib.Seq.{drop-length, get_or-take}
use lib.Ieee.{Float, of_bits}
use lib.Ieee.Bits.{of_bits-fits}
use lib.Ieee.Scale.{finite}
use Rattle.floatlaws.specs.Numbers.{f64_0}
use Rattle.codes.specs.declared.SettingsCodes.{SettingsCodes}
use Rattle.settings.specs.Codes.{transport_known}
use Rattle.codes.specs.declared.ModCodes.{ModCodes}
use Rattle.codes.specs.declared.PointCodes.{PointCodes}
use Rattle.codes.specs.declared.PathPointCodes.{PathPointCodes}
use Rattle.questions.specs.Tests.{shape_known, loopback_in, transport_finite}
use Rattle.questions.proofs.Laws.{seven}
use Rattle.questions.proofs.Facts.{every_so}
use Rattle.fields.specs.Parser.{Parsed, read, fault, after}
use Rattle.fields.specs.Bytes.{Bytes}
use Rattle.fields.specs.RoundTrip.{Cuts, WhenOk}
use Rattle.fields.proofs.Chains.{was_read, same_value, same_place, no_fault, stands_is}
use Rattle.fields.proofs.Trips.{◌with◌}
use Rattle.codes.specs.declared.ShapeCodes.{ShapeCodes}
use Rattle.codes.specs.declared.PathCodes.{PathCodes}
use Rattle.codes.specs.declared.ItemCodes.{ItemCodes}
use Rattle.curves.specs.Given.{no_point_codes, no_path_point_codes}
use Rattle.record.specs.Items.{f64_48000}
use Rattle.codes.specs.Blanks.{blank_point, blank_path_point}
use Rattle.record.specs.Reading.{last_x, item}
use Rattle.record.specs.Writing.{item_bytes}
use Rattle.record.specs.Kept.{kept_shape, kept}
use Rattle.record.specs.Questions.{item_answer}
use Rattle.record.specs.Records.{given, refused, unless, ended, whole_record, asked, read_record, accepted_item, write_record}
use Rattle.record.specs.Promises.{SettingsTyped, ModTyped, PointTyped, PathPointTyped, ShapeTyped, PathTyped, Typed, Accepted, GivesBack, AcceptsWritten, OneRecord, CutShort, InFront}
use Rattle.record.proofs.Lists.{get_or_inside}
use Rattle.record.proofs.Agreements.{LoopbackOk, finite_no_nan, SettingsOk, ModOk, PointOk, PathPointOk, ShapeOk, PathOk, ItemOk, ItemSure, item_trip}
use Rattle.record.proofs.KeptSettings.{settings_same, settings_ok, loopback_ok}
use Rattle.record.proofs.KeptPoints.{shape_ok, shape_same}
use Rattle.record.proofs.KeptPaths.{path_ok, path_same}
use Rattle.record.proofs.Answers.{Passed, passes, answers, keeps, loopback_known, points_finite, closed_known, path_points_finite, points_on_paper}

-- ---- answers

module _ {A : Type 0} where
  pub was_given : (n : ℕ) (a b : A) → unless n a ≡ given b → (n ≡ 0) × (a ≡ b)
  was_given n a b h = by_test (eqb n 0) refl h
    where
      by_test : (t : Bool) → eqb n 0 ≡ t → cond t (given a) (refused n) ≡ given b → (n ≡ 0) × (a ≡ b)
      by_test true e h = (eqb-true n 0 e, cc h)
      by_test false e h = let z : ◌≡◌ {A = ℕ} 0 1 = cc h in absurd (omega arith)

  is_given : (n : ℕ) (a : A) → n ≡ 0 → unless n a ≡ given a
  is_given n a e = rw e

  was_ended : (a b : A) (s : List ℕ) (m next : ℕ) → ended a s m ≡ read b next → (m ≡ length s) × (a ≡ b)
  unfolding ended
  was_ended a b s m next h = by_test (eqb m (length s)) refl h
    where
      by_test : (t : Bool) → eqb m (length s) ≡ t → cond t (read a m) (fault 14) ≡ read b next → (m ≡ length s) × (a ≡ b)
      by_test true e h = (eqb-true m (length s) e, same_value h)
      by_test false e h = absurd (no_fault h)

-- ---- an item that was read

either_way : {A : Type 0} (chosen : Bool) {blank a : A} {Ok : A → Type 0} → WhenOk chosen blank Ok a → Ok blank → Ok a
either_way true w b = w.there refl
either_way false {Ok = Ok} w b = subst Ok (sym (w.absent refl)) b

settings_typed : (c : SettingsCodes) → SettingsOk c → SettingsTyped c
settings_typed c h =
    record {
      hz = either_way _ h.1.1.1.0.1.1.1.0 (of_bits-fits _ 0);
      fade = either_way _ h.1.1.1.1.1.1.0.1.1 (of_bits-fits _ 0);
      delay = either_way _ h.1.1.1.1.1.1.1.0.1.1 (of_bits-fits _ 0);
      coefficient = either_way _ h.1.1.1.1.1.1.1.1.0.1 (of_bits-fits _ 0);
      phase = h.1.1.1.1.1.1.1.1.1.0;
      grid = h.1.1.1.1.1.1.1.1.1.1.1;
    }

mod_typed : (c : ModCodes) → ModOk c → ModTyped c
mod_typed c h = record { bus = either_way _ h.1.0 (omega arith); depth = (either_way _ h.1.1 (of_bits-fits _ 0, unfold of_bits in refl)).0 }

point_typed : (before : Float) (c : PointCodes) → PointOk before c → PointTyped c
point_typed before c h =
    record { x = h.0.0; y = h.1.0.0; curve = h.1.1.0.0; x_mod = mod_typed c.x_mod h.1.1.1.1.0; y_mod = mod_typed c.y_mod h.1.1.1.1.1 }

path_point_typed : (c : PathPointCodes) → PathPointOk c → PathPointTyped c
path_point_typed c h =
    record { x = h.0.0; y = h.1.0.0; bend = h.1.1.0.0; x_mod = mod_typed c.x_mod h.1.1.1.0; y_mod = mod_typed c.y_mod h.1.1.1.1 }

shape_typed : (c : ShapeCodes) → ShapeOk c → ShapeTyped c
shape_typed c ok k h =
    let l = take c.count c.points in
    let is = get_or_inside l k blank_point no_point_codes (omega (arith, ok.1.0, ok.1.1.0.0)) ∙ get_or-take c.count c.points k no_point_codes (omega arith) in
    subst PointTyped is (point_typed (last_x (take k l)) (get_or l k blank_point) (ok.1.1.0.1 k (omega arith)))

path_typed : (c : PathCodes) → PathOk c → PathTyped c
path_typed c ok k h =
    let l = take c.count c.points in
    let is = get_or_inside l k blank_path_point no_path_point_codes (omega (arith, ok.1.0, ok.1.1.1.0)) ∙ get_or-take c.count c.points k no_path_point_codes (omega arith) in
    subst PathPointTyped is (path_point_typed (get_or l k blank_path_point) (ok.1.1.1.1 k (omega arith)))

item_typed : (i : ItemCodes) → ItemOk i → Typed i
item_typed i h =
    record {
      settings = settings_typed i.settings h.0;
      shape = shape_typed i.shape h.1.0;
      path = path_typed i.path h.1.1.0;
      sixteen = h.1.1.1.0.0;
      buses = h.1.1.1.0.1;
      seed = h.1.1.1.1.0;
      tempo = h.1.1.1.1.1.0;
      bar = h.1.1.1.1.1.1.0;
      swing = h.1.1.1.1.1.1.1.0;
      percent = h.1.1.1.1.1.1.1.1.1;
    }

-- what question 2 sees to
sure : (i : ItemCodes) → Passed i → ItemSure i
unfolding transport_finite
sure i p =
    let f = seven (finite f64_48000) (finite i.tempo) (finite i.beats_per_bar) (finite f64_0) (finite f64_0) (finite i.swing) (finite i.scale.percent) p.transport_is_finite in
    record {
      settings = p.settings_are_finite;
      buses = λ k h. finite_no_nan _ (every_so _ _ p.buses_are_finite k h);
      tempo = finite_no_nan i.tempo f.1;
      bar = finite_no_nan i.beats_per_bar f.2;
      swing = finite_no_nan i.swing f.5;
      percent = finite_no_nan i.scale.percent f.6;
    }

pub was_asked : (x : Parsed ItemCodes) (i : ItemCodes) → asked x ≡ given i → (next : ℕ) × (x ≡ read i next) × (item_answer i ≡ 0)
unfolding asked
was_asked (read j next) i h =
    let (accepted, is) = was_given (item_answer j) j i h in
    (next, ap (λ (x : ItemCodes). read x next) is, ap item_answer (sym is) ∙ accepted)
was_asked (fault n) i h = let z : ◌≡◌ {A = ℕ} 0 1 = cc h in absurd (omega arith)

shape_loopback : (c : ShapeCodes) → shape_known c ≡ true → loopback_in c ≡ true → LoopbackOk (kept_shape c).loopback
unfolding kept_shape loopback_in
shape_loopback c known below = loopback_ok c.loopback (min c.count 64) (loopback_known c known) below (omega arith)

kept_ok : (i : ItemCodes) → Typed i → Passed i → ItemOk (kept i)
unfolding kept transport_known
kept_ok i t p =
    settings_ok i.settings p.settings_are_known t.settings
    with shape_ok i.shape (points_finite i.shape p.shape_is_finite) t.shape (shape_loopback i.shape p.shape_is_known p.loopback_is_in)
    with path_ok i.path (path_points_finite i.path p.path_is_finite) t.path (ltb-true i.path.closed 2 (closed_known i.path p.path_is_known))
    with (t.sixteen, t.buses)
    with t.seed
    with t.tempo
    with t.bar
    with t.swing
    with (ltb-true i.scale.code 2 p.transport_is_known, t.percent)

kept_same : (i : ItemCodes) → ItemOk i → Passed i → kept i ≡ i
unfolding kept
kept_same i h p d =
    record {
      settings = settings_same i.settings h.0 d;
      shape = shape_same i.shape h.1.0 d;
      path = path_same i.path h.1.1.0 (points_on_paper i.path p.is_on_paper) d;
      buses = i.buses;
      seed = i.seed;
      tempo = i.tempo;
      beats_per_bar = i.beats_per_bar;
      swing = i.swing;
      scale = i.scale;
    }

reads_kept : (i : ItemCodes) → Typed i → item_answer i ≡ 0 → read_record (item_bytes (kept i)) ≡ given (kept i)
unfolding read_record whole_record asked ended after
reads_kept i t h =
    let p = passes i h in
    let s = item_bytes (kept i) in
    let reading = (item_trip.gives (kept i) (kept_ok i t p)).reads s [] 0 (sym (append-nil s)) in
    let end : eqb (0 + length s) (length s) ≡ true = eq-eqb (0 + length s) (length s) (omega arith) in
    rw (reading, end) (is_given _ (kept i) (answers (kept i) (keeps i p)))

pub gives_back : GivesBack
unfolding write_record
gives_back i t s h =
    let (accepted, bytes) = was_given (item_answer i) (item_bytes (kept i)) s h in
    subst (λ (l : List ℕ). read_record l ≡ given (kept i)) bytes (reads_kept i t accepted)

accepted_written : (s : List ℕ) → Bytes s → (i : ItemCodes) → read_record s ≡ given i → Accepted s i
unfolding read_record whole_record write_record
accepted_written s bytes i h =
    let (next, e, accepted) = was_asked (whole_record s 0) i h in
    let (j, m, first, last) = was_read (item s 0) _ e in
    let (end, is) = was_ended j i s m next last in
    let p = passes i accepted in
    let (ok, stands) = item_trip.takes s bytes 0 m i (first ∙ ap (λ (x : ItemCodes). read x m) is) (sure i p) in
    let rest : drop m s ≡ [] = ap (λ (n : ℕ). drop n s) end ∙ drop-length s in
    let whole : item_bytes i ≡ s = sym (stands.bytes ∙ ap (λ (l : List ℕ). item_bytes i ++ l) rest ∙ append-nil (item_bytes i)) in
    let same : kept i ≡ i = kept_same i ok p in
    record {
      typed = item_typed i ok;
      is_kept = same;
      written = is_given (item_answer i) (item_bytes (kept i)) accepted ∙ ap (λ (l : List ℕ). given l) (ap item_bytes same ∙ whole);
    }

pub accepts_written : AcceptsWritten
accepts_written s bytes i = (
  accepted_written s bytes i,
  λ a. subst (λ (j : ItemCodes). read_record s ≡ given j) a.is_kept (gives_back i a.typed s a.written),
)

pub one_record : OneRecord
one_record s t in_s in_t i h k =
    let a = (accepted_written s in_s i h).written in
    let b = (accepted_written t in_t i k).written in
    cc (sym a ∙ b)

pub cut_short : CutShort
unfolding write_record read_record whole_record asked after
cut_short i t s h j few =
    let (accepted, bytes) = was_given (item_answer i) (item_bytes (kept i)) s h in
    let ok = kept_ok i t (passes i accepted) in
    let cut = (subst (Cuts item) bytes (item_trip.cut (kept i) ok)).cuts (take j s) 0 j few refl in
    rw cut

front_ended : (i j : ItemCodes) (s : List ℕ) (m next : ℕ) (n : ℕ) → cond (eqb n 0) (read j m) (fault n) ≡ read i next → (n ≡ 0) × (j ≡ i) × (m ≡ next)
front_ended i j s m next n h = by_test (eqb n 0) refl h
  where
    by_test : (t : Bool) → eqb n 0 ≡ t → cond t (read j m) (fault n) ≡ read i next → (n ≡ 0) × (j ≡ i) × (m ≡ next)
    by_test true e h = (eqb-true n 0 e, same_value h, same_place h)
    by_test false e h = absurd (no_fault h)

pub in_front : InFront
unfolding accepted_item after
in_front =
    record {
      gives = λ i a.
          let ok : ItemOk i = subst ItemOk a.is_kept (kept_ok i a.typed (passes i a.answer)) in
          record {
            reads = λ s rest at e.
                let reading = (item_trip.gives i ok).reads s rest at e in
                let accepted = a.answer in
                rw reading (rw accepted);
          };
      cut = λ i a.
          let ok : ItemOk i = subst ItemOk a.is_kept (kept_ok i a.typed (passes i a.answer)) in
          record { cuts = λ s at j few e. let cut = (item_trip.cut i ok).cuts s at j few e in rw cut };
      takes = λ s bytes at next i e _.
          let (j, m, first, last) = was_read (item s at) _ e in
          let (answer, is, end) = front_ended i j s m next (item_answer j) last in
          let accepted : item_answer i ≡ 0 = ap item_answer (sym is) ∙ answer in
          let p = passes i accepted in
          let (ok, stands) = item_trip.takes s bytes at m i (first ∙ ap (λ (x : ItemCodes). read x m) is) (sure i p) in
          (record { typed = item_typed i ok; is_kept = kept_same i ok p; answer = accepted }, stands_is end refl stands);
    }
