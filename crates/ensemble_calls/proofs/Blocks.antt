-- An accepted block of an ensemble: the transport that it gets, the ensemble that it leaves, and what is heard of a voice. Assumes nothing.
use Rattle.std.specs.Prelude.{Some}
use Prim.Native.Nat.{ℕ, ◌+◌, ◌*◌, ◌^◌, ◌≤◌, ◌<◌}
use mathlib.Core.Path.{◌≡◌, refl, sym, ap, ◌∙◌}
use mathlib.Core.Bool.{Bool, true, false}
use mathlib.Core.List.{List, [], ◌++◌, map}
use native.Mathlib.Omega.{arith}
use lib.ListN.{length, get_or, drop, length-map}
use lib.Seq.{ext_get_or}
use lib.Ieee.{Float, nan}
use borrow.Author.Tests.{leb-true, eqb-true}
use Rattle.floatlaws.proofs.Tests.{yes_so}
use Rattle.listlaws.specs.Tables.{tabulate}
use Rattle.listlaws.proofs.Tabulation.{length_tabulate, get_d_tabulate}
use Rattle.settings.specs.declared.record.Transport.{Transport}
use Rattle.codes.specs.declared.TransportCodes.{TransportCodes}
use Rattle.settings.specs.Codes.{transport_at}
use Rattle.settings.proofs.Read.{transport_of}
use Rattle.voice.specs.Frame.{Frame}
use Rattle.columns.specs.Columns.{interleaved}
use Rattle.questions.specs.Questions.{phase_questions}
use Rattle.questions.proofs.Facts.{passed, TransportAccepted}
use Rattle.questions.proofs.Laws.{three}
use Rattle.calls.proofs.Blocks.{length_values}
use Rattle.ensemble_calls.specs.Ensembles.{VoiceRecord, EnsembleState, no_record, record_at}
use Rattle.ensemble_calls.specs.Blocks.{player_of, playing, played_ensemble, voice_values, voice_finished, ensemble_values}
use Rattle.ensemble_calls.specs.Questions.{play_questions}
use Rattle.ensemble_calls.specs.Calls.{block, questions, answer, accepts, accepted, step, played, buffer, finished_by}
use Rattle.ensemble_calls.specs.Heard.{column, Heard, heard_of}
use Rattle.columns.proofs.Places.{get_or_map_in, column_at}

-- ---- what the questions leave of it

pub record Taken (count frames_before : ℕ) (c : TransportCodes) (frames x_len y_len : ℕ) : Type 0 where
  pub transport : TransportAccepted c
  pub short : frames ≤ 4096
  pub room_x : frames * count ≤ x_len
  pub room_y : frames * count ≤ y_len
  pub within_life : frames_before + frames ≤ 2 ^ 40

pub taken : (e : EnsembleState) (c : TransportCodes) (frames : ℕ) (x y : List Float) → accepts e (block c frames x y) ≡ true
    → Taken (length e.voices) e.played c frames (length x) (length y)
unfolding answer questions play_questions phase_questions
taken e c frames x y h =
    let q1 = passed 0 _ _ (eqb-true (answer e (block c frames x y)) 0 h) in
    let q2 = passed 1 _ _ q1.1 in
    let q6 = passed 5 _ _ q2.1 in
    let q7 = passed 6 _ _ q6.1 in
    let q8 = passed 7 _ _ q7.1 in
    let fits = three _ _ _ q7.0 in
    record {
      transport = record { known = q1.0; finite_all = q2.0; in_range = q6.0 };
      short = leb-true _ _ fits.0;
      room_x = leb-true _ _ fits.1;
      room_y = leb-true _ _ fits.2;
      within_life = leb-true _ _ q8.0;
    }

-- ---- a column of what it writes is what its voice plays

tabulate_is : (f : ℕ → Float) (n : ℕ) (l : List Float) → length l ≡ n → ((k : ℕ) → k < n → f k ≡ get_or l k nan) → tabulate f n ≡ l
tabulate_is f n l e h =
    ext_get_or nan (tabulate f n) l (length_tabulate f n ∙ sym e)
    (λ (k : ℕ) (b : k < length (tabulate f n)). let in_n : k < n = omega (arith, length_tabulate f n) in get_d_tabulate f n k nan in_n ∙ h k in_n)

module _ (e : EnsembleState) (t : Transport) (n v : ℕ) (one : v < length e.voices) where
  length_voice : (f : Frame → Float) (r : VoiceRecord) → length (voice_values e t n f r) ≡ n
  unfolding voice_values
  length_voice f r = length_values (player_of e (playing e r)) t n _ f

  column_values : (f : Frame → Float) (rest : List Float) → column (length e.voices) v n (ensemble_values e t n f ++ rest) ≡ voice_values e t n f (record_at e v)
  unfolding column ensemble_values
  column_values f rest =
      let cols = map (voice_values e t n f) e.voices in
      let wide : length cols ≡ length e.voices = length-map e.voices (voice_values e t n f) in
      tabulate_is _ n _ (length_voice f (record_at e v))
      (λ (k : ℕ) (h : k < n).
      ap (λ (i : ℕ). get_or (interleaved nan n cols ++ rest) (k * i + v) nan) (sym wide)
      ∙ column_at nan n cols rest k v h (omega (arith, wide))
      ∙ ap (λ (c : List Float). get_or c k nan) (get_or_map_in (voice_values e t n f) e.voices v no_record [] one))

-- ---- the block

pub same_heard : {a a' b b' : List Float} {d d' : Bool} → a ≡ a' → b ≡ b' → d ≡ d' → ◌≡◌ {A = Heard} (record { x = a; y = b; finished = d }) (record { x = a'; y = b'; finished = d' })
same_heard p q r = rw (p, q, r) refl

module _ (e : EnsembleState) (c : TransportCodes) (n : ℕ) (x y : List Float) (h : accepts e (block c n x y) ≡ true) where
  pub codes : (t : Transport) × (transport_at c ≡ Some t)
  codes = transport_of c (yes_so (taken e c n x y h).transport.known)

  module _ (t : Transport) (R : transport_at c ≡ Some t) where
    pub block_runs : step e (block c n x y) ≡ played_ensemble e t n
    unfolding step accepted
    block_runs = rw (h, R) refl

    pub heard_is : (v : ℕ) → v < length e.voices
        → heard_of v e c n x y
        ≡ record { x = voice_values e t n (λ f. f.x) (record_at e v); y = voice_values e t n (λ f. f.y) (record_at e v); finished = voice_finished e t n (record_at e v) }
    unfolding heard_of buffer played finished_by
    heard_is v one =
        rw (h, R)
        (same_heard (column_values e t n v one (λ f. f.x) (drop (n * length e.voices) x)) (column_values e t n v one (λ f. f.y) (drop (n * length e.voices) y))
        (get_or_map_in (voice_finished e t n) e.voices v no_record false one))
