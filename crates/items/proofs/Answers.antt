-- What is answered of what was read. Assumes nothing.
--     said_written, said_refused    an item written, and a refusal
use Prim.Native.Nat.{ℕ, ◌+◌, ◌*◌}
use mathlib.Core.Path.{◌≡◌, refl, ◌∙◌}
use mathlib.Core.List.{List}
use native.Mathlib.Omega.{arith}
use Rattle.codes.specs.declared.ItemCodes.{ItemCodes}
use Rattle.record.specs.Records.{Outcome, given, refused}
use Rattle.std.specs.Prelude.{Result}
use Rattle.item_writer.specs.declared.Refusal.{Refusal}
use Rattle.item_writer.specs.Written.{number_of, length_of, WritesRecord}
use Rattle.items.specs.Said.{SaysItem}

pub said_written : {a : Outcome ItemCodes} {i : ItemCodes} {x : List ℕ} {w : Result ℕ Refusal} {y : List ℕ} {r : ℕ} → given i ≡ a → WritesRecord i x w y → r ≡ number_of w + 256 * length_of w → SaysItem a x r y
said_written {i = i} {x} {w} {y} is_given p e =
    rw (← is_given)
    (record {
      answer = rw (e, p.answer, p.len);
      bytes = p.bytes;
      read_back = λ j is accepted. let same : i ≡ j = cc is in rw (← same, ← p.len) (p.read_back (p.answer ∙ rw same accepted));
    })

pub said_refused : {a : Outcome ItemCodes} (x : List ℕ) {n r : ℕ} → refused n ≡ a → r ≡ n → SaysItem a x r x
said_refused x is_refused e =
    rw (← is_refused) (record { answer = e; bytes = refl; read_back = λ j is accepted. let z : ◌≡◌ {A = ℕ} 0 1 = cc is in absurd (omega arith) })
