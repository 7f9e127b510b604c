-- The promises of specs/Promises.antt. Assumes nothing.
--     gives_the_record     what reading gives of a record is the record
--     same_item            and the record makes the same item in RUN.md's numbers
use Prim.Native.Nat.{ℕ, ◌≤◌}
use mathlib.Core.Path.{◌≡◌, ◌∙◌}
use mathlib.Core.List.{List}
use native.Mathlib.Omega.{arith}
use borrow.Author.Tests.{le-leb}
use lib.ListN.{length}
use Rattle.listlaws.specs.Over.{over}
use Rattle.codes.specs.declared.ItemCodes.{ItemCodes}
use Rattle.record.specs.Kept.{kept}
use Rattle.record.specs.Writing.{item_bytes}
use Rattle.record.specs.Questions.{item_answer}
use Rattle.record.specs.Records.{ended, whole_record, read_record, write_record, write_answer, written_length, written_to}
use Rattle.record.proofs.Answers.{write_answer_lem}
use Rattle.record.proofs.RoundTrips.{was_given, was_asked, accepts_written}
use Rattle.items.specs.Said.{or_malformed, handed_in}
use Rattle.items.specs.Promises.{GivesTheRecord, SameItem}
use Rattle.items.proofs.Within.{within_same, within_then}
use Rattle.items.proofs.SameFields.{item_within}

pub same_item : SameItem
unfolding read_record whole_record handed_in or_malformed
same_item s i h =
    let (next, e, _) = was_asked (whole_record s 0) i h in
    rw ((within_then ended ended item_within (λ _. within_same)).same s 0 i next e)

-- an item whose record is s, and a buffer with room for it
module _ (i : ItemCodes) (s : List ℕ) (accepted : item_answer i ≡ 0) (is : item_bytes (kept i) ≡ s) where
  answer_none : (room : ℕ) → length s ≤ room → write_answer i room ≡ 0
  answer_none room h = rw (write_answer_lem i room, accepted, is, le-leb (length s) room h)

  length_is : (room : ℕ) → length s ≤ room → written_length i room ≡ length s
  unfolding written_length
  length_is room h = rw (answer_none room h, is)

  bytes_are : (x : List ℕ) → length s ≤ length x → written_to i x ≡ over x 0 s
  unfolding written_to
  bytes_are x h = rw (answer_none (length x) h, is)

pub gives_the_record : GivesTheRecord
unfolding write_record
gives_the_record s bytes i h x room r y says =
    let (accepted, is) = was_given (item_answer i) (item_bytes (kept i)) s ((accepts_written s bytes i).0 h).written in
    let given_so = rw h at says in (
      given_so.answer ∙ rw (answer_none i s accepted is (length x) room, length_is i s accepted is (length x) room) (omega arith),
      given_so.bytes ∙ bytes_are i s accepted is x room,
    )
