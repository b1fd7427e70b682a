-- The line of a refusal is no whole number of records.
-- Assumes nothing.
use Rattle.std.proofs.Common.{◌≡◌, ◌≢◌, ℕ, ◌^◌, ◌<◌, ◌%◌, List, ◌++◌, ◌∷◌, [], length, arith, ne_eqb}
use Rattle.std.proofs.lemmas.List.{length-append}
use Rattle.rules.specs.declared.Refusal.{Refusal}
use Rattle.rules.specs.declared.Refusal.TheVariants.{NoProgram, OutOfRange, SlotFree, SlotTaken, TooLong, NoRoom, FlowForbidden, NotReleasable, OtherIsItem, NoRight, BreaksGroup, ListNotWhole, NoRoomForRecords, TextTooLong, BadLine, SlotTwice, EntityBreaksGroup, Formless}
use Rattle.rules.specs.Numbers.{number}
use Rattle.text.specs.Ascii.{ascii}
use Rattle.print.specs.Lines.{refused_text, decimal_text, refused_line, refused_audit}
use Rattle.print.proofs.Laws.{decimal_some, decimal_few}
use Rattle.tally.specs.Tally.{with_records}
use Rattle.page.specs.Page.{page_output}
use Rattle.piped.specs.Claims.{RefusalsRefused}
use Rattle.piped.proofs.Faults.{fault-line}

not_whole : (list : List ℕ) → length list % 16 ≢ 0 → page_output list ≡ refused_audit 12
unfolding with_records
not_whole list n = rw (ne_eqb (length list % 16) 0 n)

two_digits : (e : Refusal) → number e < 100
two_digits NoProgram = omega arith
two_digits OutOfRange = omega arith
two_digits SlotFree = omega arith
two_digits SlotTaken = omega arith
two_digits TooLong = omega arith
two_digits NoRoom = omega arith
two_digits FlowForbidden = omega arith
two_digits NotReleasable = omega arith
two_digits OtherIsItem = omega arith
two_digits NoRight = omega arith
two_digits BreaksGroup = omega arith
two_digits ListNotWhole = omega arith
two_digits NoRoomForRecords = omega arith
two_digits TextTooLong = omega arith
two_digits BadLine = omega arith
two_digits SlotTwice = omega arith
two_digits EntityBreaksGroup = omega arith
two_digits Formless = omega arith

-- one or two digits; one to six
module _ (e : Refusal) where
  line_not_whole : (l : ℕ) → l < 10 ^ 6 → length (refused_line (number e) l) % 16 ≢ 0
  unfolding refused_line
  line_not_whole l q z =
      let p = two_digits e in let a = decimal_text (number e) in let b = decimal_text l in
      omega (
        arith,
        z,
        length-append refused_text (a ++ (ascii " line " ++ (b ++ (10 ∷ [])))),
        length-append a (ascii " line " ++ (b ++ (10 ∷ []))),
        length-append b (10 ∷ []),
        decimal_some (number e) (omega arith),
        decimal_few 2 (number e) (omega arith) (omega arith) (omega arith),
        decimal_some l (omega arith),
        decimal_few 6 l (omega arith) (omega arith) (omega arith),
      )

  audit_not_whole : length (refused_audit (number e)) % 16 ≢ 0
  unfolding refused_audit
  audit_not_whole z =
      let p = two_digits e in let a = decimal_text (number e) in
      omega (arith, z, length-append a (10 ∷ []), decimal_some (number e) (omega arith), decimal_few 2 (number e) (omega arith) (omega arith) (omega arith))

pub refusals_refused : RefusalsRefused
refusals_refused = record {
  text = λ text f e. not_whole (refused_line (number f.refusal) f.line) (line_not_whole f.refusal f.line (fault-line text f e));
  audit = λ e. not_whole (refused_audit (number e)) (audit_not_whole e);
}
