-- What the readings of a line's fields come to.
-- Assumes nothing.
use Rattle.std.proofs.Common.{◌≡◌, ◌≢◌, sym, ℕ, List, length, arith, Option, None, Some, cond, ◌&&◌}
use borrow.Author.Tests.{eq-eqb, ne_eqb}
use Rattle.text.specs.Lines.{fields_in}
use Rattle.text.specs.Split.{split_of, field_by}
use Rattle.text.proofs.Fields.{count_is, field_is}
use Rattle.values.specs.Options.{◌>>=◌}
use Rattle.values.specs.Values.{decimal_of}
use Rattle.callrows.specs.declared.CallColumns.{CallColumns}
use Rattle.callrows.specs.Calls.{CallSaid, call_named, uses_of, number_in, fits, data_if, call_of}

-- the line of these fields
abbrev pub call_by : List ℕ → Option ℕ → List ℕ → List ℕ → List ℕ → List ℕ → Option CallSaid
call_by name caller other set tag bytes = do
  i ← caller
  c ← call_named name i (number_in other) (number_in set) (number_in tag)
  bs ← cond ((fits (uses_of c).other other && fits (uses_of c).set set) && fits (uses_of c).tag tag) (data_if (uses_of c).bytes bytes) None
  Some (record { call = c; bytes = bs })

module _ (cs : CallColumns) (row : List ℕ) where
  pub row_short : (split_of row).count ≢ 6 → call_of cs (fields_in row) ≡ None
  unfolding call_of
  row_short n = let h : length (fields_in row) ≢ 6 = omega (arith, count_is row) in rw (ne_eqb _ _ h)

  -- the fields by where a row has them
  pub row_call : (split_of row).count ≡ 6
      → call_of cs (fields_in row)
      ≡ call_by (field_by row (split_of row).starts cs.call) (decimal_of 255 (field_by row (split_of row).starts cs.caller)) (field_by row (split_of row).starts cs.other)
      (field_by row (split_of row).starts cs.set) (field_by row (split_of row).starts cs.tag) (field_by row (split_of row).starts cs.bytes)
  unfolding call_of
  row_call n =
      let h : length (fields_in row) ≡ 6 = omega (arith, count_is row) in
      let f = field_is row (omega arith) in
      rw (eq-eqb _ _ h)
      (sym (λ i. call_by (f cs.call i) (decimal_of 255 (f cs.caller i)) (f cs.other i) (f cs.set i) (f cs.tag i) (f cs.bytes i)))
