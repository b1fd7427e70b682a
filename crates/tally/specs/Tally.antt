-- Document 02, change 1: the records of a list, counted by caller and by returned number, and the bytes that they moved.
-- Assumes nothing.
use Rattle.std.specs.Prelude.{ℕ, ◌+◌, ◌/◌, ◌%◌, ◌^◌, min, cond, eqb, List, length, set, replicate, slice_index, slice_index_or, Result, Ok, Err}
use Rattle.std.specs.List.{fold}
use Rattle.rules.specs.declared.Refusal.{Refusal}
use Rattle.rules.specs.declared.Refusal.TheVariants.{ListNotWhole}
use Rattle.rules.specs.Record.{record_size, records_in}
use Rattle.label.specs.Words.{words}
use Rattle.tally.specs.declared.Row.{Row}
use Rattle.tally.specs.declared.Tally.{Tally}

-- byte 1 of a record, the caller
abbrev pub caller_in : List ℕ → ℕ
caller_in r = slice_index r 1

-- byte 3, the number returned
abbrev pub number_in : List ℕ → ℕ
number_in r = slice_index r 3

-- byte 4, the bytes moved
abbrev pub moved_in : List ℕ → ℕ
moved_in r = slice_index r 4

-- the row of a record: one for each caller from 0 to 31, and the last for all higher numbers
abbrev pub row_of : List ℕ → ℕ
row_of r = min (caller_in r) 32

-- its count in that row: one for each number from 0 to 17, and the last for all higher ones
abbrev pub count_of : List ℕ → ℕ
count_of r = min (number_in r) 18

-- a row without records
abbrev pub no_row : Row
no_row = record { counts = replicate 19 0; bytes = 0 }

-- a row with one record more: one more in its count, and its bytes in the sum, both modulo 2 to the 64
abbrev pub row_with : Row → List ℕ → Row
row_with w r = record {
  counts = set w.counts (count_of r) ((slice_index w.counts (count_of r) + 1) % 2 ^ 64);
  bytes = (w.bytes + moved_in r) % 2 ^ 64;
}

-- a row of a tally
abbrev pub row_at : Tally → ℕ → Row
row_at t i = slice_index_or t.rows i no_row

-- the tally of no records
abbrev pub no_records : Tally
no_records = record { rows = replicate 33 no_row }

-- a tally with one record more
abbrev pub counted : Tally → List ℕ → Tally
counted t r = record { rows = set t.rows (row_of r) (row_with (row_at t (row_of r)) r) }

-- a tally with some records more, one after another
unfoldable pub counted_all : Tally → List (List ℕ) → Tally
counted_all t rs = fold counted t rs

-- the records of a list, read from the front
abbrev pub records_of : List ℕ → List (List ℕ)
records_of list = records_in words (length list / record_size words) list

-- a tally with the records of a list; 12 where the list is no whole number of records
unfoldable pub with_records : Tally → List ℕ → Result Tally Refusal
with_records t list = cond (eqb (length list % record_size words) 0) (Ok (counted_all t (records_of list))) (Err ListNotWhole)

-- the tally of a list
abbrev pub tally_of : List ℕ → Result Tally Refusal
tally_of list = with_records no_records list
