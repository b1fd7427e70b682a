-- Document 02, change 1: what a tally says of the records of a list.
-- Assumes nothing.
use Rattle.std.specs.Prelude.{◌≡◌, ℕ, ◌/◌, ◌%◌, ◌^◌, ◌<◌, Bool, cond, ◌&&◌, eqb, ltb, List, [], ◌∷◌, ◌++◌, length, slice_index, Result, Ok, Err, All, sum, sum_by, count_by, filter}
use Rattle.std.specs.List.{concat}
use Rattle.rules.specs.declared.Refusal.{Refusal}
use Rattle.rules.specs.Record.{record_size}
use Rattle.label.specs.declared.Label.{Label}
use Rattle.label.specs.Words.{words}
use Rattle.records.specs.declared.Fields.{Fields}
use Rattle.records.specs.Record.{record_bytes}
use Rattle.visible.specs.Shown.{shown_in}
use Rattle.tally.specs.declared.Tally.{Tally}
use Rattle.tally.specs.Tally.{caller_in, number_in, moved_in, row_at, no_records, counted_all, records_of, with_records, tally_of}

-- Of a record that the rules make, these bytes are the caller given, the number returned and the bytes moved
abbrev pub BytesCounted : Type 0
BytesCounted = (f : Fields) (number moved : ℕ) (need : Label) →
    let r = record_bytes f number moved need in (caller_in r ≡ f.caller) × (number_in r ≡ number) × (moved_in r ≡ moved)

-- What an audit shows is never refused: it has a tally
abbrev pub AuditsTallied : Type 0
AuditsTallied = (l : Label) (list : List ℕ) → tally_of (shown_in l list) ≡ Ok (counted_all no_records (records_of (shown_in l list)))

-- a count of a tally
abbrev pub count_at : Tally → ℕ → ℕ → ℕ
count_at t i n = slice_index (row_at t i).counts n

-- whether a record belongs to row i, that of its caller, or the last if its caller is above 31
abbrev pub in_row : ℕ → List ℕ → Bool
in_row i r = cond (ltb i 32) (eqb (caller_in r) i) (ltb 31 (caller_in r))

-- and to count n of its row, that of the number returned, or the last if that is above 17
abbrev pub in_count : ℕ → List ℕ → Bool
in_count n r = cond (ltb n 18) (eqb (number_in r) n) (ltb 17 (number_in r))

-- Each count is how many records of the list belong there, and each sum that of the bytes which the records of its row moved, modulo
-- 2 to the 64
pub record Cells (t : Tally) (rs : List (List ℕ)) : Type 0 where
  pub counts : (i n : ℕ) → i < 33 → n < 19 → count_at t i n ≡ count_by (λ r. in_row i r && in_count n r) rs % 2 ^ 64
  pub bytes : (i : ℕ) → i < 33 → (row_at t i).bytes ≡ sum_by moved_in (filter (in_row i) rs) % 2 ^ 64

abbrev pub CellsCount : Type 0
CellsCount = (list : List ℕ) (t : Tally) → tally_of list ≡ Ok t → Cells t (records_of list)

-- All counts together are the number of records read, modulo 2 to the 64
abbrev pub CountsTogether : Type 0
CountsTogether = (list : List ℕ) (t : Tally) → tally_of list ≡ Ok t → sum_by (λ w. sum w.counts) t.rows % 2 ^ 64 ≡ length list / record_size words % 2 ^ 64

-- what follows on a tally, or the refusal that stands in its place
abbrev pub and_then : Result Tally Refusal → (Tally → Result Tally Refusal) → Result Tally Refusal
and_then (Ok t) f = f t
and_then (Err e) f = Err e

-- a tally with the records of some pieces, one piece after another; the refusal of the first that is refused
unfoldable pub with_pieces : Tally → List (List ℕ) → Result Tally Refusal
with_pieces t [] = Ok t
with_pieces t (p ∷ ps) = and_then (with_records t p) (λ u. with_pieces u ps)

-- a whole number of records
abbrev pub IsWhole : List ℕ → Type 0
IsWhole list = length list % record_size words ≡ 0

-- Pieces of whole records, and a last one of any length, give what the whole list gives: its tally, or 12
abbrev pub PiecesJoin : Type 0
PiecesJoin = (t : Tally) (pieces : List (List ℕ)) (last : List ℕ) → All IsWhole pieces → with_pieces t (pieces ++ last ∷ []) ≡ with_records t (concat pieces ++ last)
