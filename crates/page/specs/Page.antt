-- Document 02, change 1: the page that hubtally prints.
-- Assumes nothing.
use Rattle.std.specs.Prelude.{ℕ, ◌+◌, ◌*◌, ◌^◌, ◌<◌, cond, ltb, List, [], ◌∷◌, ◌++◌, length, Option, None, Some, Result, Ok, Err, ⊤}
use Rattle.std.specs.List.{flat_map, range_with_len}
use Rattle.rules.specs.declared.Refusal.{Refusal}
use Rattle.rules.specs.Numbers.{number}
use Rattle.text.specs.Ascii.{ascii}
use Rattle.print.specs.Lines.{decimal_text, refused_audit}
use Rattle.tally.specs.declared.Row.{Row}
use Rattle.tally.specs.declared.Tally.{Tally}
use Rattle.tally.specs.Tally.{tally_of}

-- the line of names: caller, n0 to n17, more, bytes
abbrev pub names_line : List ℕ
names_line = ascii "caller" ++ flat_map (λ n. ascii " n" ++ decimal_text n) (range_with_len 0 18) ++ ascii " more bytes\n"

-- what stands for a row: the caller's slot from 0 to 31, and `more` in the last
abbrev pub caller_text : ℕ → List ℕ
caller_text i = cond (ltb i 32) (decimal_text i) (ascii "more")

-- a number in decimal, with a space before it
abbrev pub cell : ℕ → List ℕ
cell n = 32 ∷ decimal_text n

-- the line of row i: the caller, the counts and the sum of bytes
unfoldable pub row_line : ℕ → Row → List ℕ
row_line i w = caller_text i ++ flat_map cell w.counts ++ cell w.bytes ++ (10 ∷ [])

-- the lines of rows, the first of which is row i
unfoldable pub row_lines : ℕ → List Row → List ℕ
row_lines i [] = []
row_lines i (w ∷ ws) = row_line i w ++ row_lines (i + 1) ws

-- the page of a tally: the names, and its rows
unfoldable pub page_of : Tally → List ℕ
page_of t = names_line ++ row_lines 0 t.rows

-- what is printed of a tally, and of a refusal
abbrev pub page_or_refusal : Result Tally Refusal → List ℕ
page_or_refusal (Ok t) = page_of t
page_or_refusal (Err e) = refused_audit (number e)

-- what hubtally has to print for an input
abbrev pub page_output : List ℕ → List ℕ
page_output list = page_or_refusal (tally_of list)

-- an input, where its bytes are known, is longer than 2 to the 79: more than the program reads
abbrev pub IsTooLong : Option (List ℕ) → Type 0
IsTooLong None = ⊤
IsTooLong (Some list) = 2 ^ 79 < length list

-- a row has at most 425 bytes, and a page 80 of names and 33 rows
abbrev pub row_size : ℕ
row_size = 425

abbrev pub page_size : ℕ
page_size = 80 + 33 * row_size
