-- Document 01, 'The text': its lines, the fields of a line, and the field that stands under a name.
-- Assumes nothing.
use Rattle.std.specs.Prelude.{ℕ, suc, ◌+◌, Bool, true, cond, ◌&&◌, List, [], ◌∷◌, length, get_or, take, drop, eqb, ltb}
use Rattle.text.specs.Bytes.{eq_bytes, index_of}

-- A text is whole lines, each of which byte 10 ends, and then its end, or a last line without byte 10
pub data Lines : Type 0 where
  done : Lines
  cut : Lines
  line : List ℕ → Lines → Lines

-- the lines with one byte more in front of the first
unfoldable pub before : ℕ → Lines → Lines
before b done = cut
before b cut = cut
before b (line l ls) = line (b ∷ l) ls

unfoldable pub lines_of : List ℕ → Lines
lines_of [] = done
lines_of (b ∷ bs) = cond (eqb b 10) (line [] (lines_of bs)) (before b (lines_of bs))

-- the place of the byte 10 that ends the line at a place; the text's end, or a place beyond it, where no byte 10 is left
unfoldable pub line_end : List ℕ → ℕ → ℕ
line_end text at = at + index_of 10 (drop at text)

-- the line at a place
unfoldable pub line_at : List ℕ → ℕ → List ℕ
line_at text at = take (index_of 10 (drop at text)) (drop at text)

-- the place of the next line: after the byte 10 that ends the line at a place; without one, the end of the text, or the
-- place itself if it is beyond
unfoldable pub next_line : List ℕ → ℕ → ℕ
next_line text at = cond (ltb (line_end text at) (length text)) (line_end text at + 1) (line_end text at)

-- ---- the fields of a line, with one space between them

-- the fields with one byte more in front of the first
unfoldable pub ahead : ℕ → List (List ℕ) → List (List ℕ)
ahead b [] = []
ahead b (f ∷ fs) = (b ∷ f) ∷ fs

unfoldable pub fields_in : List ℕ → List (List ℕ)
fields_in [] = [] ∷ []
fields_in (b ∷ bs) = cond (eqb b 32) ([] ∷ fields_in bs) (ahead b (fields_in bs))

-- the field of a row in a column; where there is none, the empty field, which no column allows
abbrev pub field_at : List (List ℕ) → ℕ → List ℕ
field_at fs k = get_or fs k []

-- ---- names in any order, each once

-- the column of a name in a line of names; how many there are, where it is not among them
unfoldable pub column_of : List ℕ → List (List ℕ) → ℕ
column_of name [] = 0
column_of name (h ∷ hs) = cond (eq_bytes h name) 0 (suc (column_of name hs))

-- whether each of the names has a column
unfoldable pub has_names : List (List ℕ) → List (List ℕ) → Bool
has_names [] hs = true
has_names (n ∷ ns) hs = ltb (column_of n hs) (length hs) && has_names ns hs

-- as many columns as there are names, and one for each
unfoldable pub names_once : List (List ℕ) → List (List ℕ) → Bool
names_once ns hs = eqb (length hs) (length ns) && has_names ns hs
