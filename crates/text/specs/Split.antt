-- Where a row has its fields.
-- Assumes nothing.
use Rattle.std.specs.Prelude.{ℕ, ◌+◌, ◌-◌, cond, List, [], ◌∷◌, ltb, length, get_or, set, take, drop, replicate}
use Rattle.text.specs.Lines.{fields_in}

-- where the first 15 fields start, and where one more would; and how many there are
pub record Starts : Type 0 where
  pub starts : List ℕ
  pub count : ℕ

unfoldable pub no_starts : List ℕ
no_starts = replicate 16 0

-- The starts after the first n of the fields, of which one more would start at a place: each field ends one byte, its space,
-- before the next start
unfoldable pub starts_from : List ℕ → ℕ → ℕ → List (List ℕ) → Starts
starts_from s n at [] = record { starts = s; count = n }
starts_from s n at (f ∷ fs) =
    starts_from (cond (ltb (n + 1) 16) (set s (n + 1) (at + length f + 1)) s) (n + 1) (at + length f + 1) fs

unfoldable pub split_of : List ℕ → Starts
split_of row = starts_from no_starts 0 0 (fields_in row)

-- the part of a row from a start to one byte before the next, in the first 15 columns
unfoldable pub field_by : List ℕ → List ℕ → ℕ → List ℕ
field_by row starts k = cond (ltb k 15) (take (get_or starts (k + 1) 0 - 1 - get_or starts k 0) (drop (get_or starts k 0) row)) []
