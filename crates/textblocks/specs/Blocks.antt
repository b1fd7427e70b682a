-- Document 01, 'The text': where its blocks stand, and the first line of each that does not have the form.
-- Assumes nothing.
use Rattle.std.specs.Prelude.{◌≡◌, ℕ, ◌+◌, ◌≤◌, ◌<◌, Bool, true, false, cond, not, ◌&&◌, Option, None, Some, MatchOption, is_some, List, [], ◌∷◌, length, drop, eqb, ltb}
use Rattle.std.specs.Option.{option_or}
use Rattle.text.specs.Lines.{Lines, done, cut, line, lines_of, line_end, line_at, next_line, fields_in, names_once}
use Rattle.rows.specs.Names.{entity_names}
use Rattle.rows.specs.Entities.{entity_columns, entity_of}
use Rattle.grouprows.specs.Groups.{is_named, group_columns, group_of}
use Rattle.grouprows.specs.declared.GroupColumns.{GroupColumns}
use Rattle.callrows.specs.Calls.{call_names, call_columns, call_of}
use Rattle.textblocks.specs.declared.Block.{Block}
use Rattle.textblocks.specs.declared.Place.{Place}

-- ---- places: an empty line stands between a block and the next

-- the bytes and the lines up to the first empty line and past it; of a text without one, its whole lines
unfoldable pub bytes_past : Lines → ℕ
bytes_past done = 0
bytes_past cut = 0
bytes_past (line [] ls) = 1
bytes_past (line (b ∷ l) ls) = length (b ∷ l) + 1 + bytes_past ls

unfoldable pub lines_past : Lines → ℕ
lines_past done = 0
lines_past cut = 0
lines_past (line [] ls) = 1
lines_past (line (b ∷ l) ls) = 1 + lines_past ls

-- the first block is at the text's start
unfoldable pub start : Place
start = record { at = 0; line = 1 }

module _ (text : List ℕ) where
  -- the lines from a place on
  abbrev pub lines_at : ℕ → Lines
  lines_at at = lines_of (drop at text)

  -- a place in the text or at its end, with no more lines before it than bytes
  abbrev pub Inside : Place → Type 0
  Inside p = (p.at ≤ length text) × (p.line ≤ p.at + 1)

  -- one step over the lines of a text: a whole line with its number, and the place after it; none where none is left
  abbrev pub Steps : Place → Option (ℕ × List ℕ) → Place → Type 0
  Steps p r q = MatchOption r ((length text ≤ line_end text p.at) × (q ≡ p))
      (λ x. (line_end text p.at < length text) × (x ≡ (p.line, line_at text p.at)) × (q ≡ record { at = line_end text p.at + 1; line = p.line + 1 }))

  unfoldable pub past_empty : Place → Place
  past_empty p = record { at = p.at + bytes_past (lines_at p.at); line = p.line + lines_past (lines_at p.at) }

  -- the second and the third block
  unfoldable pub groups_at : Place
  groups_at = past_empty start

  unfoldable pub calls_at : Place
  calls_at = past_empty groups_at

  -- a block's names, and the lines after them
  abbrev pub names_at : Place → List (List ℕ)
  names_at p = fields_in (line_at text p.at)

  abbrev pub rows_at : Place → Lines
  rows_at p = lines_at (next_line text p.at)

  -- the columns of the groups
  unfoldable pub group_columns_in : GroupColumns
  group_columns_in = group_columns (names_at groups_at)

-- ---- 15

-- a row of a block, where i rows stand before it: of the entities; of the groups, at most 8; of the calls
abbrev pub row_good : Block → ℕ → List ℕ → Bool
row_good (Block.Entities cs) i l = is_some (entity_of cs (fields_in l))
row_good (Block.Groups cs) i l = is_some (group_of cs (fields_in l)) && ltb i 8
row_good (Block.Calls cs) i l = is_some (call_of cs (fields_in l))

-- the names of a block, each once, in any order
abbrev pub is_header : Block → List (List ℕ) → Bool
is_header (Block.Entities cs) hs = names_once entity_names hs
is_header (Block.Groups cs) hs = is_named hs
is_header (Block.Calls cs) hs = names_once call_names hs

-- the last block ends with the text, another with an empty line
abbrev pub is_last : Block → Bool
is_last (Block.Entities cs) = false
is_last (Block.Groups cs) = false
is_last (Block.Calls cs) = true

module _ (b : Block) where
  -- The first bad line of a block's rows. The next line has number n, and i rows stand before it
  unfoldable pub rows_bad : ℕ → ℕ → Lines → Option ℕ
  rows_bad n i done = cond (is_last b) None (Some n)
  rows_bad n i cut = Some n
  rows_bad n i (line l ls) =
      cond (not (is_last b) && eqb (length l) 0) None (cond (row_good b i l) (rows_bad (n + 1) (i + 1) ls) (Some n))

  -- The first bad line of a block: its line of names, which are the block's or not, and then its rows
  unfoldable pub block_bad : Bool → List ℕ → Place → Option ℕ
  block_bad named text p =
      cond (ltb (line_end text p.at) (length text) && named) (rows_bad (p.line + 1) 0 (rows_at text p)) (Some p.line)

-- each block, its columns being those of its own line of names
module _ (text : List ℕ) where
  abbrev pub first_bad : Block → Place → Option ℕ
  first_bad b p = block_bad b (is_header b (names_at text p)) text p

  unfoldable pub entities_bad : Place → Option ℕ
  entities_bad p = first_bad (Block.Entities (entity_columns (names_at text p))) p

  unfoldable pub groups_bad : Place → Option ℕ
  groups_bad p = first_bad (Block.Groups (group_columns (names_at text p))) p

  unfoldable pub calls_bad : Place → Option ℕ
  calls_bad p = first_bad (Block.Calls (call_columns (names_at text p))) p

-- the first bad line of a text
unfoldable pub bad_line : List ℕ → Option ℕ
bad_line text = option_or (option_or (entities_bad text start) (groups_bad text (groups_at text))) (calls_bad text (calls_at text))
