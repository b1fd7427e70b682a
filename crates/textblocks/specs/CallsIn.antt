-- Document 01, 'The text': the calls that a text holds.
-- Assumes nothing.
use Rattle.std.specs.Prelude.{ℕ, Option, List, [], ◌∷◌}
use Rattle.std.specs.Option.{option_map, option_map_or}
use Rattle.rules.specs.Calls.{Call}
use Rattle.label.specs.Words.{words}
use Rattle.text.specs.Lines.{Lines, done, cut, line, line_at, fields_in}
use Rattle.callrows.specs.Calls.{call_columns, call_in, call_of, as_call_row}
use Rattle.callrows.specs.declared.CallColumns.{CallColumns}
use Rattle.callrows.specs.declared.CallRow.{CallRow}
use Rattle.textblocks.specs.Blocks.{calls_at, names_at, rows_at}

-- the calls of rows, up to the first that is none; an accepted text has no such row
unfoldable pub calls_from : CallColumns → Lines → List (Call words)
calls_from cs done = []
calls_from cs cut = []
calls_from cs (line l ls) = option_map_or (λ q. call_in q ∷ calls_from cs ls) (call_of cs (fields_in l)) []

-- the columns of a text's calls
unfoldable pub call_columns_in : List ℕ → CallColumns
call_columns_in text = call_columns (names_at text (calls_at text))

unfoldable pub calls_of : List ℕ → List (Call words)
calls_of text = calls_from (call_columns_in text) (rows_at text (calls_at text))

-- the call of the line at a place, by its columns
unfoldable pub call_at : List ℕ → CallColumns → ℕ → Option CallRow
call_at text cs at = option_map as_call_row (call_of cs (fields_in (line_at text at)))
