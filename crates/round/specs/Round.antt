-- Document 01, 'A watering round through hubcalls': what is made of a text's calls, and what the programs print of it.
-- Assumes nothing.
use Rattle.std.specs.Prelude.{◌≡◌, List, ◌++◌, ℕ, ◌-◌, ◌≤◌, ltb, length, Ok}
use Rattle.rules.specs.Calls.{Call}
use Rattle.rules.specs.Refusals.{step}
use Rattle.rules.specs.Runs.{final, trace, run_of, next, records}
use Rattle.label.specs.Words.{words}
use Rattle.monitor.specs.declared.Table.{Table}
use Rattle.monitor.specs.Table.{hub}
use Rattle.text.specs.Ascii.{ascii}
use Rattle.text.specs.Lines.{next_line}
use Rattle.textblocks.specs.Blocks.{calls_at}
use Rattle.load.specs.Load.{verdict_number, verdict_line, verdict_of, on_accepted, load_of}
use Rattle.textblocks.specs.CallsIn.{call_columns_in, calls_of, call_at}
use Rattle.print.specs.Lines.{line_size, refused_line}
use Rattle.chunks.specs.declared.Chunk.{Chunk}
use Rattle.chunks.specs.Chunks.{Pieces, concat, chunk, chunks}
use Rattle.round.specs.Played.{Making, lines, entries, made_of, played}

-- ---- by the program's functions

-- the row at a place, played on a table
abbrev pub played_at : Making → List ℕ → ℕ → Table → List ℕ × Table
played_at m text at t = played m t (call_at text (call_columns_in text) at)

-- the first line of a text's calls
abbrev pub first_at : List ℕ → ℕ
first_at text = next_line text (calls_at text).at

-- line after line, from a place on, each played on the table that the one before left
abbrev pub call_pieces : List ℕ → Making → Pieces (ℕ × Table)
call_pieces text m = record {
  more = λ s. ltb s.0 (length text);
  piece = λ s. (played_at m text s.0 s.1).0;
  next = λ s. (next_line text s.0, (played_at m text s.0 s.1).1);
  left = λ s. length text - s.0;
  most = m.most;
}

abbrev pub as_calls_chunk : List ℕ × (ℕ × Table) → Chunk
as_calls_chunk r = record { at = r.1.0; len = length r.0 }

-- ---- what hubcalls prints

-- the line of names
abbrev pub names_line : List ℕ
names_line = ascii "record data\n"

-- the line of names before the lines of the calls; of a refused text only its number and line
abbrev pub output_with : List ℕ → List ℕ → List ℕ
output_with text lines = on_accepted (verdict_of text) (names_line ++ lines) (refused_line (verdict_number (verdict_of text)) (verdict_line (verdict_of text)))

-- the lines of a text's calls, from its table on
abbrev pub round_of : List ℕ → List ℕ
round_of text = (concat (call_pieces text lines) (first_at text, (load_of text).table)).0

abbrev pub output_of : List ℕ → List ℕ
output_of text = output_with text (round_of text)

-- the line of a call by the rules: its record, and what it shows
abbrev pub answer_line : Table → Call words → List ℕ
answer_line = made_of lines

-- For every text the output is that of the rules' run of its calls from its table
abbrev pub OutputRuns : Type 0
OutputRuns = (text : List ℕ) → output_of text ≡ output_with text (trace (step hub) answer_line (load_of text).table (calls_of text))

-- For every text and every buffer that has room for a line, the chunks one after another make the output
abbrev pub OutputInChunks : Type 0
OutputInChunks = (text : List ℕ) (room : ℕ) → line_size ≤ room
    → output_with text (chunks (call_pieces text lines) room (first_at text, (load_of text).table)).0 ≡ output_of text

-- ---- the records that hubaudit audits

-- A row of calls has six fields, so that with byte 10 it takes at least six bytes: so many bytes have room for the records of 65,535
abbrev pub records_room : ℕ
records_room = 174752

-- For an accepted text and every table, such a buffer takes the records of all its calls: they are those of the rules' run of its
-- calls alone, the table is that after it, and no line is left
abbrev pub RecordsRun : Type 0
RecordsRun = (text : List ℕ) (room : ℕ) (t : Table) → verdict_of text ≡ Ok tt → records_room ≤ room
    → ((chunk (call_pieces text entries) room (first_at text, t)).0 ≡ records hub t (run_of (calls_of text)))
    × ((chunk (call_pieces text entries) room (first_at text, t)).1.1 ≡ final (next hub) t (run_of (calls_of text)))
    × (length text ≤ (chunk (call_pieces text entries) room (first_at text, t)).1.0)
