-- Document 01, 'A watering round through hubcalls': what the program does with one line of calls.
-- Assumes nothing.
use Rattle.std.specs.Prelude.{◌≡◌, ◌≤◌, cond, Option, None, Some, List, [], ℕ, length}
use Rattle.rules.specs.declared.Call.{Call as Named}
use Rattle.rules.specs.Calls.{Call, is_show}
use Rattle.rules.specs.Refusals.{step}
use Rattle.rules.specs.Record.{answer, record_size}
use Rattle.label.specs.Calls.{call_with}
use Rattle.label.specs.Words.{words}
use Rattle.monitor.specs.declared.Table.{Table}
use Rattle.monitor.specs.Table.{hub}
use Rattle.callrows.specs.declared.CallRow.{CallRow}
use Rattle.callrows.specs.Calls.{show_buffer}
use Rattle.print.specs.Lines.{call_line, line_size}

-- the bytes of a show are those that it moves; another call shows none
abbrev pub bytes_shown : Named → ℕ → ℕ
bytes_shown c moved = cond (is_show (call_with c [] [])) moved 0

-- something made of a record and of the bytes shown, and how long it is at most
pub record Making : Type 0 where
  pub made : List ℕ → List ℕ → List ℕ
  pub most : ℕ

-- the line of both
abbrev pub lines : Making
lines = record { made = λ entry shown. call_line entry shown; most = line_size }

-- the record
abbrev pub entries : Making
entries = record { made = λ entry shown. entry; most = record_size words }

-- so long it is at most, of a record's bytes and of those that a call shows
abbrev pub IsShort : Making → Type 0
IsShort m = (entry shown : List ℕ) → length entry ≡ record_size words → length shown ≤ 64 → length (m.made entry shown) ≤ m.most

-- what is made of a call, by the rules
abbrev pub made_of : Making → Table → Call words → List ℕ
made_of m t c = m.made (answer hub t c).entry (answer hub t c).part

-- a call played on a table: what is made of it, and the next table
unfoldable pub performed : Making → Table → Named → List ℕ → List ℕ × Table
performed m t c bytes = (made_of m t (call_with c bytes show_buffer), step hub t (call_with c bytes show_buffer))

-- a row played; of one that is no call nothing is made, and the table is as it was
abbrev pub played : Making → Table → Option CallRow → List ℕ × Table
played m t None = ([], t)
played m t (Some row) = performed m t row.call row.put.items
