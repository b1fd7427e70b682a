-- Document 01, 'When a call is turned down': loading checks 14, then 15 over the whole text, then 16, then 17.
-- Assumes nothing.
use Rattle.std.specs.Prelude.{ℕ, Option, None, Some, Result, Ok, Err, cond, List, length, ltb}
use Rattle.rules.specs.declared.Refusal.{Refusal}
use Rattle.rules.specs.declared.Refusal.TheVariants.{TextTooLong, BadLine, SlotTwice, EntityBreaksGroup}
use Rattle.rules.specs.Numbers.{number}
use Rattle.monitor.specs.declared.Table.{Table}
use Rattle.monitor.specs.Table.{empty_table}
use Rattle.textblocks.specs.Blocks.{bad_line}
use Rattle.load.specs.declared.Fault.{Fault}
use Rattle.load.specs.declared.Loaded.{Loaded}
use Rattle.load.specs.Tables.{entities_in, table_in}

-- accepted, or refused at a line
abbrev pub Verdict : Type 0
Verdict = Result (Unit {0}) (Fault Refusal)

-- the number that a verdict returns, by that of each refusal
abbrev pub verdict_number_by : {E : Type 0} → (E → ℕ) → Result (Unit {0}) (Fault E) → ℕ
verdict_number_by n (Ok u) = 0
verdict_number_by n (Err f) = n f.refusal

-- the number and the line that a verdict returns
abbrev pub verdict_number : Verdict → ℕ
verdict_number = verdict_number_by number

abbrev pub verdict_line : {E : Type 0} → Result (Unit {0}) (Fault E) → ℕ
verdict_line (Ok u) = 0
verdict_line (Err f) = f.line

-- refused where there is such a line, and otherwise as the checks after it say
unfoldable pub refuse_at : Refusal → Option ℕ → Verdict → Verdict
refuse_at r None v = v
refuse_at r (Some n) v = Err (record { refusal = r; line = n })

unfoldable pub verdict_of : List ℕ → Verdict
verdict_of text =
    cond (ltb 65535 (length text)) (Err (record { refusal = TextTooLong; line = 0 }))
    (refuse_at BadLine (bad_line text)
    (refuse_at SlotTwice (entities_in text).twice
    (refuse_at EntityBreaksGroup (entities_in text).breaks
    (Ok tt))))

abbrev pub on_accepted : {A : Type 0} → Verdict → A → A → A
on_accepted (Ok u) a b = a
on_accepted (Err f) a b = b

-- a verdict with its table: refused, the empty table without groups
abbrev pub loaded_with : Verdict → Table → Loaded
loaded_with v t = record { verdict = v; table = on_accepted v t empty_table }

unfoldable pub load_of : List ℕ → Loaded
load_of text = loaded_with (verdict_of text) (table_in text)
