use Rattle.std.proofs.Common.{sym, ap, arith, option_map}
use Rattle.text.specs.Split.{Starts}
use Rattle.callrows.specs.Calls.{as_call_row}
use Rattle.callrows.proofs.Laws.{row_short}
use Rattle.callrows.proofs.call_row.Goals as goal

-- `callrows::call_row` meets its contract. Assumes nothing.

pub returns-then-row-ne6 : goal.returns-then-row-ne6
returns-then-row-ne6 c =
    ap (option_map as_call_row) (sym (row_short c.args.columns c.args.row.now (omega (arith, ap (λ (s : Starts). s.count) c.split-row.ensures.fields))))
