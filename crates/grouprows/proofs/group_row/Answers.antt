use Rattle.std.proofs.Common.{sym, ap, arith}
use Rattle.text.specs.Split.{Starts}
use Rattle.grouprows.proofs.Laws.{row_short}
use Rattle.grouprows.proofs.group_row.Goals as goal

-- `grouprows::group_row` meets its contract. Assumes nothing.

pub returns-then-row-fields_needed : goal.returns-then-row-fields_needed
returns-then-row-fields_needed c = sym (row_short c.args.columns c.args.row.now (omega (arith, ap (λ (s : Starts). s.count) c.split-row.ensures.fields, c.fields_needed.ensures)))
