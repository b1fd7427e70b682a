use Rattle.std.proofs.Common.{sym, ap, arith, option_map}
use Rattle.text.specs.Split.{Starts}
use Rattle.rows.specs.Entities.{as_entity_row}
use Rattle.rows.proofs.Laws.{row_short}
use Rattle.rows.proofs.entity_row.Goals as goal

-- `rows::entity_row` meets its contract. Assumes nothing.

pub returns-then-row-ne9 : goal.returns-then-row-ne9
returns-then-row-ne9 c =
    ap (option_map as_entity_row) (sym (row_short c.args.columns c.args.row.now (omega (arith, ap (λ (s : Starts). s.count) c.split-row.ensures.fields))))
