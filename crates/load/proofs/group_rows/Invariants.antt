use Rattle.textblocks.specs.Blocks.{lines_at}
use Rattle.load.proofs.Rows.{Gathered}
use Rattle.load.proofs.group_rows.Given as goal

-- `load::group_rows` meets its contract. The loop's invariant: the rows that are left, after the groups so far, give the groups of all. Assumes nothing.

abbrev pub invariant-loop-row : goal.invariant-loop-row
invariant-loop-row l = Gathered l.columns (lines_at l.fn.rows.text.now l.fn.rows.place.at) l.table (lines_at l.row-iterator.text.now l.row-iterator.place.at)
