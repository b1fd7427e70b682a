use Rattle.std.proofs.Common.{◌≡◌, ◌-◌, ◌≤◌, length, drop}
use Rattle.text.specs.Lines.{lines_of}
use Rattle.textblocks.specs.Blocks.{rows_bad}
use Rattle.textblocks.proofs.rows_bad.Given as goal

-- `textblocks::rows_bad` meets its contract. The loop's invariant: the first bad line of the rows that are left is that of all. Assumes nothing.

abbrev pub invariant-loop-line : goal.invariant-loop-line
invariant-loop-line l = record {
  text : l.rows.text.now ≡ l.initial.rows.text.now;
  later : l.first ≤ l.rows.place.line;
  same : rows_bad l.block l.rows.place.line (l.rows.place.line - l.first) (lines_of (drop l.rows.place.at l.rows.text.now)) ≡ rows_bad l.block l.first 0 (lines_of (drop l.initial.rows.place.at l.initial.rows.text.now));
}

abbrev pub decreases-loop-line : goal.decreases-loop-line
decreases-loop-line l = length l.rows.text.now - l.rows.place.at
