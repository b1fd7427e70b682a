use mathlib.Core.Path.{sym}
use native.Mathlib.Omega.{arith}
use Rattle.text.proofs.Laws.{line_ends, line-part, line-none}
use Rattle.text.proofs.line_at.Goals as goal

-- `text::line_at` meets its contract. Assumes nothing.

pub returns-then-text-at : goal.returns-then-text-at
returns-then-text-at c = sym (line-none c.args.text.now c.args.at c.if-text-at.true)

pub slice_bounds-result-count : goal.slice_bounds-result-count
slice_bounds-result-count c = let e = line_ends c.args.text.now c.args.at c.line_end-end.result (omega arith) c.line_end-end.ensures in omega arith

pub slice_bounds-result-start : goal.slice_bounds-result-start
slice_bounds-result-start c = let e = line_ends c.args.text.now c.args.at c.line_end-end.result (omega arith) c.line_end-end.ensures in omega arith

pub slice_bounds-result-end-2 : goal.slice_bounds-result-end-2
slice_bounds-result-end-2 c = let e = line_ends c.args.text.now c.args.at c.line_end-end.result (omega arith) c.line_end-end.ensures in omega arith

pub returns : goal.returns
returns c = line-part c.args.text.now c.args.at c.line_end-end.result c.line_end-end.ensures
