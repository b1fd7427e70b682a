use Rattle.std.proofs.Common.{◌≡◌, drop}
use Rattle.std.specs.List.{flat_map}
use Rattle.print.specs.Lines.{line_with}
use Rattle.page.specs.Page.{cell, page_size}
use Rattle.page.proofs.push_cells.Given as goal

-- `page::push_cells` meets its contract. The loop's invariant: the cells that are left, behind the page so far, give the whole.
-- Assumes nothing.

abbrev pub invariant-loop-n : goal.invariant-loop-n
invariant-loop-n l = line_with page_size l.page.items (flat_map cell (drop l.n-index l.numbers)) ≡ line_with page_size l.initial.page.items (flat_map cell l.numbers)
