use Rattle.page.proofs.Pages.{Rows}
use Rattle.page.proofs.page_of.Given as goal

-- `page::page_of` meets its contract. The loop's invariant: the page so far and the rows that are left give the whole. Assumes nothing.

abbrev pub invariant-loop-caller : goal.invariant-loop-caller
invariant-loop-caller l = Rows l.tally l.page.items l.caller
