use Rattle.std.proofs.Common.{rules, arith, ap, ◌∙◌, List, ℕ}
use Rattle.print.specs.Lines.{line_with}
use Rattle.page.specs.Page.{page_size}
use Rattle.page.specs.Claims.{names}
use Rattle.page.proofs.Pages.{no_rows, rows_more}
use Rattle.page.proofs.page_of.Goals as goal

pub loop-caller-init : goal.loop-caller-init
loop-caller-init c = no_rows c.args.tally.now _ (c.push_bytes.ensures ∙ ap (λ (x : List ℕ). line_with page_size x names) c.new-page.ensures)

pub loop-caller-preserved : goal.loop-caller-preserved
loop-caller-preserved c = rows_more c.args.tally.now c.loop-caller.invariant c.push_row.new.page.items _ (search (rules, arith)) (search rules) c.push_row.ensures.text c.push_row.ensures.short
