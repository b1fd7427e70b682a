use mathlib.Core.Path.{◌∙◌}
use Rattle.textblocks.specs.CallsIn.{call_columns_in}
use Rattle.textblocks.proofs.call_columns_in.Goals as goal

-- `textblocks::call_columns_in` meets its contract. Assumes nothing.

pub returns : goal.returns
unfolding call_columns_in
returns c = c.call_columns.ensures ∙ rw (c.line_at.ensures, c.calls_at.ensures)
