use mathlib.Core.Path.{◌∙◌}
use Rattle.textblocks.specs.Blocks.{group_columns_in}
use Rattle.textblocks.proofs.group_columns_in.Goals as goal

-- `textblocks::group_columns_in` meets its contract. Assumes nothing.

pub returns : goal.returns
unfolding group_columns_in
returns c = c.group_columns.ensures ∙ rw (c.line_at.ensures, c.groups.ensures.1)
