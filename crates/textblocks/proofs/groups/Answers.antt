use Rattle.std.proofs.Common.{◌∙◌}
use Rattle.textblocks.specs.Blocks.{groups_at}
use Rattle.textblocks.proofs.groups.Goals as goal

-- `textblocks::groups` meets its contract. Assumes nothing.

pub returns : goal.returns
unfolding groups_at
returns c = (c.past_empty.ensures.0 ∙ c.all.ensures.0, c.past_empty.ensures.1 ∙ rw (c.all.ensures.0, c.all.ensures.1))
