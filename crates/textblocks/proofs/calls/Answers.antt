use Rattle.std.proofs.Common.{◌∙◌}
use Rattle.textblocks.specs.Blocks.{calls_at}
use Rattle.textblocks.proofs.calls.Goals as goal

-- `textblocks::calls` meets its contract. Assumes nothing.

pub returns : goal.returns
unfolding calls_at
returns c = (c.past_empty.ensures.0 ∙ c.groups.ensures.0, c.past_empty.ensures.1 ∙ rw (c.groups.ensures.0, c.groups.ensures.1))
