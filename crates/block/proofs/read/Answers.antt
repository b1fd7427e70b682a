use Rattle.std.proofs.Common.{ap, ◌∙◌}
use Rattle.block.specs.Block.{padded}
use Rattle.block.proofs.Padding.{padded_at}
use Rattle.block.proofs.read.Goals as goal

-- `block::read` meets its contract. Assumes nothing.

pub returns : goal.returns
returns c = let a = c.args in c.pad.ensures ∙ ap padded c.bytes_of.ensures ∙ padded_at a.content.now a.slot
