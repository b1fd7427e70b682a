use mathlib.Core.Path.{refl}
use Rattle.block.specs.Block.{no_block}
use Rattle.block.proofs.empty.Goals as goal

-- `block::empty` meets its contract. Assumes nothing.

pub returns : goal.returns
unfolding no_block
returns c = refl
