use Rattle.std.proofs.Common.{refl}
use Rattle.textblocks.specs.Blocks.{start}
use Rattle.textblocks.proofs.Rest.all.Goals as goal

-- `textblocks::Rest::all` meets its contract. Assumes nothing.

pub returns : goal.returns
unfolding start
returns c = (refl, refl)
