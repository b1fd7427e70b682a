use Rattle.hubffi_c.specs.Answers.{loaded_as}
use Rattle.hubffi_c.proofs.hub_load.Goals as goal

-- `hubffi_c::hub_load` meets its contract. Assumes nothing.

pub returns : goal.returns
unfolding loaded_as
returns c = cc
