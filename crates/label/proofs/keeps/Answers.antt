use Rattle.label.specs.Tags.{keeps_to}
use Rattle.label.proofs.keeps.Goals as goal

-- `label::keeps` meets its contract. Assumes nothing.

pub returns : goal.returns
unfolding keeps_to
returns c = simp c.common.ensures
