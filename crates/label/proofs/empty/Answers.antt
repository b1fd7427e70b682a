use mathlib.Core.Path.{refl}
use Rattle.label.specs.Tags.{empty}
use Rattle.label.proofs.empty.Goals as goal

-- `label::empty` meets its contract, by the definition. Assumes nothing.

pub returns : goal.returns
unfolding empty
returns c = refl
