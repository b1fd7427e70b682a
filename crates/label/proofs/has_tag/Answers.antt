use Rattle.std.proofs.Common.{rules}
use Rattle.label.specs.Tags.{has_tag}
use Rattle.label.proofs.Laws.{has_is}
use Rattle.label.proofs.has_tag.Goals as goal

-- `label::has_tag` meets its contract, by the law of its operation. Assumes nothing.

pub returns : goal.returns
unfolding has_tag
returns c = let a = c.args in rw c.bit.ensures (has_is 64 a.l.bits a.t (search rules))
