use Rattle.std.proofs.Common.{ap, rules}
use Rattle.label.specs.Tags.{with_tag, label_of}
use Rattle.label.proofs.Laws.{with_is}
use Rattle.label.proofs.with_tag.Goals as goal

-- `label::with_tag` meets its contract, by the law of its operation. Assumes nothing.

pub returns : goal.returns
unfolding with_tag
returns c = let a = c.args in rw c.bit.ensures (ap label_of (with_is 64 a.l.bits a.t (search rules)))
