use Rattle.std.proofs.Common.{ap, rules, w64}
use Rattle.label.specs.Tags.{without_tag, label_of}
use Rattle.label.proofs.Laws.{without_is}
use Rattle.label.proofs.without_tag.Goals as goal

-- `label::without_tag` meets its contract, by the law of its operation. Assumes nothing.

pub returns : goal.returns
unfolding without_tag
returns c = let a = c.args in rw c.bit.ensures (ap label_of (without_is w64 a.l.bits a.t (search rules)))
