use Rattle.label.specs.Tags.{common_of}
use borrow.Author.Rules.{rules}
use Rattle.label.proofs.Laws.{common_is}
use Rattle.label.proofs.common.Goals as goal

-- `label::common` meets its contract, by the law of its operation. Assumes nothing.

pub returns : goal.returns
unfolding common_of
returns c = let a = c.args in common_is 64 a.a.bits a.b.bits (search rules) (search rules)
