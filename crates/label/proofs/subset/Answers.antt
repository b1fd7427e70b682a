use Rattle.label.specs.Tags.{subset_of}
use borrow.Author.Rules.{rules}
use Rattle.label.proofs.Laws.{subset_is}
use Rattle.label.proofs.subset.Goals as goal

-- `label::subset` meets its contract, by the law of its operation. Assumes nothing.

pub returns : goal.returns
unfolding subset_of
returns c = let a = c.args in subset_is 64 a.a.bits a.b.bits (search rules) (search rules)
