use Rattle.label.specs.Tags.{union_of, label_of}
use mathlib.Core.Path.{ap}
use borrow.Author.Rules.{rules}
use Rattle.label.proofs.Laws.{union_is}
use Rattle.label.proofs.union.Goals as goal

-- `label::union` meets its contract, by the law of its operation. Assumes nothing.

pub returns : goal.returns
unfolding union_of
returns c = let a = c.args in ap label_of (union_is 64 a.a.bits a.b.bits (search rules) (search rules))
