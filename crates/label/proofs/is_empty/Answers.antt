use borrow.Author.Rules.{rules}
use native.Mathlib.Omega.{arith}
use Rattle.label.specs.Tags.{is_empty, equal_of, empty}
use Rattle.label.proofs.Laws.{equal_is}
use Rattle.label.proofs.is_empty.Goals as goal

-- `label::is_empty` meets its contract, by the law of `same`. Assumes nothing.

pub returns : goal.returns
unfolding is_empty equal_of empty
returns c = equal_is 64 c.args.l.bits 0 (search rules) (omega arith)
