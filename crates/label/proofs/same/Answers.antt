use Rattle.std.proofs.Common.{◌∙◌, rules}
use Rattle.label.specs.Tags.{equal_of}
use Rattle.label.proofs.Laws.{equal_is}
use Rattle.label.proofs.same.Goals as goal

-- `label::same` meets its contract, by the law of its operation. Assumes nothing.

pub returns : goal.returns
unfolding equal_of
returns c = let a = c.args in c.eq.ensures ∙ equal_is 64 a.a.bits a.b.bits (search rules) (search rules)
