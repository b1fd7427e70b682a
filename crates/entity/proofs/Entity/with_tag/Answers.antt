use Rattle.std.proofs.Common.{rules}
use Rattle.label.specs.Tags.{with_tag}
use Rattle.entity.proofs.Entity.with_tag.Goals as goal

-- `entity::Entity::with_tag` meets its contract. Assumes nothing.

pub returns : goal.returns
returns c = c.relabel.ensures (λ l. with_tag l c.args.tag) (λ l r p. search rules)
