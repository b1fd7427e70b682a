use Rattle.std.proofs.Common.{rules}
use Rattle.label.specs.Tags.{without_tag}
use Rattle.entity.proofs.Entity.without_tag.Goals as goal

-- `entity::Entity::without_tag` meets its contract. Assumes nothing.

pub returns : goal.returns
returns c = c.relabel.ensures (λ l. without_tag l c.args.tag) (λ l r p. search rules)
