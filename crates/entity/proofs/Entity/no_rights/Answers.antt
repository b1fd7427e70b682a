use Rattle.label.specs.Tags.{is_empty}
use Rattle.entity.proofs.Entity.no_rights.Goals as goal

-- `entity::Entity::no_rights` meets its contract. Assumes nothing.

pub returns : goal.returns
unfolding is_empty
returns c =
    simp (
      c.is_empty-4.ensures,
      c.is_empty-3.ensures,
      c.is_empty-2.ensures,
      c.is_empty.ensures,
    )
