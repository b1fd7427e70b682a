use Rattle.label.specs.Tags.{is_empty}
use Rattle.entity.proofs.Entity.is_formed.Goals as goal

-- `entity::Entity::is_formed` meets its contract. Assumes nothing.

pub returns-in-Free : goal.returns-in-Free
unfolding is_empty
returns-in-Free c =
    simp (c.in-Free.is, c.no_rights.ensures, c.is_empty-in-Free.ensures, c.is_empty.ensures)
