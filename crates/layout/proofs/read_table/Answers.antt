use borrow.Author.Rules.{rules}
use Rattle.label.specs.Tags.{label_of}
use Rattle.layout.specs.Struct.{slot_entity, table_of}
use Rattle.layout.proofs.Lists.{map_of}
use Rattle.layout.proofs.read_table.Goals as goal

-- `layout::read_table` meets its contract. Assumes nothing.

pub returns : goal.returns
unfolding table_of
returns c =
    rw (
      map_of _ slot_entity c.args.t.now.slots c.fill.new.out (λ x y p. search rules) c.fill.ensures,
      map_of _ label_of c.args.t.now.groups c.fill-2.new.out (λ x y p. search rules) c.fill-2.ensures,
    )
