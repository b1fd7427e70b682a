use borrow.Author.Rules.{rules}
use Rattle.layout.specs.Struct.{slot_as, bits_of, struct_of}
use Rattle.layout.proofs.Lists.{map_of}
use Rattle.layout.proofs.write_table.Goals as goal

-- `layout::write_table` meets its contract. Assumes nothing.

pub returns : goal.returns
unfolding struct_of
returns c =
    rw (
      map_of _ slot_as c.args.table.now.entities c.fill.new.out (λ x y p. search rules) c.fill.ensures,
      map_of _ bits_of c.args.table.now.groups c.fill-2.new.out (λ x y p. search rules) c.fill-2.ensures,
    )
