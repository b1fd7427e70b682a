use Rattle.std.proofs.Common.{◌∙◌}
use Rattle.textblocks.specs.Blocks.{start}
use Rattle.load.specs.Tables.{none_stored, fill, entities_on}
use Rattle.load.proofs.Rows.{behind, fill_over}
use Rattle.load.proofs.entities_in.Goals as goal

-- `load::entities_in` meets its contract. Assumes nothing.

pub returns : goal.returns
unfolding entities_on start
returns c =
    let r = c.all-rows.result in let q = c.next.new.self in let k = c.next.ensures.steps in
    let cs = c.entity_columns-columns.result in let s = none_stored c.args.table.now in
    c.entity_rows.ensures
    ∙ rw (k.0, behind r.text.now r.place q.place r.inside (λ n ls. fill cs n s ls) s (λ n ls h. fill_over cs n s ls h) _ k.1, c.all-rows.ensures.0, c.all-rows.ensures.1, c.entity_columns-columns.ensures, c.line_at.ensures)
