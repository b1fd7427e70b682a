use Rattle.std.proofs.Common.{ℕ, List, ◌∙◌, ap, ap₂, Option}
use Rattle.std.specs.Option.{option_or}
use Rattle.text.specs.Lines.{fields_in}
use Rattle.rows.specs.Entities.{entity_columns}
use Rattle.textblocks.specs.declared.Place.{Place}
use Rattle.textblocks.specs.declared.Block.{Block}
use Rattle.textblocks.specs.Blocks.{start, names_at, group_columns_in, is_header, block_bad, entities_bad, groups_bad, calls_bad, bad_line}
use Rattle.textblocks.specs.CallsIn.{call_columns_in}
use Rattle.textblocks.proofs.bad_line.Goals as goal

-- `textblocks::bad_line` meets its contract. Assumes nothing.

abbrev bad : Block → List ℕ → Place → Option ℕ
bad b text p = block_bad b (is_header b (names_at text p)) text p

pub returns : goal.returns
unfolding bad_line entities_bad groups_bad calls_bad group_columns_in call_columns_in start
returns c =
    let all = c.all.ensures in
    let groups = c.groups.ensures in
    let calls = c.calls.ensures in
    let columns = c.entity_columns-columns.ensures ∙ ap (λ (l : List ℕ). entity_columns (fields_in l)) c.line_at.ensures in
    c.or-2.ensures ∙ ap₂ option_or
    (c.or.ensures ∙ ap₂ option_or
    (c.block_bad-entities.ensures ∙ (λ i. bad (Block.Entities (columns i)) (all.0 i) (all.1 i)))
    (c.block_bad-groups.ensures ∙ (λ i. bad (Block.Groups (c.group_columns_in.ensures i)) (groups.0 i) (groups.1 i))))
    (c.block_bad-calls.ensures ∙ (λ i. bad (Block.Calls (c.call_columns_in.ensures i)) (calls.0 i) (calls.1 i)))
