use Rattle.std.proofs.Common.{◌∙◌, ap, []}
use Rattle.monitor.specs.Table.{empty_with}
use Rattle.load.specs.Tables.{groups_from, groups_in}
use Rattle.load.proofs.Rows.{behind, groups_over}
use Rattle.load.proofs.groups_in.Goals as goal

-- `load::groups_in` meets its contract. Assumes nothing.

pub returns : goal.returns
unfolding groups_in
returns c =
    let r = c.groups-rows.result in let q = c.next.new.self in let k = c.next.ensures.steps in let cs = c.group_columns_in-columns.result in
    c.group_rows.ensures ∙ rw k.0 (ap empty_with (behind r.text.now r.place q.place r.inside (λ n ls. groups_from cs [] ls) [] (λ n ls h. groups_over cs [] ls h) _ k.1)
    ∙ rw (c.groups-rows.ensures.0, c.groups-rows.ensures.1, c.group_columns_in-columns.ensures))
