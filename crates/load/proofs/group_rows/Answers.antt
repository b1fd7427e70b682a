use Rattle.std.proofs.Common.{◌≡◌, ◌∙◌, sym, ap, [], ◌∷◌, ◌++◌, length, arith, Some}
use Rattle.monitor.specs.declared.Table.{Table}
use Rattle.monitor.specs.Table.{empty_with}
use Rattle.text.specs.Lines.{fields_in}
use Rattle.grouprows.specs.Groups.{group_of}
use Rattle.textblocks.proofs.Laws.{Took, took}
use Rattle.monitor.proofs.Empty.{empty-none}
use Rattle.load.proofs.Rows.{none_left, groups_over, groups_none, groups_full, groups_step, empty-count, empty-more}
use Rattle.load.proofs.group_rows.Goals as goal
use Rattle.load.proofs.group_rows.Goals.{In-Some, In-Some-group_row}

-- a row that was taken
module _ (c : In-Some) where
  line_taken : Took c.loop-row.row-iterator.text.now c.loop-row.row-iterator.place c.in-Some.field-0-0 c.in-Some.row.now c.next.new.self.place
  line_taken = took c.loop-row.row-iterator.text.now c.loop-row.row-iterator.place c.next.new.self.place c.loop-row.row-iterator.inside c.in-Some.field-0-0 c.in-Some.row.now c.in-Some.ensures.steps.1

-- how many groups the table has
module _ (c : In-Some-group_row) where
  count : c.loop-row.table.count ≡ length c.loop-row.invariant.gs
  count = ap (λ (t : Table). t.count) c.loop-row.invariant.kept ∙ empty-count c.loop-row.invariant.gs

  is_group : group_of c.args.columns (fields_in c.in-Some.row.now) ≡ Some c.in-Some-group_row.group
  is_group = sym c.group_row.ensures ∙ c.in-Some-group_row.is

pub loop-row-init : goal.loop-row-init
loop-row-init c = record { gs = []; kept = c.requires ∙ sym empty-none; says = rw c.into_iter-row-iterator.ensures.into_iter_gives }

pub loop-row-preserved : goal.loop-row-preserved
loop-row-preserved c =
    let t = line_taken (goal.at.loop-row-preserved c).In-Some in let k = (goal.at.loop-row-preserved c).In-Some-group_row in
    let g = c.loop-row.invariant in let m = c.in-Some-group_row.group in
    record {
      gs = g.gs ++ (m ∷ []);
      kept = empty-more c.loop-row.table g.gs m g.kept (omega (arith, count k));
      says = rw c.in-Some.ensures.steps.0 (sym (groups_step c.args.columns g.gs t.is m (is_group k) (omega (arith, count k))) ∙ g.says);
    }

pub returns-in-None : goal.returns-in-None
returns-in-None c =
    let g = c.loop-row.invariant in let i = c.loop-row.row-iterator in
    g.kept ∙ ap empty_with (sym (groups_over c.args.columns g.gs _ (none_left i.text.now i.place c.next.new.self.place i.inside c.in-None.ensures.steps.1)) ∙ g.says)

pub returns-in_default : goal.returns-in_default
returns-in_default c =
    let g = c.loop-row.invariant in let t = line_taken (goal.at.returns-in_default c).In-Some in
    g.kept ∙ ap empty_with (sym (groups_none c.args.columns g.gs t.is (sym c.group_row.ensures ∙ c.in_default.is)) ∙ g.says)

pub returns-then-count-ge8 : goal.returns-then-count-ge8
returns-then-count-ge8 c =
    let g = c.loop-row.invariant in let k = (goal.at.returns-then-count-ge8 c).In-Some-group_row in let t = line_taken (goal.at.returns-then-count-ge8 c).In-Some in
    g.kept ∙ ap empty_with (sym (groups_full c.args.columns g.gs t.is c.in-Some-group_row.group (is_group k) (omega (arith, count k))) ∙ g.says)
