use Rattle.std.proofs.Common.{◌≡◌, ◌∙◌, sym, ap, ap₂, ◌+◌, ℕ, Some}
use Rattle.text.specs.Lines.{fields_in}
use Rattle.rules.specs.Table.{is_free, keeps_all}
use Rattle.entity.specs.declared.Entity.{Entity}
use Rattle.entity.specs.Entity.{bare}
use Rattle.monitor.specs.Table.{entity_at, groups_of, with_slot}
use Rattle.rows.specs.declared.EntityRow.{EntityRow}
use Rattle.rows.specs.Entities.{EntitySaid, entity_of, as_entity_row}
use Rattle.textblocks.specs.Blocks.{lines_at}
use Rattle.textblocks.proofs.Laws.{Took, took}
use Rattle.load.specs.Tables.{breaks_at, with_entity, fill}
use Rattle.load.proofs.Rows.{none_left, fill_over, fill_none, fill_twice, fill_step}
use Rattle.load.proofs.EntityLines.{row_said, row_none}
use Rattle.load.proofs.entity_rows.Invariants.{so_far}
use Rattle.load.proofs.entity_rows.Goals as goal
use Rattle.load.proofs.entity_rows.Goals.{In-Some, After-is_free, then-not-keeps_all, else-not-keeps_all}

-- a row that was taken
module _ (c : In-Some) where
  line_taken : Took c.loop-line.line-iterator.text.now c.loop-line.line-iterator.place c.in-Some.line c.in-Some.row.now c.next.new.self.place
  line_taken = took c.loop-line.line-iterator.text.now c.loop-line.line-iterator.place c.next.new.self.place c.loop-line.line-iterator.inside c.in-Some.line c.in-Some.row.now c.in-Some.ensures.steps.1

-- it has an entity, and whether its slot is free
module _ (c : After-is_free) where
  read : (y : EntitySaid) × (entity_of c.args.columns (fields_in c.in-Some.row.now) ≡ Some y) × (c.in-Some-entity_row.said ≡ as_entity_row y)
  read = row_said c.in-Some-entity_row.said (entity_of c.args.columns (fields_in c.in-Some.row.now)) (sym c.entity_row.ensures ∙ c.in-Some-entity_row.is)

  free : is_free (entity_at c.loop-line.table read.0.slot).kind ≡ c.is_free.result
  free = ap (λ (r : EntityRow). is_free (entity_at c.loop-line.table r.slot).kind) (sym read.2) ∙ ap (λ (x : Entity). is_free x.kind) (sym c.entity.ensures) ∙ sym c.is_free.ensures

pub returns-in-None : goal.returns-in-None
returns-in-None c =
    let l = c.loop-line in let i = l.line-iterator in
    sym (fill_over c.args.columns i.place.line (so_far l.breaks l.table) _ (none_left i.text.now i.place c.next.new.self.place i.inside c.in-None.ensures.steps.1)) ∙ l.invariant

pub returns-in_default : goal.returns-in_default
returns-in_default c =
    let l = c.loop-line in let t = line_taken (goal.at.returns-in_default c).In-Some in
    sym (fill_none c.args.columns l.line-iterator.place.line (so_far l.breaks l.table) t.is (row_none _ (sym c.entity_row.ensures ∙ c.in_default.is))) ∙ l.invariant

pub returns-then-not-is_free : goal.returns-then-not-is_free
returns-then-not-is_free c =
    let l = c.loop-line in let t = line_taken (goal.at.returns-then-not-is_free c).In-Some in let k = (goal.at.returns-then-not-is_free c).After-is_free in
    let y = read k in
    rw t.number (sym (fill_twice c.args.columns l.line-iterator.place.line (so_far l.breaks l.table) t.is y.0 y.1 (free k ∙ c.if-not-is_free.true)) ∙ l.invariant)

pub loop-line-preserved : goal.loop-line-preserved
unfolding with_entity breaks_at
loop-line-preserved c =
    let l = c.loop-line in let t = line_taken (goal.at.loop-line-preserved c).In-Some in let k = (goal.at.loop-line-preserved c).After-is_free in
    let y = read k in let s = c.in-Some-entity_row.said in let q = c.next.new.self in
    let b : c.if-not-keeps_all.breaks ≡ breaks_at l.breaks (keeps_all (groups_of l.table) (bare s.entity)) c.in-Some.line = elim c.if-not-keeps_all.branch [
      | then-not-keeps_all w ↦ w.breaks-is ∙ w.or-breaks.ensures ∙ rw (← c.keeps_all.ensures, w.if-not-keeps_all.true)
      | else-not-keeps_all w ↦ w.breaks-is ∙ rw (← c.keeps_all.ensures, w.if-not-keeps_all.false)
    ] in
    let w = c.set_slot.ensures ∙ ap (λ (r : EntityRow). with_slot l.table r.slot r.entity r.block) y.2 in
    let d = b ∙ ap₂ (λ (r : EntityRow) (n : ℕ). breaks_at l.breaks (keeps_all (groups_of l.table) (bare r.entity)) n) y.2 t.number in
    rw (c.in-Some.ensures.steps.0, t.next)
    ((λ i. fill c.args.columns (l.line-iterator.place.line + 1) (so_far (d i) (w i)) (lines_at l.line-iterator.text.now q.place.at))
    ∙ sym (fill_step c.args.columns l.line-iterator.place.line (so_far l.breaks l.table) t.is y.0 y.1 (free k ∙ c.if-not-is_free.false)) ∙ l.invariant)
