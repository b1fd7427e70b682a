use Rattle.std.proofs.Common.{◌≡◌, ◌+◌, ◌-◌, ◌≤◌, ◌<◌, ◌∙◌, sym, ap, length, arith, false, ◌&&◌, not}
use lib.Dec.{eqb, leb}
use borrow.Author.Tests.{le-leb, lt-leb}
use Rattle.textblocks.specs.declared.Place.{Place}
use Rattle.textblocks.specs.Blocks.{is_last}
use Rattle.textblocks.proofs.Laws.{Took, took, rows_over, rows_empty, rows-bad, rows_step}
use Rattle.textblocks.proofs.rows_bad.Goals as goal
use Rattle.textblocks.proofs.rows_bad.Goals.{After-row_good, else-not-last-via-then-not-last+else-is_empty, else-not-last-via-else-not-last, else-last-via-then-last+else-rows, else-last-via-else-last}

-- a row that is none of an empty line that ends the block
module _ (c : After-row_good) where
  abbrev line_taken : Took c.loop-line.rows.text.now c.loop-line.rows.place c.in-Some.line c.in-Some.row.now c.next.new.self.place
  line_taken = took c.loop-line.rows.text.now c.loop-line.rows.place c.next.new.self.place c.loop-line.rows.inside c.in-Some.line c.in-Some.row.now c.in-Some.ensures.steps.1

  goes_on : (not (is_last c.args.block) && eqb (length c.in-Some.row.now) 0) ≡ false
  goes_on = elim c.else-not-last.branch [
    | else-not-last-via-then-not-last+else-is_empty w ↦ rw (← c.is_last-last.ensures, w.if-not-last.true, ← w.is_empty.ensures) w.if-is_empty.false
    | else-not-last-via-else-not-last w ↦ rw (← c.is_last-last.ensures, w.if-not-last.false)
  ]

pub returns-then-is_empty : goal.returns-then-is_empty
returns-then-is_empty c =
    let l = c.loop-line in let s = l.rows in let k = c.in-Some.ensures.steps in
    let t = took s.text.now s.place c.next.new.self.place s.inside c.in-Some.line c.in-Some.row.now k.1 in
    sym (rows_empty c.args.block s.place.line (s.place.line - c.args.rows.place.line) t.is (rw (← c.is_last-last.ensures, c.if-not-last.true, ← c.is_empty.ensures) c.if-is_empty.true)) ∙ l.invariant.same

pub returns-then-not-row_good : goal.returns-then-not-row_good
returns-then-not-row_good c =
    let k = (goal.at.returns-then-not-row_good c).After-row_good in let l = c.loop-line in let s = l.rows in
    let t = line_taken k in
    rw t.number (sym (rows-bad c.args.block s.place.line (s.place.line - c.args.rows.place.line) t.is (goes_on k) (rw (← t.number) (sym c.row_good.ensures ∙ c.if-not-row_good.true))) ∙ l.invariant.same)

pub loop-line-preserved : goal.loop-line-preserved
loop-line-preserved c =
    let k = (goal.at.loop-line-preserved c).After-row_good in let l = c.loop-line in let s = l.rows in let q = c.next.new.self in
    let t = line_taken k in
    let n : q.place.line - c.args.rows.place.line ≡ s.place.line - c.args.rows.place.line + 1 = omega (arith, t.next, l.invariant.later) in
    record {
      text = c.in-Some.ensures.steps.0 ∙ l.invariant.text;
      later = omega (arith, t.next, l.invariant.later);
      same =
          rw (c.in-Some.ensures.steps.0, n, t.next)
          (sym (rows_step c.args.block s.place.line (s.place.line - c.args.rows.place.line) t.is (goes_on k) (rw (← t.number) (sym c.row_good.ensures ∙ c.if-not-row_good.false))) ∙ l.invariant.same);
    }

pub returns-then-rows : goal.returns-then-rows
returns-then-rows c =
    let l = c.loop-line in let s = l.rows in let q = c.next.new.self in let k = c.in_default.ensures.steps in
    let e = rows_over c.args.block s.place.line (s.place.line - c.args.rows.place.line) s.text.now s.place q.place s.inside k.1 in
    let a : length s.text.now ≤ s.place.at = rw (← k.0, ← ap (λ (p : Place). p.at) k.1.1) c.if-rows.true in
    sym (e ∙ rw (← c.is_last-last.ensures, c.if-last.true, le-leb _ _ a)) ∙ l.invariant.same

pub returns-else-last : goal.returns-else-last
returns-else-last c =
    let l = c.loop-line in let s = l.rows in let q = c.next.new.self in let k = c.in_default.ensures.steps in
    let e = rows_over c.args.block s.place.line (s.place.line - c.args.rows.place.line) s.text.now s.place q.place s.inside k.1 in
    let b : (is_last c.args.block && leb (length s.text.now) s.place.at) ≡ false = elim c.else-last.branch [
      | else-last-via-then-last+else-rows w ↦
          let a : s.place.at < length s.text.now = rw (← k.0, ← ap (λ (p : Place). p.at) k.1.1) w.if-rows.false in
          rw (← c.is_last-last.ensures, w.if-last.true, lt-leb _ _ a)
      | else-last-via-else-last w ↦ rw (← c.is_last-last.ensures, w.if-last.false)
    ] in
    rw k.1.1 (sym (e ∙ rw b) ∙ l.invariant.same)
