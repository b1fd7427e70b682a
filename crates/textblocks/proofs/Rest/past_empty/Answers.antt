use Rattle.std.proofs.Common.{◌≡◌, ◌∙◌, sym, length, arith}
use borrow.Author.Tests.{eqb-true, eqb-false}
use Rattle.textblocks.proofs.Laws.{past_none, past_here, past_more}
use Rattle.textblocks.proofs.Rest.past_empty.Goals as goal

pub loop-row-preserved : goal.loop-row-preserved
loop-row-preserved c =
    let s = c.loop-row.self in let t = c.next.new.self in let k = c.in-Some.ensures.steps in let l = c.in-Some.row.now in
    let n : length l ≡ 0 → ⊥ = eqb-false (length l) 0 (sym c.is_empty.ensures ∙ c.if-is_empty.false) in
    record {
      text = k.0 ∙ c.loop-row.invariant.text;
      same = rw k.0 (sym (past_more s.text.now s.place t.place s.inside c.in-Some.field-0-0 l k.1 (omega arith)) ∙ c.loop-row.invariant.same);
    }

pub returns-then-is_empty : goal.returns-then-is_empty
returns-then-is_empty c =
    let s = c.loop-row.self in let k = c.in-Some.ensures.steps in let l = c.in-Some.row.now in
    let e = eqb-true (length l) 0 (sym c.is_empty.ensures ∙ c.if-is_empty.true) in
    (k.0 ∙ c.loop-row.invariant.text, sym (past_here s.text.now s.place c.next.new.self.place s.inside c.in-Some.field-0-0 l k.1 e) ∙ c.loop-row.invariant.same)

pub returns-in_default : goal.returns-in_default
returns-in_default c =
    let s = c.loop-row.self in let k = c.in_default.ensures.steps in
    (k.0 ∙ c.loop-row.invariant.text, sym (past_none s.text.now s.place c.next.new.self.place s.inside k.1) ∙ c.loop-row.invariant.same)
