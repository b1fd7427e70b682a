use Rattle.std.proofs.Common.{ap, sym, ◌∙◌, rules}
use Rattle.std.specs.Slice.Iter.{chunks_exact_rest}
use Rattle.tally.specs.Tally.{counted_all, records_of}
use Rattle.tally.proofs.Counting.{counted_more}
use Rattle.tally.proofs.Tally.with_records.Goals as goal

pub loop-entry-preserved : goal.loop-entry-preserved
loop-entry-preserved c =
    let l = c.loop-entry in let x = c.in-Some.entry.now in let s = c.in-Some.ensures.steps in let rest = chunks_exact_rest c.next.new.self in
    record {
      can = search rules;
      finite = search rules;
      size = s.0 ∙ l.invariant.size;
      counted =
          ap (λ t. counted_all t (records_of rest)) c.count.ensures
          ∙ sym (counted_more l.self x rest (s.1.1 ∙ l.invariant.size))
          ∙ ap (λ y. counted_all l.self (records_of y)) (sym s.1.0) ∙ l.invariant.counted;
    }
