use Rattle.std.proofs.Common.{rules, arith, length, take, ◌-◌}
use Rattle.stdio.proofs.Consumed.{consumes_more, filled_more}
use Rattle.stdio.proofs.Input.fill.Goals as goal

pub loop-done-preserved : goal.loop-done-preserved
loop-done-preserved g c =
    let l = c.loop-done in let n = c.in-Ok.n in let bs = c.read.new.buf in let s = c.in-Ok.ensures in
    record {
      size = search rules;
      within = search (rules, arith);
      consumed =
          rw (filled_more l.done n (length l.buf - l.done) l.buf bs l.invariant.within s.bound.0)
          (consumes_more _ _ _ (take l.done l.buf) (take n bs) l.invariant.consumed s.bytes.0);
    }
