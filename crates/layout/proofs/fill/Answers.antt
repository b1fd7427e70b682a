use Rattle.layout.proofs.Lists.{filled_all}
use Rattle.layout.proofs.fill.Goals as goal

-- `layout::fill` meets its contract. Assumes nothing.

pub returns : goal.returns
returns g c =
    let v = c.loop-i.invariant in
    filled_all (λ x y. g.F.Fn.post c.args.f (x, tt) y) c.args.xs.now c.loop-i.out g.row.N c.loop-i.i c.told-xs v.0 c.loop-i-test.false v.1
