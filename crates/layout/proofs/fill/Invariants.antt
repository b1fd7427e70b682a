use Rattle.std.proofs.Common.{◌≡◌, length}
use Rattle.layout.proofs.Lists.{Filled}
use Rattle.layout.proofs.fill.Given as goal

-- `layout::fill` meets its contract. The loop's invariant: the elements passed are filled. Assumes nothing.

abbrev pub invariant-loop-i : goal.invariant-loop-i
invariant-loop-i g l = (length l.out ≡ g.row.N) × Filled (λ x y. g.F.Fn.post l.f (x, tt) y) l.xs l.out l.i
