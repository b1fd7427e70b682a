use Rattle.std.proofs.Common.{[], ◌≡◌, ◌≤◌, length}
use Rattle.values.specs.Values.{pairs_from}
use Rattle.values.proofs.pairs.Given as goal

-- `values::pairs` meets its contract. The loop's invariant: the pairs that are left, after the bytes so far, say what all say. Assumes nothing.

abbrev pub invariant-loop-left : goal.invariant-loop-left
invariant-loop-left l = (length l.data.items ≤ l.max) × (pairs_from l.max l.data.items l.left ≡ pairs_from l.max [] l.s)

abbrev pub decreases-loop-left : goal.decreases-loop-left
decreases-loop-left l = length l.left
