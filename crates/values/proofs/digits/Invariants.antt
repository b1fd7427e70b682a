use Rattle.std.proofs.Common.{◌≡◌, ◌≤◌, drop}
use Rattle.values.specs.Values.{decimal_from}
use Rattle.values.proofs.digits.Given as goal

-- `values::digits` meets its contract. The loop's invariant: the digits that are left, after the number so far, say what all say. Assumes nothing.

abbrev pub invariant-loop-b : goal.invariant-loop-b
invariant-loop-b l = (l.n ≤ l.max) × (decimal_from l.max l.n (drop l.b-index l.s) ≡ decimal_from l.max 0 l.s)
