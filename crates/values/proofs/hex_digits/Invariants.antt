use Rattle.std.proofs.Common.{◌≡◌, drop}
use Rattle.label.specs.Tags.{empty}
use Rattle.values.specs.Values.{set_from}
use Rattle.values.proofs.hex_digits.Given as goal

-- `values::hex_digits` meets its contract. The loop's invariant: the digits that are left, after the set so far, say what all say. Assumes nothing.

abbrev pub invariant-loop-b : goal.invariant-loop-b
invariant-loop-b l = set_from l.l (drop l.b-index l.s) ≡ set_from empty l.s
