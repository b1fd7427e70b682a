use mathlib.Core.Path.{ap}
use native.Mathlib.Omega.{arith}
use Rattle.label.specs.Tags.{with_digit, digit_in, label_of}
use Rattle.label.proofs.with_digit.Goals as goal

-- `label::with_digit` meets its contract. Assumes nothing.

pub returns : goal.returns
unfolding with_digit digit_in
returns c = ap label_of (omega arith)
