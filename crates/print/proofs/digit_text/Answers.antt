use Rattle.std.proofs.Common.{arith, lt-ltb, le-ltb}
use Rattle.print.specs.Lines.{digit_text}
use Rattle.print.proofs.digit_text.Goals as goal

pub returns-in-0-to-9 : goal.returns-in-0-to-9
unfolding digit_text
returns-in-0-to-9 c = rw (lt-ltb c.args.n 10 (omega arith))

pub returns-in_default : goal.returns-in_default
unfolding digit_text
returns-in_default c = rw (le-ltb c.args.n 10 (omega arith))
