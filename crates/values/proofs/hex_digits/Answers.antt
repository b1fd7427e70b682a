use Rattle.std.proofs.Common.{sym, ◌∙◌}
use Rattle.values.proofs.Laws.{set_end, set_none, set_step}
use Rattle.values.proofs.hex_digits.Goals as goal

pub returns-in_err-digit : goal.returns-in_err-digit
returns-in_err-digit c =
    c.from_residual.ensures ∙ sym (set_none _ _ _ c.loop-b-test.true c.in_err-digit.ensures) ∙ c.loop-b.invariant

pub loop-b-preserved : goal.loop-b-preserved
loop-b-preserved c =
    rw c.with_digit-l.ensures (sym (set_step _ _ _ _ c.loop-b-test.true c.in_ok-digit.ensures) ∙ c.loop-b.invariant)

pub returns : goal.returns
returns c = sym (set_end _ _ _ c.loop-b-test.false) ∙ c.loop-b.invariant
