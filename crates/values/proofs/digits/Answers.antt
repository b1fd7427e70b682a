use Rattle.std.proofs.Common.{arith, sym, ◌∙◌}
use Rattle.std.proofs.lemmas.Bool.Decides.{nat_tests}
use Rattle.values.proofs.Laws.{dec_end, dec_none, dec_step}
use Rattle.values.proofs.digits.Goals as goal

pub returns-in_err-d : goal.returns-in_err-d
returns-in_err-d c =
    c.from_residual.ensures ∙ sym (dec_none _ _ _ _ c.loop-b-test.true c.in_err-d.ensures) ∙ c.loop-b.invariant.1

pub returns-then-d-ge10 : goal.returns-then-d-ge10
returns-then-d-ge10 c =
    let e = dec_step c.args.max c.loop-b.n c.args.s.now c.loop-b.b-index c.in_ok-d.d c.loop-b-test.true c.in_ok-d.ensures in grind (arith, nat_tests)

pub loop-b-preserved : goal.loop-b-preserved
loop-b-preserved c =
    let e = dec_step c.args.max c.loop-b.n c.args.s.now c.loop-b.b-index c.in_ok-d.d c.loop-b-test.true c.in_ok-d.ensures in grind (arith, nat_tests)

pub returns : goal.returns
returns c = sym (dec_end _ _ _ _ c.loop-b-test.false) ∙ c.loop-b.invariant.1
