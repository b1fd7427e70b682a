use Rattle.std.proofs.Common.{◌≡◌, ◌∙◌, sym, ap, ℕ, Option, Ok}
use Rattle.rules.specs.declared.Refusal.TheVariants.{BadLine, SlotTwice}
use Rattle.textblocks.specs.Blocks.{bad_line}
use Rattle.load.specs.Load.{refuse_at}
use Rattle.load.proofs.Verdicts.{goes_on, stops, err_is}
use Rattle.load.proofs.verdict.Goals as goal
use Rattle.load.proofs.verdict.Goals.{After-refuse_at}

-- `load::verdict` meets its contract. Assumes nothing.

module _ (c : After-refuse_at) where
  check : refuse_at BadLine (bad_line c.args.text.now) (Ok tt) ≡ c.refuse_at.result
  check = ap (λ (l : Option ℕ). refuse_at BadLine l (Ok tt)) (sym c.bad_line.ensures) ∙ sym c.refuse_at.ensures

pub returns-in_err-refuse_at : goal.returns-in_err-refuse_at
returns-in_err-refuse_at c =
    let f = c.in_err-refuse_at.field-0.0 in
    err_is c.from_residual.result f c.from_residual.ensures ∙ sym (stops BadLine _ _ f (check (goal.at.returns-in_err-refuse_at c).After-refuse_at ∙ c.in_err-refuse_at.was))

pub returns-in_err-refuse_at-2 : goal.returns-in_err-refuse_at-2
returns-in_err-refuse_at-2 c =
    let f = c.in_err-refuse_at-2.field-0.0 in
    err_is c.from_residual-in_err-refuse_at-2.result f c.from_residual-in_err-refuse_at-2.ensures
    ∙ sym (goes_on BadLine _ _ (check (goal.at.returns-in_err-refuse_at-2 c).After-refuse_at ∙ c.in_ok-refuse_at.was) ∙ stops SlotTwice _ _ f (sym c.refuse_at-2.ensures ∙ c.in_err-refuse_at-2.was))

pub returns : goal.returns
returns c =
    c.refuse_at-3.ensures
    ∙ sym (goes_on BadLine _ _ (check (goal.at.returns c).After-refuse_at ∙ c.in_ok-refuse_at.was) ∙ goes_on SlotTwice _ _ (sym c.refuse_at-2.ensures ∙ c.in_ok-refuse_at-2.was))
