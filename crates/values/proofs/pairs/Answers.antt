use Rattle.std.proofs.Common.{◌≡◌, sym, ap, ◌∙◌, ◌+◌, arith, length, length-append}
use borrow.Author.Tests.{eqb-true, eqb-false}
use Rattle.values.proofs.Laws.{digit_below, pairs_end, pairs_odd, pairs_high, pairs_low, pairs_full, pairs_step}
use Rattle.values.proofs.pairs.Goals as goal

pub returns-in_err-digit : goal.returns-in_err-digit
returns-in_err-digit c =
    rw c.from_residual.ensures (sym (pairs_high _ _ _ c.in-len2-up.len_at_least c.in_err-digit.ensures) ∙ c.loop-left.invariant.1)

pub overflow_mul-b : goal.overflow_mul-b
overflow_mul-b c = let x = digit_below _ _ c.in_ok-digit.ensures in omega arith

pub returns-in_err-b : goal.returns-in_err-b
returns-in_err-b c =
    rw c.from_residual-in_err-b.ensures (sym (pairs_low _ _ _ _ c.in-len2-up.len_at_least c.in_ok-digit.ensures c.in_err-b.ensures) ∙ c.loop-left.invariant.1)

pub overflow_add-b : goal.overflow_add-b
overflow_add-b c = let x = digit_below _ _ c.in_ok-digit.ensures in let y = digit_below _ _ c.in_ok-b.ensures in omega arith

pub returns-then-from-len : goal.returns-then-from-len
returns-then-from-len c =
    sym (pairs_full _ _ _ _ _ c.in_ok-digit.ensures c.in_ok-b.ensures c.in-len2-up.len_at_least (omega arith)) ∙ c.loop-left.invariant.1

pub loop-left-preserved : goal.loop-left-preserved
loop-left-preserved c =
    let l = c.loop-left in let put = c.in_ok-try_push.ensures.items in
    let long : length c.try_push.new.self.items ≡ length l.data.items + 1 = ap length put ∙ length-append l.data.items _ in (
      omega (arith, long),
      rw put (sym (pairs_step _ l.data.items _ _ _ c.in_ok-digit.ensures c.in_ok-b.ensures c.in-len2-up.len_at_least (omega arith)) ∙ l.invariant.1),
    )

pub returns-then-is_empty : goal.returns-then-is_empty
returns-then-is_empty c = sym (pairs_end _ _ _ (eqb-true _ 0 (sym c.if-is_empty.ensures))) ∙ c.loop-left.invariant.1

pub returns-else-is_empty : goal.returns-else-is_empty
returns-else-is_empty c =
    sym (pairs_odd _ _ _ (omega (arith, eqb-false (length c.loop-left.left.now) 0 (sym c.if-is_empty.ensures)))) ∙ c.loop-left.invariant.1
