use mathlib.Core.Path.{sym}
use native.Mathlib.Omega.{arith}
use Rattle.text.proofs.Fields.{by_none, by_part, by_empty, by_past, by_all}
use Rattle.text.proofs.Row.field.Goals as goal

-- `text::Row::field` meets its contract. Assumes nothing.

pub returns-then-k-ge15 : goal.returns-then-k-ge15
returns-then-k-ge15 c = sym (by_none _ _ _ c.if-k-ge15.true)

pub returns-then-b-a : goal.returns-then-b-a
returns-then-b-a c = sym (by_empty _ _ _ (omega arith) c.if-b-a.true)

pub returns-then-self-a : goal.returns-then-self-a
returns-then-self-a c = sym (by_past _ _ _ (omega arith) c.if-self-a.true)

pub returns-then-self-b : goal.returns-then-self-b
returns-then-self-b c = sym (by_all _ _ _ (omega arith) c.if-self-b.true)

pub returns : goal.returns
returns c = sym (by_part _ _ _ (omega arith))
