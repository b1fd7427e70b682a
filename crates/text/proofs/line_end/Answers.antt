use mathlib.Core.Path.{◌≡◌, sym, ◌∙◌}
use native.Mathlib.Omega.{arith}
use lib.ListN.{drop, length-drop}
use Rattle.text.specs.Bytes.{index_of}
use Rattle.text.specs.Lines.{line_end}
use Rattle.text.proofs.Laws.{index_le, rest, line-beyond}
use Rattle.text.proofs.line_end.Goals as goal

-- `text::line_end` meets its contract. Assumes nothing.

pub returns-then-text-at : goal.returns-then-text-at
returns-then-text-at c = sym (line-beyond c.args.text.now c.args.at c.if-text-at.true)

pub overflow_add-result : goal.overflow_add-result
overflow_add-result c =
    let a = c.args in let t = a.text.now in let e : c.index_of.result ≡ index_of 10 (drop a.at t) = c.index_of.ensures ∙ rw (rest t a.at) in
    omega (arith, index_le 10 (drop a.at t), length-drop a.at t)

pub returns : goal.returns
unfolding line_end
returns c =
    let a = c.args in rw (c.index_of.ensures, rest a.text.now a.at)
