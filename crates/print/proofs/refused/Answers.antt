use Rattle.std.proofs.Common.{ap, ◌∙◌, ◌++◌, [], ℕ, arith}
use Rattle.print.specs.Lines.{refused_text, decimal_text, line_with, line_size}
use Rattle.print.proofs.Laws.{decimal_most, more, whole}
use Rattle.print.proofs.refused.Goals as goal

pub returns : goal.returns
returns c =
    let n = c.args.number in
    let number = more line_size refused_text (decimal_text c.from.result) c.line_of-line.ensures c.push_decimal.ensures ∙ ap (λ (k : ℕ). line_with line_size [] (refused_text ++ decimal_text k)) c.from.ensures in
    whole line_size (refused_text ++ decimal_text n) number (omega (arith, decimal_most n (omega arith)))
