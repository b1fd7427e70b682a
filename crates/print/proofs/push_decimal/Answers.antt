use Rattle.std.proofs.Common.{ap, ◌∙◌}
use Rattle.print.specs.Lines.{line_with}
use Rattle.print.proofs.Laws.{decimal_is}
use Rattle.print.proofs.push_decimal.Goals as goal

pub returns : goal.returns
returns g c = c.push_bytes.ensures ∙ ap (line_with g.row.N c.args.line.now.items) (c.as_bytes.ensures.value ∙ c.format.ensures.text ∙ decimal_is c.args.n c.ranges.n.fits)
