use Rattle.std.proofs.Common.{◌≡◌, drop}
use Rattle.print.specs.Lines.{hex_text, line_with}
use Rattle.print.proofs.push_hex.Given as goal

abbrev pub invariant-loop-b : goal.invariant-loop-b
invariant-loop-b g l = line_with g.row.N l.line.items (hex_text (drop l.b-index l.src)) ≡ line_with g.row.N l.initial.line.items (hex_text l.src)
