use Rattle.std.proofs.Common.{ap, ◌∙◌, ◌++◌, ◌∷◌, [], arith, length, length-append, length-take}
use Rattle.print.specs.Lines.{hex_text, record_line, line_size}
use Rattle.print.proofs.Laws.{length-hex, more, whole}
use Rattle.print.proofs.record_line.Goals as goal

pub returns : goal.returns
unfolding record_line
returns c =
    let f = c.front in let h = hex_text f.result.now in
    let hex = more line_size [] h c.new-record.ensures c.push_hex.ensures in
    whole line_size (h ++ (10 ∷ [])) (more line_size h (10 ∷ []) hex c.push_bytes.ensures) (omega (arith, length-append h (10 ∷ []), length-hex f.result.now, ap length f.ensures.0, length-take 16 c.args.src.now))
    ∙ ap record_line f.ensures.0
