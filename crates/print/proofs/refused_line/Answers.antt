use Rattle.std.proofs.Common.{◌≡◌, ◌∙◌, ◌++◌, ◌∷◌, [], arith, length-append, append_assoc}
use Rattle.text.specs.Ascii.{ascii}
use Rattle.print.specs.Lines.{refused_text, decimal_text, refused_line, line_size}
use Rattle.print.proofs.Laws.{decimal_most, fits, more, whole}
use Rattle.print.proofs.refused_line.Goals as goal

pub returns : goal.returns
unfolding refused_line
returns c =
    let d = decimal_text c.args.number in let e = decimal_text c.args.line in
    let text = refused_text ++ d in
    let short = decimal_most c.args.number (omega arith) in
    let words = more line_size text (ascii " line ") (c.refused-text.ensures ∙ fits line_size text (omega arith)) c.push_bytes.ensures in
    let number = more line_size (text ++ ascii " line ") e words c.push_decimal.ensures in
    let joined : text ++ ascii " line " ++ e ++ (10 ∷ []) ≡ refused_line c.args.number c.args.line = simp append_assoc in
    whole line_size (text ++ ascii " line " ++ e ++ (10 ∷ [])) (more line_size (text ++ ascii " line " ++ e) (10 ∷ []) number c.push_bytes-2.ensures)
    (omega (arith, decimal_most c.args.line (omega arith), length-append (d ++ ascii " line ") e, length-append d (ascii " line "), length-append (d ++ ascii " line " ++ e) (10 ∷ [])))
    ∙ joined
