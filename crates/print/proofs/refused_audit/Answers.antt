use Rattle.std.proofs.Common.{◌∙◌, ◌++◌, ◌∷◌, [], arith, length-append}
use Rattle.print.specs.Lines.{refused_text, decimal_text, refused_audit, line_size}
use Rattle.print.proofs.Laws.{decimal_most, fits, more, whole}
use Rattle.print.proofs.refused_audit.Goals as goal

pub returns : goal.returns
unfolding refused_audit
returns c =
    let d = decimal_text c.args.number in
    let text = refused_text ++ d in
    let short = decimal_most c.args.number (omega arith) in
    whole line_size (text ++ (10 ∷ [])) (more line_size text (10 ∷ []) (c.refused-refusal.ensures ∙ fits line_size text (omega arith)) c.push_bytes.ensures) (omega (arith, length-append d (10 ∷ [])))
