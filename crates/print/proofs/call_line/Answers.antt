use Rattle.std.proofs.Common.{ap, ◌∙◌, ◌++◌, ◌∷◌, [], append_assoc}
use Rattle.print.specs.Lines.{hex_text, data_text, call_line, line_with, line_size}
use Rattle.print.proofs.Laws.{more}
use Rattle.print.proofs.call_line.Goals as goal

pub returns : goal.returns
unfolding call_line
returns c =
    let h = hex_text c.args.entry in let d = data_text c.args.shown.now ++ (10 ∷ []) in
    let hex = more line_size [] h c.new-line.ensures c.push_hex.ensures in
    let space = more line_size h (32 ∷ []) hex c.push_bytes.ensures in
    more line_size (h ++ (32 ∷ [])) d space c.push_data.ensures ∙ ap (line_with line_size []) (append_assoc h (32 ∷ []) d)
