use Rattle.std.proofs.Common.{ap, sym, ◌∙◌, ◌++◌, ◌∷◌, [], List, ℕ, eqb-true, length}
use Rattle.std.proofs.lemmas.Bool.{eqb-false}
use Rattle.print.specs.Lines.{data_text, line_with}
use Rattle.print.proofs.Laws.{data_empty, data_some, with_both}
use Rattle.print.proofs.push_data.Goals as goal

pub returns-then-is_empty : goal.returns-then-is_empty
returns-then-is_empty g c =
    let s = c.args.src.now in
    c.push_bytes.ensures ∙ ap (λ (l : List ℕ). line_with g.row.N c.args.line.now.items (l ++ (10 ∷ []))) (sym (data_empty s (eqb-true (length s) 0 (sym c.if-is_empty.ensures))))

pub returns-else-is_empty : goal.returns-else-is_empty
returns-else-is_empty g c =
    let s = c.args.src.now in let x = c.args.line.now.items in
    let hex = c.push_hex.ensures ∙ ap (line_with g.row.N x) (sym (data_some s (eqb-false (length s) 0 (sym c.if-is_empty.ensures)))) in
    c.push_bytes-else-is_empty.ensures ∙ ap (λ (z : List ℕ). line_with g.row.N z (10 ∷ [])) hex ∙ with_both g.row.N x (data_text s) (10 ∷ [])
