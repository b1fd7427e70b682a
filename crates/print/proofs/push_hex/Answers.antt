use Rattle.std.proofs.Common.{◌+◌, ℕ, List, ◌∷◌, [], drop, ap, ap₂, ◌∙◌}
use Rattle.print.specs.Lines.{hex_text, line_with}
use Rattle.print.proofs.Laws.{hex_more, hex_all}
use Rattle.print.proofs.push_hex.Goals as goal

pub loop-b-preserved : goal.loop-b-preserved
loop-b-preserved g c =
    let l = c.loop-b in let s = c.args.src.now in
    let put = c.push_bytes.ensures ∙ ap₂ (λ (x y : ℕ). line_with g.row.N l.line.items (x ∷ y ∷ [])) c.digit_text.ensures c.digit_text-in-loop-b.ensures in
    ap (λ (x : List ℕ). line_with g.row.N x (hex_text (drop (l.b-index + 1) s))) put ∙ hex_more g.row.N l.line.items s l.b-index c.loop-b-test.true ∙ l.invariant

pub returns : goal.returns
returns g c = let l = c.loop-b in hex_all g.row.N l.line.items c.args.src.now l.b-index c.loop-b-test.false ∙ l.invariant
