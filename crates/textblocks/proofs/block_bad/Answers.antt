use Rattle.std.proofs.Common.{◌∙◌, sym, ap}
use Rattle.textblocks.specs.declared.Place.{Place}
use Rattle.textblocks.proofs.Laws.{block_none, block_other, block_rows}
use Rattle.textblocks.proofs.block_bad.Goals as goal

-- `textblocks::block_bad` meets its contract. Assumes nothing.

pub returns-in-Some : goal.returns-in-Some
returns-in-Some c =
    let s = c.args.rows in let k = c.in-Some.ensures.steps in
    c.rows_bad.ensures ∙ rw k.0 (sym (block_rows c.args.block s.text.now s.place c.next.new.self.place _ _ k.1 (sym c.is_header.ensures ∙ c.if-is_header.true)))

pub returns-in-Some-2 : goal.returns-in-Some-2
returns-in-Some-2 c =
    let s = c.args.rows in let k = c.in-Some.ensures.steps in
    sym (block_other c.args.block s.text.now s.place c.next.new.self.place _ _ k.1 (sym c.is_header.ensures ∙ c.if-is_header.false))

pub returns-in-None : goal.returns-in-None
returns-in-None c =
    let s = c.args.rows in let k = c.in-None.ensures.steps in
    rw (ap (λ (p : Place). p.line) k.1.1) (sym (block_none c.args.block _ s.text.now s.place c.next.new.self.place k.1))
