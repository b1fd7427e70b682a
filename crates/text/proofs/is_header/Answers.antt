use Rattle.std.proofs.Common.{rules, ◌∙◌, sym}
use borrow.Author.Tests.{tests, eq-eqb, ne_eqb}
use lib.ListN.{length}
use lib.Dec.{ltb}
use Rattle.std.proofs.lemmas.Iterator.Consumers.{count_from_yields_List}
use Rattle.std.proofs.lemmas.Iterator.Search.{all_from_yields_List}
use Rattle.text.specs.Lines.{fields_in, column_of, names_once}
use Rattle.text.proofs.Fields.{gives_fields, all_named}
use Rattle.text.proofs.is_header.Goals as goal

-- `text::is_header` meets its contract. Assumes nothing.

pub returns-then-columns-count : goal.returns-then-columns-count
unfolding names_once
returns-then-columns-count c =
    let l = c.args.line.now in let n = c.args.names.now in
    let x = count_from_yields_List c.split.result _ c.count-columns.ensures.ran (gives_fields _ l c.split.ensures.rest c.split.ensures.done c.split.ensures.closure (λ x b q k. search (rules, tests))) in
    let y = count_from_yields_List c.split-2.result _ c.count.ensures.ran (gives_fields _ n c.split-2.ensures.rest c.split-2.ensures.done c.split-2.ensures.closure (λ x b q k. search (rules, tests))) in
    sym (rw (ne_eqb (length (fields_in l)) (length (fields_in n)) (λ q. c.if-columns-count.true (x ∙ q ∙ sym y))))

pub returns : goal.returns
unfolding names_once
returns c =
    let l = c.args.line.now in let n = c.args.names.now in
    let x = count_from_yields_List c.split.result _ c.count-columns.ensures.ran (gives_fields _ l c.split.ensures.rest c.split.ensures.done c.split.ensures.closure (λ x b q k. search (rules, tests))) in
    let y = count_from_yields_List c.split-2.result _ c.count.ensures.ran (gives_fields _ n c.split-2.ensures.rest c.split-2.ensures.done c.split-2.ensures.closure (λ x b q k. search (rules, tests))) in
    let z = all_from_yields_List (λ m. ltb (column_of m (fields_in l)) (length (fields_in l))) _ _ c.all.result c.all.ensures.ran (gives_fields _ n c.split-3.ensures.rest c.split-3.ensures.done c.split-3.ensures.closure (λ x b q k. search (rules, tests))) (λ m b q k. search (rules, tests, x)) in
    z ∙ sym (rw (eq-eqb (length (fields_in l)) (length (fields_in n)) (sym x ∙ c.if-columns-count.false ∙ y)) (all_named (fields_in n) (fields_in l)))
