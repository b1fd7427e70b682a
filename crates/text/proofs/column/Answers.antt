use Rattle.std.proofs.Common.{rules, ◌∙◌, sym}
use borrow.Author.Tests.{tests}
use mathlib.Core.Bool.{not}
use Rattle.std.specs.Str.{bytes_eq}
use Rattle.std.proofs.lemmas.Iterator.Consumers.{YieldsList-at, count_from_yields_List}
use Rattle.std.proofs.lemmas.Iterator.Search.{YieldsList-from_take_while}
use Rattle.std.proofs.lemmas.List.Folds.{length-prefix_len}
use Rattle.text.specs.Lines.{fields_in}
use Rattle.text.proofs.Fields.{gives_fields, column_is}
use Rattle.text.proofs.column.Goals as goal

-- `text::column` meets its contract. Assumes nothing.

pub returns : goal.returns
returns c =
    let l = c.args.line.now in
    let n = c.args.name.now in
    count_from_yields_List c.take_while.result c.count.result c.count.ensures.ran
    (YieldsList-from_take_while _ (λ h. not (bytes_eq h n))
    (YieldsList-at c.take_while.ensures.source (gives_fields _ l c.split.ensures.rest c.split.ensures.done c.split.ensures.closure (λ x b q k. search (rules, tests))))
    c.take_while.ensures.closure c.take_while.ensures.done (λ x b q k. search (rules, tests)))
    ∙ length-prefix_len (λ h. not (bytes_eq h n)) (fields_in l)
    ∙ sym (column_is n (fields_in l))
