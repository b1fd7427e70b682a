use Rattle.std.proofs.Common.{◌-◌, arith, ap, ◌∙◌, Bool, true, ◌&&◌, ℕ, length, drop, eqb, rules, tests}
use Rattle.std.proofs.lemmas.Iterator.{YieldsList-from_slice}
use Rattle.std.proofs.lemmas.Iterator.Consumers.{fold_from_yields_List}
use Rattle.std.proofs.lemmas.List.{drop_min, length-drop, take_all}
use Rattle.block.specs.Block.{all_zero}
use Rattle.block.proofs.Lists.{fold_zero, zero_at}
use Rattle.block.proofs.zero_beyond.Goals as goal

-- `block::zero_beyond` meets its contract. Assumes nothing.

pub returns : goal.returns
returns c =
    let a = c.args in let b = c.bytes_of-bytes.result.now in let d = drop c.min.result b in
    fold_from_yields_List _ (λ (all : Bool) (x : ℕ). all && eqb x 0) true c.fold.result c.fold.ensures.ran
    (YieldsList-from_slice d (c.iter.ensures.rest ∙ take_all (length b - c.min.result) d (simp length-drop (omega arith)))) (λ all x r q k. search (rules, tests))
    ∙ fold_zero true d
    ∙ ap all_zero (ap (λ (k : ℕ). drop k b) c.min.ensures ∙ drop_min a.n b ∙ ap (drop a.n) c.bytes_of-bytes.ensures)
    ∙ zero_at a.content.now a.slot a.n
