use Rattle.std.proofs.Common.{ap, ◌∙◌, ◌++◌, ℕ, List, length, take}
use Rattle.block.specs.Block.{no_block, padded}
use Rattle.std.proofs.lemmas.List.{drop-replicate}
use Rattle.block.proofs.pad.Goals as goal

-- `block::pad` meets its contract. Assumes nothing.

pub returns : goal.returns
unfolding padded no_block
returns c =
    let b = c.args.bs.now in
    c.copy.ensures ∙ rw c.empty-out.ensures (ap (λ (l : List ℕ). take 64 b ++ l) (drop-replicate (length b) 64 0))
