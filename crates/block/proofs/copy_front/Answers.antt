use Rattle.std.proofs.Common.{◌≡◌, length, rules}
use Rattle.block.proofs.Lists.{front_copied}
use Rattle.block.proofs.copy_front.Goals as goal

-- `block::copy_front` meets its contract. Assumes nothing.

pub returns : goal.returns
returns c =
    let a = c.args in let h : length a.block ≡ 64 = search rules in
    rw (c.copy.ensures, c.min.ensures) (front_copied a.block a.n a.out.now h)
