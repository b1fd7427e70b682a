use Rattle.std.proofs.Common.{◌*◌, ◌∙◌, sym}
use Rattle.block.proofs.Lists.{cut, bytes_in}
use Rattle.block.proofs.bytes_of.Goals as goal

-- `block::bytes_of` meets its contract. Assumes nothing.

pub returns-then-slot-lt32 : goal.returns-then-slot-lt32
returns-then-slot-lt32 c =
    let a = c.args in cut a.content.now (a.slot * 64) c.min-from.result c.min.result c.min-from.ensures c.min.ensures
    ∙ sym (bytes_in a.content.now a.slot c.if-slot-lt32.true)
