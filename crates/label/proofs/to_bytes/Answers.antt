use Rattle.std.proofs.Common.{◌∙◌}
use Rattle.label.specs.Tags.{bytes_of}
use Rattle.label.proofs.Bytes.{bytes_are}
use Rattle.label.proofs.to_bytes.Goals as goal

-- `label::to_bytes` meets its contract. Assumes nothing.

pub returns : goal.returns
unfolding bytes_of
returns c = c.to_le_bytes.ensures ∙ bytes_are c.args.l.bits
