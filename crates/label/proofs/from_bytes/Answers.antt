use Rattle.std.proofs.Common.{ap, ◌∙◌, rules}
use Rattle.label.specs.Tags.{from_bytes, label_of}
use Rattle.label.proofs.Bytes.{number_is}
use Rattle.label.proofs.from_bytes.Goals as goal

-- `label::from_bytes` meets its contract. Assumes nothing.

pub returns : goal.returns
unfolding from_bytes
returns c = ap label_of (c.from_le_bytes.ensures ∙ number_is c.args.b (search rules))
