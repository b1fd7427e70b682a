use Rattle.std.proofs.Common.{◌≡◌, ◌-◌, length}
use Rattle.textblocks.specs.Blocks.{past_empty}
use Rattle.textblocks.proofs.Rest.past_empty.Given as goal

-- `textblocks::Rest::past_empty` meets its contract. The loop's invariant: the next empty line is that of all. Assumes nothing.

abbrev pub invariant-loop-row : goal.invariant-loop-row
invariant-loop-row l = record {
  text : l.self.text.now ≡ l.initial.self.text.now;
  same : past_empty l.self.text.now l.self.place ≡ past_empty l.initial.self.text.now l.initial.self.place;
}

abbrev pub decreases-loop-row : goal.decreases-loop-row
decreases-loop-row l = length l.self.text.now - l.self.place.at
