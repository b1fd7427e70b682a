use Rattle.std.proofs.Common.{◌≡◌, ◌+◌, length, take}
use Rattle.rules.specs.Table.{keeps_each}
use Rattle.label.specs.Words.{words}
use Rattle.groups.specs.Check.{counted}
use Rattle.groups.specs.Groups.{with_numbers}
use Rattle.groups.proofs.check.Given as goal

-- `groups::check` meets its contract. The loop's invariant: the verdict on the groups that are left is that on all, and the counter and the
-- count of those left are the count of all. So none that was passed is broken. Assumes nothing.

abbrev pub invariant-loop-tags : goal.invariant-loop-tags
invariant-loop-tags l =
    let left = with_numbers l.tags-iterator.a.rest.now l.tags-iterator.b.rest.now in
    let all = take l.fn.count (with_numbers l.fn.groups l.fn.most) in record {
      passed : l.counted + length left ≡ length all;
      kept : keeps_each words left l.held ≡ keeps_each words all l.held;
      count : l.counted + counted words left l.held ≡ counted words all l.held;
    }
