use Rattle.std.proofs.Common.{◌≡◌, take}
use Rattle.std.specs.List.{list_all}
use Rattle.label.specs.Tags.{group_formed}
use Rattle.groups.specs.Groups.{with_numbers}
use Rattle.groups.proofs.are_formed.Given as goal

-- `groups::are_formed` meets its contract. The loop's invariant: the answer for the groups that are left is that for all. Assumes nothing.

abbrev pub invariant-loop-set : goal.invariant-loop-set
invariant-loop-set l =
    list_all group_formed (with_numbers l.set-iterator.a.rest.now l.set-iterator.b.rest.now) ≡ list_all group_formed (take l.fn.count (with_numbers l.fn.groups l.fn.most))
