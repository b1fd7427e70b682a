use Rattle.std.proofs.Common.{◌≡◌, ◌+◌, ◌≤◌, length, drop}
use Rattle.text.specs.Lines.{fields_in}
use Rattle.text.specs.Split.{starts_from, split_of}
use Rattle.text.proofs.Fields.{room}
use Rattle.text.proofs.Row.split.Given as goal

-- `text::Row::split` meets its contract. The loop's invariant: the starts after the fields so far, with the fields that are left. Assumes nothing.

abbrev pub invariant-loop-field : goal.invariant-loop-field
invariant-loop-field l = record {
  so_far : l.count ≡ length l.yielded;
  below : l.count ≤ l.next;
  places : length l.starts ≡ 16;
  left : l.next + room (drop l.count (fields_in l.bytes)) ≡ length l.bytes + 1;
  same : starts_from l.starts l.count l.next (drop l.count (fields_in l.bytes)) ≡ split_of l.bytes;
}
