use Rattle.std.proofs.Common.{◌≡◌}
use Rattle.std.specs.Slice.Iter.{chunks_exact_rest, chunks_exact_size}
use Rattle.tally.specs.Tally.{counted_all, records_of}
use Rattle.tally.proofs.Tally.with_records.Given as goal

-- `tally::Tally::with_records` meets its contract. The loop's invariant: the records that are left, counted with those so far, give the
-- tally of all. Assumes nothing.

abbrev pub invariant-loop-entry : goal.invariant-loop-entry
invariant-loop-entry l = record {
  can : (goal.iterator-loop-entry).can_next l.entry-iterator;
  finite : (goal.iterator-loop-entry).is_finite l.entry-iterator;
  size : chunks_exact_size l.entry-iterator ≡ 16;
  counted : counted_all l.self (records_of (chunks_exact_rest l.entry-iterator)) ≡ counted_all l.initial.self (records_of l.list);
}
