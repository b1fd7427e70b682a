use Rattle.std.proofs.Common.{◌≡◌, drop}
use Rattle.std.specs.Slice.Iter.{chunks_exact_rest, chunks_exact_size}
use Rattle.chunks.specs.Lists.{record_pieces}
use Rattle.chunks.proofs.Lists.{record_bounded}
use Rattle.chunks.proofs.Chunks.{Filling}
use Rattle.chunks.proofs.record_lines.Given as goal

abbrev pub invariant-loop-record : goal.invariant-loop-record
invariant-loop-record l = record {
  can : (goal.iterator-loop-record).can_next l.record-iterator;
  finite : (goal.iterator-loop-record).is_finite l.record-iterator;
  size : chunks_exact_size l.record-iterator ≡ 16;
  rest : chunks_exact_rest l.record-iterator ≡ drop l.at l.list;
  filling : Filling (record_pieces l.list) (record_bounded l.list) l.from l.initial.out l.out l.len l.at;
}
