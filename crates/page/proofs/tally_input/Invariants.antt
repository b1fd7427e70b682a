use Rattle.std.proofs.Common.{◌≡◌, length}
use Rattle.page.proofs.Input.{Left}
use Rattle.page.proofs.tally_input.Given as goal

-- `page::tally_input` meets its contract. The loop's invariant: what is left of the input gives, with the tally so far, the tally of
-- all. Assumes nothing.

abbrev pub invariant-loop : goal.invariant-loop
invariant-loop g l = record {
  size : length l.buf ≡ 65536;
  left : Left (g.R.Read.remaining l.initial.input.reader) (g.R.Read.remaining l.input.reader) l.tally l.counter;
}
