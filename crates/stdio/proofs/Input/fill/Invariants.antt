use Rattle.std.proofs.Common.{length, take, ◌-◌, ◌≡◌, ◌≤◌}
use Rattle.std.specs.Io.KnownBytes.{Consumes}
use Rattle.stdio.proofs.Input.fill.Given as goal

-- `stdio::Input::fill` meets its contract: the front of the buffer so far is what was consumed. It ends since each turn fills more of the
-- buffer. Assumes nothing.

abbrev pub invariant-loop-done : goal.invariant-loop-done
invariant-loop-done g l = record {
  size : length l.buf ≡ length l.initial.buf;
  within : l.done ≤ length l.buf;
  consumed : Consumes (g.R.Read.remaining l.initial.self.reader) (g.R.Read.remaining l.self.reader) (take l.done l.buf);
}

abbrev pub decreases-loop-done : goal.decreases-loop-done
decreases-loop-done g l = length l.buf - l.done
