use Prim.Native.Nat.{◌-◌}
use lib.ListN.{length}
use Rattle.chunks.proofs.Chunks.{Filling}
use Rattle.round.specs.Round.{call_pieces}
use Rattle.round.proofs.Round.{call_bounded}
use Rattle.round.proofs.play_calls.Given as goal

-- `round::play_calls` meets its contract. Assumes nothing.

abbrev pub invariant-loop-at : goal.invariant-loop-at
invariant-loop-at g l = let m = g.M.Made.making in Filling (call_pieces l.text m) (call_bounded l.text m g.met.M.Made.short) (l.from, l.initial.table) l.initial.out l.out l.len (l.at, l.table)

abbrev pub decreases-loop-at : goal.decreases-loop-at
decreases-loop-at g l = length l.text - l.at
