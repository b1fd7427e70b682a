use Rattle.std.proofs.Common.{◌≡◌, Option, None, ℕ}
use Rattle.monitor.specs.declared.Table.{Table}
use Rattle.textblocks.specs.Blocks.{lines_at}
use Rattle.load.specs.Tables.{Stored, none_stored, fill}
use Rattle.load.proofs.entity_rows.Given as goal

-- `load::entity_rows` meets its contract. The loop's invariant: storing on with the rows that are left gives what all give. Assumes nothing.

abbrev pub so_far : Option ℕ → Table → Stored
so_far b t = record { twice = None; breaks = b; table = t }

abbrev pub invariant-loop-line : goal.invariant-loop-line
invariant-loop-line l =
    fill l.columns l.line-iterator.place.line (so_far l.breaks l.table) (lines_at l.line-iterator.text.now l.line-iterator.place.at)
    ≡ fill l.columns l.fn.rows.place.line (none_stored l.fn.table) (lines_at l.fn.rows.text.now l.fn.rows.place.at)
