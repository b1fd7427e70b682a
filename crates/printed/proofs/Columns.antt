-- Three lines, read by computing.
-- Assumes nothing.
use mathlib.Core.Path.{refl}
use Rattle.printed.specs.Columns.{ColumnsRead}
use Rattle.printed.proofs.Watering.{reading}

pub columns_read : ColumnsRead
unfolding reading
columns_read = record { entity = refl; hand = refl; put = refl }
