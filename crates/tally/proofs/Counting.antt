-- The records of a list, counted one after another.
-- Assumes nothing.
use Rattle.std.proofs.Common.{◌≡◌, ap, ℕ, ◌<◌, List, ◌++◌, length}
use native.Mathlib.Nat.{div-eq_of_lt}
use Rattle.rules.specs.Record.{record_size, records_in}
use Rattle.rules.proofs.Records.{records_cons}
use Rattle.label.specs.Words.{words}
use Rattle.tally.specs.declared.Tally.{Tally}
use Rattle.tally.specs.Tally.{counted, counted_all, records_of}

pub counted_more : (t : Tally) (r rest : List ℕ) → length r ≡ record_size words → counted_all t (records_of (r ++ rest)) ≡ counted_all (counted t r) (records_of rest)
unfolding counted_all
counted_more t r rest h = ap (counted_all t) (records_cons words r rest h)

-- less than a record counts for nothing
pub counted_none : (t : Tally) (list : List ℕ) → length list < record_size words → t ≡ counted_all t (records_of list)
unfolding counted_all records_in
counted_none t list h = rw (div-eq_of_lt h)
