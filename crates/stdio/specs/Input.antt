-- What is seen of an input: its reader, and whether a read has failed.
-- Assumes nothing.
use Rattle.std.specs.Prelude.{Bool, false}
use Rattle.stdio.specs.declared.Input.{Input}

abbrev pub reader_of : {R : Type 0} → Input R → R
reader_of i = i.reader

abbrev pub has_failed : {R : Type 0} → Input R → Bool
has_failed i = i.failed

-- a reader of which no read has failed yet
abbrev pub input_of : {R : Type 0} → R → Input R
input_of r = record { reader = r; failed = false }
