-- What a lent buffer holds once the borrow of it is over, for a contract whose result keeps the borrow. Of a `&mut [u8]`
-- that no result keeps, a contract says the same by `out.new`.
-- Assumes nothing.
use Rattle.std.specs.Prelude.{ℕ, List}
use Rattle.std.specs.Borrow.{Fml, MutBor, u8}
use denote.Slice.{finally}

abbrev pub ends_as : MutBor (List ℕ) → List ℕ → Fml
ends_as x l = finally u8 x.ghost_name l
