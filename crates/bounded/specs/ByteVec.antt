-- What a contract sees of a ByteVec, and the room that its bytes lie in.
-- Assumes nothing.
use Rattle.std.specs.Prelude.{ℕ, ◌-◌, List, ◌++◌, length, replicate}

-- the bytes, in order
pub record ByteVec : Type 0 where
  pub items : List ℕ

-- a room of n bytes that begins with those of x, with zeros behind them
abbrev pub padded : ℕ → List ℕ → List ℕ
padded n x = x ++ replicate (n - length x) 0
