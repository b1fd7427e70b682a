-- Document 01, 'The record': the number that an outcome returns, by the number of each refusal.
-- Assumes nothing.
use Rattle.std.specs.Prelude.{ℕ, Result, Ok, Err}

-- at the rules' refusals their `number_of`
abbrev pub number_by : {E : Type 0} → (E → ℕ) → Result (Unit {0}) E → ℕ
number_by f (Ok _) = 0
number_by f (Err e) = f e
