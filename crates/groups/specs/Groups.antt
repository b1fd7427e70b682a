-- Conflict groups that stand in two arrays, their tags in one and their numbers in the other.
-- Assumes nothing.
use Rattle.std.specs.Prelude.{ℕ, List, [], ◌∷◌}
use Rattle.label.specs.declared.Group.{Group}
use Rattle.label.specs.declared.Label.{Label}

-- the groups, each with the number at its own place
abbrev pub with_numbers : List Label → List ℕ → List Group
with_numbers [] ns = []
with_numbers (g ∷ gs) [] = []
with_numbers (g ∷ gs) (n ∷ ns) = record { tags = g; most = n } ∷ with_numbers gs ns
