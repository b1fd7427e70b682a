-- The texts of the trials, by computing them.
-- Assumes nothing.
use mathlib.Core.Path.{◌≡◌, refl}
use mathlib.Core.List.{List, [], ◌∷◌}
use Prim.Native.Nat.{ℕ}
use Rattle.std.specs.Prelude.{Ok}
use Rattle.cases.specs.Cases.{group}
use Rattle.monitor.specs.Table.{groups_of}
use Rattle.text.specs.Ascii.{ascii}
use Rattle.load.specs.Tables.{table_in}
use Rattle.load.specs.Load.{verdict_of, load_of}
use Rattle.printed.specs.Trials.{trial_text, TrialsLoad}
use Rattle.printed.proofs.Watering.{reading}

two : List ℕ
two = trial_text (ascii "f 3\n5 2\n")

accepted : verdict_of two ≡ Ok tt
unfolding reading two
accepted = refl

stored : groups_of (table_in two) ≡ group 15 3 ∷ group 5 2 ∷ []
unfolding reading two
stored = refl

groups : groups_of (load_of two).table ≡ group 15 3 ∷ group 5 2 ∷ []
unfolding load_of
groups = rw accepted stored

pub trials_load : TrialsLoad
unfolding reading two
trials_load = record { accepted = accepted; groups = groups; broken = refl; second_broken = refl; none = refl; over = refl }
