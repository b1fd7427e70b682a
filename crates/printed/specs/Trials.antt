-- Document 02, change 5, on loading: a text with the entities of the worked trials (crate cases), and some rows of groups. Which groups its table has, and
-- what is refused at which line.
-- Assumes nothing.
use Rattle.std.specs.Prelude.{◌≡◌, List, [], ◌∷◌, ◌++◌, ℕ, Ok, Err}
use Rattle.rules.specs.declared.Refusal.TheVariants.{BadLine, EntityBreaksGroup}
use Rattle.cases.specs.Cases.{group}
use Rattle.monitor.specs.Table.{groups_of}
use Rattle.text.specs.Ascii.{ascii}
use Rattle.load.specs.Load.{verdict_of, load_of}

abbrev pub trial_text : List ℕ → List ℕ
trial_text rows =
    ascii "slot kind sec int sa sd ia id data\n"
    ++ ascii "0 prog 0 0 0 4 0 0 010203\n"
    ++ ascii "1 prog 1 0 2 0 0 0 -\n"
    ++ ascii "\n"
    ++ ascii "tags most\n"
    ++ rows
    ++ ascii "\n"
    ++ ascii "call caller other set tag data\n"

pub record TrialsLoad : Type 0 where
  -- accepted, and each group has its own number
  pub accepted : verdict_of (trial_text (ascii "f 3\n5 2\n")) ≡ Ok tt
  pub groups : groups_of (load_of (trial_text (ascii "f 3\n5 2\n"))).table ≡ group 15 3 ∷ group 5 2 ∷ []
  -- 17 at its line, by the number of the group that it breaks, wherever that stands
  pub broken : verdict_of (trial_text (ascii "f 1\n")) ≡ Err (record { refusal = EntityBreaksGroup; line = 3 })
  pub second_broken : verdict_of (trial_text (ascii "f 3\n3 1\n")) ≡ Err (record { refusal = EntityBreaksGroup; line = 3 })
  -- 15 at the row's line, also where 17 would apply
  pub none : verdict_of (trial_text (ascii "f 0\n")) ≡ Err (record { refusal = BadLine; line = 6 })
  pub over : verdict_of (trial_text (ascii "f 3\n5 65\n")) ≡ Err (record { refusal = BadLine; line = 7 })
