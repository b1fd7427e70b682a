-- Document 02, change 4: what a check of the conflict groups answers, and how many it counts up to the first that is broken.
-- Assumes nothing.
use Rattle.std.specs.Prelude.{ℕ, suc, cond, List, [], ◌∷◌, Result, Ok, Err}
use Rattle.rules.specs.declared.Refusal.{Refusal}
use Rattle.rules.specs.declared.Refusal.TheVariants.{Formless}
use Rattle.rules.specs.Labels.{Labels}
use Rattle.rules.specs.Table.{Tables, keeps_each}
use Rattle.groups.specs.declared.Checked.{Checked}

-- how many groups are counted: each that the check comes to, the broken one too
abbrev pub counted : (A : Labels) → List A.Group → A.Label → ℕ
counted A [] l = 0
counted A (g ∷ gs) l = suc (cond (A.keeps g l) (counted A gs l) 0)

-- the rules' verdict for who holds a label's tags, and beside it that number
abbrev pub checked : (A : Labels) → List A.Group → A.Label → Checked
checked A gs l = record { keeps = keeps_each A gs l; counted = counted A gs l }

-- the check of a table's groups: 99 comes first
abbrev pub check_at : {A : Labels} → (T : Tables A) → T.Table → A.Label → Result Checked Refusal
check_at {A} T t l = cond (T.formed t) (Ok (checked A (T.groups t) l)) (Err Formless)
