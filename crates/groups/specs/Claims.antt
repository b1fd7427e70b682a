-- What the count beside a check's verdict is: the place of the first broken group, from 1, or the number of groups. And what a check tells
-- of a table.
-- Assumes nothing.
use Rattle.std.specs.Prelude.{◌≡◌, true, false, List, [], ℕ, ◌-◌, ◌≤◌, ◌<◌, length, take, get_or, Ok, Err}
use Rattle.rules.specs.declared.Refusal.TheVariants.{Formless}
use Rattle.rules.specs.Labels.{Labels}
use Rattle.rules.specs.Table.{Tables}
use Rattle.rules.specs.Runs.{final, Event, next}
use Rattle.groups.specs.declared.Checked.{Checked}
use Rattle.groups.specs.Check.{checked, check_at}

-- (No place here is behind the list, so that d, whichever group it is, is never read.)
module _ (A : Labels) (d : A.Group) (gs : List A.Group) (l : A.Label) where
  -- each group is kept, and all of them were counted
  pub record NoneBroken (n : ℕ) : Type 0 where
    pub kept : (i : ℕ) → i < length gs → A.keeps (get_or gs i d) l ≡ true
    pub all : n ≡ length gs

  -- the n-th group, from 1, is broken, and none before it
  pub record FirstBroken (n : ℕ) : Type 0 where
    pub from_1 : 1 ≤ n
    pub within : n ≤ length gs
    pub broken : A.keeps (get_or gs (n - 1) d) l ≡ false
    pub before : (i : ℕ) → i < n - 1 → A.keeps (get_or gs i d) l ≡ true

  pub record Counts (c : Checked) : Type 0 where
    pub none : c.keeps ≡ true → NoneBroken c.counted
    pub first : c.keeps ≡ false → FirstBroken c.counted

-- No groups give 0; and a check of the first n groups, where n is more than there are, is that of all
pub record WalkCounts (A : Labels) : Type 0 where
  pub counts : (d : A.Group) (gs : List A.Group) (l : A.Label) → Counts A d gs l (checked A gs l)
  pub no_groups : (l : A.Label) → checked A [] l ≡ record { keeps = true; counted = 0 }
  pub beyond : (gs : List A.Group) (l : A.Label) (n : ℕ) → length gs ≤ n → checked A (take n gs) l ≡ checked A gs l

-- A table that lacks the form is answered by 99, any other by the check of its groups. Beside whether it has the form a check reads a table's
-- groups alone, so nothing of what anybody bears, may do or contains; and calls and previews, from whatever table, change neither
pub record TablesChecked {A : Labels} (T : Tables A) : Type 0 where
  pub formless : (t : T.Table) (l : A.Label) → T.formed t ≡ false → check_at T t l ≡ Err Formless
  pub in_form : (t : T.Table) (l : A.Label) → T.formed t ≡ true → check_at T t l ≡ Ok (checked A (T.groups t) l)
  pub reads : (t u : T.Table) (l : A.Label) → T.formed t ≡ T.formed u → T.groups t ≡ T.groups u → check_at T t l ≡ check_at T u l
  pub stays : (t : T.Table) (es : List (Event A)) (l : A.Label) → check_at T (final (next T) t es) l ≡ check_at T t l
