-- Document 02, changes 4 and 5: what a check of the conflict groups says, over the fields of the struct that runs; and that it is what a hand asks.
-- Assumes nothing.
use Rattle.std.specs.Prelude.{◌≡◌, true, false, ℕ, ◌-◌, ◌≤◌, ◌<◌, length, Ok, Err}
use Rattle.rules.specs.declared.Refusal.TheVariants.{BreaksGroup}
use Rattle.rules.specs.Table.{held}
use Rattle.rules.specs.Calls.{hand}
use Rattle.rules.specs.Refusals.{verdict}
use Rattle.label.specs.declared.Label.{Label}
use Rattle.label.specs.Tags.{with_tag, common_of}
use Rattle.label.specs.Words.{words}
use Rattle.entity.specs.Entity.{bare}
use Rattle.groups.specs.declared.Checked.{Checked}
use Rattle.groups.specs.Check.{counted, checked, check_at}
use Rattle.monitor.specs.declared.Table.{Table}
use Rattle.monitor.specs.Table.{groups_of, tags_in, most_in, hub}
use Rattle.claims.specs.InForm.{stands_in, InForm}

-- The n-th group, from 1, is the first of which a label has more tags than its own number says
pub record FirstOver (t : Table) (l : Label) (n : ℕ) : Type 0 where
  pub from_1 : 1 ≤ n
  pub within : n ≤ t.count
  pub over : most_in t (n - 1) < common_of l (tags_in t (n - 1))
  pub before : (i : ℕ) → i < n - 1 → common_of l (tags_in t i) ≤ most_in t i

-- Where the answer is that each group is kept, the label has of each of the first t.count at most as many tags as that group's number says, and so many
-- groups were counted; where it is that one is broken, what was counted is the place of the first
pub record Says (t : Table) (l : Label) (c : Checked) : Type 0 where
  pub kept : c.keeps ≡ true → (i : ℕ) → i < t.count → common_of l (tags_in t i) ≤ most_in t i
  pub all : c.keeps ≡ true → c.counted ≡ t.count
  pub first : c.keeps ≡ false → FirstOver t l c.counted

-- A table in form has an answer, and what it says
pub record ChecksSpelt : Type 0 where
  pub answered : (t : Table) (l : Label) → InForm t → check_at hub t l ≡ Ok (checked words (groups_of t) l)
  pub says : (t : Table) (l : Label) (c : Checked) → check_at hub t l ≡ Ok c → Says t l c

-- all that an entity has, its six sets together, and a tag
abbrev pub gaining : Table → ℕ → ℕ → Label
gaining t j p = with_tag (held (bare (stands_in t j))) p

-- The check of all that the receiver of a hand has, and the tag: each group is kept where the hand is allowed; and where it is refused by 11, whichever
-- right is handed, the check says the first group that stands in the way
pub record HandsChecked : Type 0 where
  pub allowed : (t : Table) (i j n p : ℕ) → verdict hub t (hand i j n p) ≡ Ok tt
      → check_at hub t (gaining t j p) ≡ Ok (record { keeps = true; counted = length (groups_of t) })
  pub refused : (t : Table) (i j n p : ℕ) → verdict hub t (hand i j n p) ≡ Err BreaksGroup
      → check_at hub t (gaining t j p) ≡ Ok (record { keeps = false; counted = counted words (groups_of t) (gaining t j p) })
  pub place : (t : Table) (i j n p : ℕ) → verdict hub t (hand i j n p) ≡ Err BreaksGroup
      → FirstOver t (gaining t j p) (counted words (groups_of t) (gaining t j p))
