-- Document 01, 'The table', and document 02, change 5: no sequence of calls and previews breaks a conflict group, counted tag by tag over the fields of the struct
-- that runs.
-- Assumes nothing.
use Rattle.std.specs.Prelude.{◌≡◌, true, false, List, ℕ, ◌≤◌, ◌<◌, min, max}
use Rattle.rules.specs.Table.{is_free, accepted}
use Rattle.rules.specs.Runs.{final, Event, next}
use Rattle.label.specs.declared.Label.{Label}
use Rattle.label.specs.Tags.{tag_of, sum_of}
use Rattle.label.specs.Words.{words}
use Rattle.entity.specs.declared.Entity.{Entity}
use Rattle.monitor.specs.declared.Table.{Table}
use Rattle.monitor.specs.Table.{tags_in, most_in, hub}
use Rattle.claims.specs.InForm.{stands_in, InForm}

-- 1 where a tag is in S, in I or in one of the four rights, 0 where it is in none
abbrev pub tag_had : Entity → ℕ → ℕ
tag_had e n =
    max (max (max (tag_of e.sec.bits n) (tag_of e.int.bits n)) (max (tag_of e.sa.bits n) (tag_of e.sd.bits n)))
    (max (tag_of e.ia.bits n) (tag_of e.id.bits n))

-- how many tags of a group an entity has
abbrev pub tags_had : Label → Entity → ℕ
tags_had g e = sum_of 64 (λ n. min (tag_had e n) (tag_of g.bits n))

-- every entity has at most as many tags of each group that counts as that group's own number says
abbrev pub GroupsKept : Table → Type 0
GroupsKept t = (k : ℕ) → k < 32 → is_free (stands_in t k).kind ≡ false → (i : ℕ) → i < t.count → tags_had (tags_in t i) (stands_in t k) ≤ most_in t i

-- Accepted is a table in form in which every entity keeps to every group, and no other
pub record AcceptedSpelt : Type 0 where
  pub form : (t : Table) → accepted hub t ≡ true → InForm t
  pub kept : (t : Table) → accepted hub t ≡ true → GroupsKept t
  pub enough : (t : Table) → InForm t → GroupsKept t → accepted hub t ≡ true

pub record StillKept (u : Table) : Type 0 where
  pub form : InForm u
  pub kept : GroupsKept u

-- No list of calls and previews leads from a table in form that keeps to its groups to one that does not
abbrev pub NoGroupBroken : Type 0
NoGroupBroken = (t : Table) (es : List (Event words)) → InForm t → GroupsKept t → StillKept (final (next hub) t es)

-- The array of groups, that of their numbers and their count are the very same after any calls and previews, from any table
pub record GroupsFixed (t u : Table) : Type 0 where
  pub groups : u.groups ≡ t.groups
  pub most : u.most ≡ t.most
  pub count : u.count ≡ t.count

abbrev pub NoGroupMoved : Type 0
NoGroupMoved = (t : Table) (es : List (Event words)) → GroupsFixed t (final (next hub) t es)
