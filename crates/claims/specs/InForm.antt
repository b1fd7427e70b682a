-- Document 01, 'The table' and 99, spelt out over the fields of the struct that runs, in numbers.
-- Assumes nothing.
use Rattle.std.specs.Prelude.{◌≡◌, true, false, ℕ, ◌+◌, ◌*◌, ◌≤◌, ◌<◌, length, get_or}
use Rattle.rules.specs.declared.Kind.TheVariants.{Free, Item}
use Rattle.rules.specs.Runs.{TablesAgree, bears}
use Rattle.label.specs.declared.Label.{Label}
use Rattle.label.specs.Tags.{tag_of, has_tag}
use Rattle.label.specs.Words.{words}
use Rattle.entity.specs.declared.Entity.{Entity}
use Rattle.entity.specs.Entity.{free_entity}
use Rattle.block.specs.Block.{block_at}
use Rattle.monitor.specs.declared.Table.{Table}
use Rattle.monitor.specs.Table.{most_in, Unused, formed, hub, empty_table}

-- what stands in slot k of the 32, and byte j of its 64
abbrev pub stands_in : Table → ℕ → Entity
stands_in t k = get_or t.entities k free_entity

abbrev pub byte_in : Table → ℕ → ℕ → ℕ
byte_in t k j = get_or t.content (k * 64 + j) 0

-- none of the tags 0 to 63
abbrev pub NoTag : Label → Type 0
NoTag l = (n : ℕ) → n < 64 → tag_of l.bits n ≡ 0

pub record NoRight (e : Entity) : Type 0 where
  pub sa : NoTag e.sa
  pub sd : NoTag e.sd
  pub ia : NoTag e.ia
  pub id : NoTag e.id

-- neither tag, right nor content
pub record Vacant (e : Entity) : Type 0 where
  pub sec : NoTag e.sec
  pub int : NoTag e.int
  pub rights : NoRight e
  pub len : e.len ≡ 0

-- no length over 64, no nonzero byte beyond a length, no item with rights, no free slot with a tag, right or content
pub record SlotInForm (t : Table) (k : ℕ) : Type 0 where
  pub len : (stands_in t k).len ≤ 64
  pub beyond : (j : ℕ) → (stands_in t k).len ≤ j → j < 64 → byte_in t k j ≡ 0
  pub item : (stands_in t k).kind ≡ Item → NoRight (stands_in t k)
  pub free : (stands_in t k).kind ≡ Free → Vacant (stands_in t k)

-- and at most 8 groups, each with a number from 1 to 64. The arrays of a table that runs always have 32 entities, 2,048 bytes, 8 groups
-- and 8 numbers
pub record InForm (t : Table) : Type 0 where
  pub entities : length t.entities ≡ 32
  pub content : length t.content ≡ 2048
  pub groups : length t.groups ≡ 8
  pub most : length t.most ≡ 8
  pub count : t.count ≤ 8
  pub numbers : (i : ℕ) → i < t.count → (1 ≤ most_in t i) × (most_in t i ≤ 64)
  pub slots : (k : ℕ) → k < 32 → SlotInForm t k

-- 99 does not apply exactly where a table is in this form
pub record FormSpelt : Type 0 where
  pub holds : (t : Table) → formed t ≡ true → InForm t
  pub enough : (t : Table) → InForm t → formed t ≡ true

-- The empty table: in form, every slot free, no groups, the empty set and 1 in each of their places
pub record EmptySpelt : Type 0 where
  pub form : InForm empty_table
  pub free : (k : ℕ) → k < 32 → (stands_in empty_table k).kind ≡ Free
  pub count : empty_table.count ≡ 0
  pub places : (i : ℕ) → i < 8 → Unused empty_table i

-- Two tables in form that differ only in the contents of entities bearing a tag: in each slot without it stand the very same
-- entity and the very same 64 bytes
pub record SameWithout (t u : Table) (k : ℕ) : Type 0 where
  pub entity : stands_in t k ≡ stands_in u k
  pub block : block_at t.content k ≡ block_at u.content k

abbrev pub HiddenContentsAlone : Type 0
HiddenContentsAlone = (p : ℕ) (t u : Table) → formed t ≡ true → formed u ≡ true → TablesAgree hub (bears words p) t u
    → (k : ℕ) → k < 32 → has_tag (stands_in t k).sec p ≡ false → SameWithout t u k

-- and in every slot stand the same kind, sets and rights
pub record SameLabels (e f : Entity) : Type 0 where
  pub kind : e.kind ≡ f.kind
  pub sec : e.sec ≡ f.sec
  pub int : e.int ≡ f.int
  pub sa : e.sa ≡ f.sa
  pub sd : e.sd ≡ f.sd
  pub ia : e.ia ≡ f.ia
  pub id : e.id ≡ f.id

abbrev pub LabelsAlike : Type 0
LabelsAlike = (p : ℕ) (t u : Table) → TablesAgree hub (bears words p) t u → (k : ℕ) → k < 32 → SameLabels (stands_in t k) (stands_in u k)
