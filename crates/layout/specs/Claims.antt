-- A struct stands for its table field by field. Every table comes back from its struct. A struct whose kinds are 0, 1 and 2 comes back
-- from its table; with another kind its table lacks the form.
-- Assumes nothing.
use Rattle.std.specs.Prelude.{◌≡◌, true, false, ℕ, leb, get_or}
use Rattle.rules.specs.declared.Kind.TheVariants.{Free, Item, Program}
use Rattle.label.specs.Tags.{empty}
use Rattle.entity.specs.declared.Entity.{Entity}
use Rattle.entity.specs.Entity.{free_entity}
use Rattle.monitor.specs.declared.Table.{Table}
use Rattle.monitor.specs.Table.{formed}
use Rattle.layout.specs.declared.HubSlot.{HubSlot}
use Rattle.layout.specs.declared.HubTable.{HubTable}
use Rattle.layout.specs.Struct.{kinds_known, slot_as, table_of, struct_of}

-- what the fields of a slot stand for
pub record SlotRead (s : HubSlot) (e : Entity) : Type 0 where
  pub sec : e.sec.bits ≡ s.sec
  pub int : e.int.bits ≡ s.int
  pub sa : e.sa.bits ≡ s.sa
  pub sd : e.sd.bits ≡ s.sd
  pub ia : e.ia.bits ≡ s.ia
  pub id : e.id.bits ≡ s.id
  pub free : s.kind ≡ 0 → e.kind ≡ Free
  pub item : s.kind ≡ 1 → e.kind ≡ Item
  pub program : s.kind ≡ 2 → e.kind ≡ Program
  pub len : leb s.kind 2 ≡ true → e.len ≡ s.len

pub record StructStands : Type 0 where
  pub slot : (s : HubTable) (k : ℕ) → SlotRead (get_or s.slots k (slot_as free_entity)) (get_or (table_of s).entities k free_entity)
  pub group : (s : HubTable) (k : ℕ) → (get_or (table_of s).groups k empty).bits ≡ get_or s.groups k 0
  pub most : (s : HubTable) (k : ℕ) → get_or (table_of s).most k 1 ≡ get_or s.most k 1
  pub table_back : (t : Table) → table_of (struct_of t) ≡ t
  pub struct_back : (s : HubTable) → kinds_known s.slots ≡ true → struct_of (table_of s) ≡ s
  pub unknown : (s : HubTable) → kinds_known s.slots ≡ false → formed (table_of s) ≡ false
