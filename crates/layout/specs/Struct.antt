-- The hub's table as a struct of numbers.
-- Assumes nothing.
use Rattle.std.specs.Prelude.{ℕ, Bool, true, cond, ◌&&◌, List, [], ◌∷◌, map, ltb, leb, eqb}
use Rattle.rules.specs.declared.Kind.{Kind}
use Rattle.rules.specs.declared.Kind.TheVariants.{Free, Item, Program}
use Rattle.label.specs.declared.Label.{Label}
use Rattle.label.specs.Tags.{label_of}
use Rattle.entity.specs.declared.Entity.{Entity}
use Rattle.monitor.specs.declared.Table.{Table}
use Rattle.layout.specs.declared.HubSlot.{HubSlot}
use Rattle.layout.specs.declared.HubTable.{HubTable}

-- the kind that a number stands for; another than 1 and 2 is that of a free slot
abbrev pub kind_numbered : ℕ → Kind
kind_numbered n = cond (eqb n 1) Item (cond (eqb n 2) Program Free)

abbrev pub kind_number : Kind → ℕ
kind_number Free = 0
kind_number Item = 1
kind_number Program = 2

-- the number of a kind, 0 to 2, stands in every slot
abbrev pub kinds_known : List HubSlot → Bool
kinds_known [] = true
kinds_known (s ∷ ss) = leb s.kind 2 && kinds_known ss

-- a slot of another kind gets a length that no entity has, so that its table lacks the form
abbrev pub no_len : ℕ
no_len = 65

abbrev pub len_of : ℕ → ℕ → ℕ
len_of kind len = cond (ltb 2 kind) no_len len

abbrev pub slot_entity : HubSlot → Entity
slot_entity s = record {
  kind = kind_numbered s.kind;
  sec = label_of s.sec;
  int = label_of s.int;
  sa = label_of s.sa;
  sd = label_of s.sd;
  ia = label_of s.ia;
  id = label_of s.id;
  len = len_of s.kind s.len;
}

abbrev pub slot_as : Entity → HubSlot
slot_as e = record {
  kind = kind_number e.kind;
  sec = e.sec.bits;
  int = e.int.bits;
  sa = e.sa.bits;
  sd = e.sd.bits;
  ia = e.ia.bits;
  id = e.id.bits;
  len = e.len;
}

-- a label's number; `label_of` is the way back
abbrev pub bits_of : Label → ℕ
bits_of l = l.bits

unfoldable pub table_of : HubTable → Table
table_of t = record { entities = map slot_entity t.slots; content = t.content; groups = map label_of t.groups; most = t.most; count = t.count }

unfoldable pub struct_of : Table → HubTable
struct_of t = record { slots = map slot_as t.entities; content = t.content; groups = map bits_of t.groups; most = t.most; count = t.count }
