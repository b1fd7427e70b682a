-- Entities as the rules have them.
-- Assumes nothing.
use Rattle.std.specs.Prelude.{List, [], ℕ, take}
use Rattle.rules.specs.declared.Kind.TheVariants.{Free}
use Rattle.rules.specs.Table.{Rights, Slot}
use Rattle.label.specs.Tags.{empty}
use Rattle.label.specs.Words.{words}
use Rattle.entity.specs.declared.Entity.{Entity}

abbrev pub free_entity : Entity
free_entity = record { kind = Free; sec = empty; int = empty; sa = empty; sd = empty; ia = empty; id = empty; len = 0 }

abbrev pub rights_of : Entity → Rights words
rights_of e = record { sa = e.sa; sd = e.sd; ia = e.ia; id = e.id }

-- the slot of an entity, its content the front of a block; and with no content
abbrev pub slot_of : Entity → List ℕ → Slot words
slot_of e block = record { kind = e.kind; sec = e.sec; int = e.int; rights = rights_of e; content = take e.len block }

abbrev pub bare : Entity → Slot words
bare e = record { kind = e.kind; sec = e.sec; int = e.int; rights = rights_of e; content = [] }

-- the entity of a slot, with a content of n bytes
abbrev pub entity_as : Slot words → ℕ → Entity
entity_as a n = record { kind = a.kind; sec = a.sec; int = a.int; sa = a.rights.sa; sd = a.rights.sd; ia = a.rights.ia; id = a.rights.id; len = n }
