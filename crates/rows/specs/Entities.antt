-- Document 01, 'The text': one line of values of the entities.
-- Assumes nothing.
use Rattle.std.specs.Prelude.{ℕ, Bool, cond, not, ◌&&◌, Option, None, Some, List, length, eqb}
use Rattle.rules.specs.declared.Kind.{Kind}
use Rattle.rules.specs.declared.Kind.TheVariants.{Item, Program}
use Rattle.rules.specs.Table.{is_free, parts_formed}
use Rattle.entity.specs.declared.Entity.{Entity}
use Rattle.entity.specs.Entity.{bare}
use Rattle.block.specs.Block.{padded}
use Rattle.text.specs.Ascii.{ascii}
use Rattle.text.specs.Bytes.{eq_bytes}
use Rattle.values.specs.Values.{decimal_of, hex_set_of, data_of}
use Rattle.text.specs.Lines.{column_of, field_at}
use Rattle.values.specs.Options.{◌>>=◌}
use Rattle.rows.specs.declared.EntityColumns.{EntityColumns}
use Rattle.rows.specs.declared.EntityRow.{EntityRow}

-- the columns under a line of names
unfoldable pub entity_columns : List (List ℕ) → EntityColumns
entity_columns hs = record {
  slot = column_of (ascii "slot") hs;
  kind = column_of (ascii "kind") hs;
  sec = column_of (ascii "sec") hs;
  int = column_of (ascii "int") hs;
  sa = column_of (ascii "sa") hs;
  sd = column_of (ascii "sd") hs;
  ia = column_of (ascii "ia") hs;
  id = column_of (ascii "id") hs;
  content = column_of (ascii "data") hs;
}

-- `item` or `prog`
unfoldable pub kind_named : List ℕ → Option Kind
kind_named f = cond (eq_bytes f (ascii "item")) (Some Item) (cond (eq_bytes f (ascii "prog")) (Some Program) None)

-- An entity of the text is an item or a program, and has the form of the table: an item has no rights
unfoldable pub entity_formed : Entity → Bool
entity_formed e = not (is_free e.kind) && parts_formed (bare e) e.len

-- what a line says: a slot, the entity in it, and its content
pub record EntitySaid : Type 0 where
  pub slot : ℕ
  pub entity : Entity
  pub content : List ℕ

-- the entity of the line whose fields are fs, in the columns cs, with a content of n bytes
unfoldable pub entity_in : EntityColumns → List (List ℕ) → ℕ → Option Entity
entity_in cs fs n = do
  k ← kind_named (field_at fs cs.kind)
  s ← hex_set_of (field_at fs cs.sec)
  i ← hex_set_of (field_at fs cs.int)
  a ← hex_set_of (field_at fs cs.sa)
  b ← hex_set_of (field_at fs cs.sd)
  c ← hex_set_of (field_at fs cs.ia)
  d ← hex_set_of (field_at fs cs.id)
  Some (record { kind = k; sec = s; int = i; sa = a; sd = b; ia = c; id = d; len = n })

-- the line whose fields are fs, in the columns cs
unfoldable pub entity_of : EntityColumns → List (List ℕ) → Option EntitySaid
entity_of cs fs =
    cond (eqb (length fs) 9)
    (do
      k ← decimal_of 31 (field_at fs cs.slot)
      bs ← data_of 64 (field_at fs cs.content)
      e ← entity_in cs fs (length bs)
      cond (entity_formed e) (Some (record { slot = k; entity = e; content = bs })) None)
    None

-- what the code answers
abbrev pub as_entity_row : EntitySaid → EntityRow
as_entity_row e = record { slot = e.slot; entity = e.entity; block = padded e.content }
