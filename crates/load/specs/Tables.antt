-- Document 01, 'The text': the entities and groups of a text whose lines have the form, 16 and 17.
-- Assumes nothing.
use Rattle.std.specs.Prelude.{ℕ, ◌+◌, Bool, Option, None, Some, cond, List, [], ◌∷◌, ◌++◌, length, ltb}
use Rattle.std.specs.Option.{option_or, option_map_or}
use Rattle.rules.specs.Table.{is_free, keeps_all}
use Rattle.label.specs.declared.Group.{Group}
use Rattle.entity.specs.Entity.{bare}
use Rattle.block.specs.Block.{padded}
use Rattle.monitor.specs.declared.Table.{Table}
use Rattle.monitor.specs.Table.{entity_at, groups_of, with_slot, empty_with}
use Rattle.text.specs.Lines.{Lines, done, cut, line, fields_in}
use Rattle.grouprows.specs.declared.GroupColumns.{GroupColumns}
use Rattle.grouprows.specs.Groups.{group_of}
use Rattle.rows.specs.declared.EntityColumns.{EntityColumns}
use Rattle.rows.specs.Entities.{EntitySaid, entity_columns, entity_of}
use Rattle.textblocks.specs.Blocks.{start, groups_at, names_at, rows_at, group_columns_in}
use Rattle.load.specs.declared.Marks.{Marks}

-- ---- the groups

module _ (cs : GroupColumns) where
  -- the groups of rows, after those that are held, up to a row that is no group, as an empty line is none; at most 8
  unfoldable pub groups_from : List Group → Lines → List Group
  groups_from gs done = gs
  groups_from gs cut = gs
  groups_from gs (line l ls) = option_map_or (λ g. cond (ltb (length gs) 8) (groups_from (gs ++ (g ∷ [])) ls) gs) (group_of cs (fields_in l)) gs

-- ---- the entities, 16 and 17

-- the table that entities are stored in; the first line whose slot an earlier one names; the first line before it whose entity
-- breaks a group
pub record Stored : Type 0 where
  pub twice : Option ℕ
  pub breaks : Option ℕ
  pub table : Table

-- a table in which nothing is stored yet
abbrev pub none_stored : Table → Stored
none_stored t = record { twice = None; breaks = None; table = t }

-- the first line whose entity breaks a group, which is the one so far, if there is one, or line n
unfoldable pub breaks_at : Option ℕ → Bool → ℕ → Option ℕ
breaks_at first keeps n = cond keeps first (option_or first (Some n))

-- what is stored, with the entity of line n
unfoldable pub with_entity : ℕ → Stored → EntitySaid → Stored
with_entity n s e = record {
  twice = s.twice;
  breaks = breaks_at s.breaks (keeps_all (groups_of s.table) (bare e.entity)) n;
  table = with_slot s.table e.slot e.entity (padded e.content);
}

module _ (cs : EntityColumns) where
  -- What is stored, with the entities of rows from line n on, up to a row that is no entity, as an empty line is none, or one
  -- whose slot an earlier one names
  unfoldable pub fill : ℕ → Stored → Lines → Stored
  fill n s done = s
  fill n s cut = s
  fill n s (line l ls) =
      option_map_or
      (λ e. cond (is_free (entity_at s.table e.slot).kind) (fill (n + 1) (with_entity n s e) ls) (record { twice = Some n; breaks = s.breaks; table = s.table }))
      (entity_of cs (fields_in l)) s

-- ---- the table of a text

module _ (text : List ℕ) where
  unfoldable pub groups_in : List Group
  groups_in = groups_from (group_columns_in text) [] (rows_at text (groups_at text))

  -- the entities, stored in a table; the first row is line 2
  unfoldable pub entities_on : Table → Stored
  entities_on t = fill (entity_columns (names_at text start)) 2 (none_stored t) (rows_at text start)

  unfoldable pub entities_in : Stored
  entities_in = entities_on (empty_with groups_in)

  unfoldable pub table_in : Table
  table_in = entities_in.table

-- what the code answers, and the table that it leaves
abbrev pub stored : Marks → Table → Stored
stored m t = record { twice = m.twice; breaks = m.breaks; table = t }
