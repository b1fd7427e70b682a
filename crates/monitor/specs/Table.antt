-- The table of the hub: what it holds, the form that refusal 99 asks for, and what the rules read of it and write to it.
-- Assumes nothing.
use Rattle.std.specs.List.{list_all}
use Rattle.std.specs.Prelude.{◌≡◌, ℕ, ◌-◌, Bool, cond, ◌&&◌, List, ◌++◌, map, ltb, leb, eqb, length, get_or, set, take, drop, replicate}
use Rattle.rules.specs.Bounded.{all_below}
use Rattle.rules.specs.Table.{Tables, parts_formed}
use Rattle.label.specs.declared.Group.{Group}
use Rattle.label.specs.declared.Label.{Label}
use Rattle.label.specs.Tags.{group_formed, empty}
use Rattle.label.specs.Words.{words}
use Rattle.entity.specs.declared.Entity.{Entity}
use Rattle.entity.specs.Entity.{free_entity, bare, slot_of, entity_as}
use Rattle.block.specs.Block.{all_zero, padded, block_at, with_block}
use Rattle.groups.specs.Groups.{with_numbers}
use Rattle.monitor.specs.declared.Table.{Table}

-- what stands in a slot; a slot above 31 counts as free
unfoldable pub entity_at : Table → ℕ → Entity
entity_at t k = cond (ltb k 32) (get_or t.entities k free_entity) free_entity

-- ---- 99

-- an entity has the form, and the bytes of its block beyond its content's length are zero
abbrev pub well_placed : Entity → List ℕ → Bool
well_placed e block = parts_formed (bare e) e.len && all_zero (drop e.len block)

unfoldable pub place_formed : Table → ℕ → Bool
place_formed t k = well_placed (entity_at t k) (block_at t.content k)

-- the groups that count, each with its number
abbrev pub groups_of : Table → List Group
groups_of t = take t.count (with_numbers t.groups t.most)

-- the tags of the group at a place, and its number; a place that no array has counts as one that is not used
abbrev pub tags_in : Table → ℕ → Label
tags_in t i = get_or t.groups i empty

abbrev pub most_in : Table → ℕ → ℕ
most_in t i = get_or t.most i 1

-- one that is not used holds the empty set and 1
pub record Unused (t : Table) (i : ℕ) : Type 0 where
  pub tags : tags_in t i ≡ empty
  pub most : most_in t i ≡ 1

-- the sizes of the arrays: 32 slots, 2,048 content bytes, and places for 8 groups and their numbers
unfoldable pub sized : Table → Bool
sized t = (eqb (length t.entities) 32 && eqb (length t.content) 2048) && (eqb (length t.groups) 8 && eqb (length t.most) 8)

-- the arrays have these sizes, at most 8 groups count, each with a number from 1 to 64, and each slot is in form
unfoldable pub formed : Table → Bool
formed t = sized t && ((leb t.count 8 && list_all group_formed (groups_of t)) && all_below 32 (place_formed t))

-- ---- what the rules read and write

-- the table with an entity and its block in slot k; a number above 31 names no slot
unfoldable pub with_slot : Table → ℕ → Entity → List ℕ → Table
with_slot t k e block =
    cond (ltb k 32)
    (record { entities = set t.entities k e; content = with_block t.content k block; groups = t.groups; most = t.most; count = t.count })
    t

abbrev pub hub : Tables words
hub = record {
  Table = Table;
  formed = formed;
  slot = λ t k. slot_of (get_or t.entities k free_entity) (block_at t.content k);
  groups = groups_of;
  store = λ t k a. with_slot t k (entity_as a (length a.content)) (padded a.content);
}

-- ---- the empty table

unfoldable pub no_content : List ℕ
no_content = replicate 2048 0

unfoldable pub empty_table : Table
empty_table = record { entities = replicate 32 free_entity; content = no_content; groups = replicate 8 empty; most = replicate 8 1; count = 0 }

-- the empty table with these groups, at most 8; the places behind them are not used
unfoldable pub empty_with : List Group → Table
empty_with gs = record {
  entities = empty_table.entities;
  content = empty_table.content;
  groups = map (λ g. g.tags) gs ++ replicate (8 - length gs) empty;
  most = map (λ g. g.most) gs ++ replicate (8 - length gs) 1;
  count = length gs;
}
