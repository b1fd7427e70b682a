-- The places of groups in a loaded table: those that are not used, and their numbers where the text gives none.
-- Assumes nothing.
use mathlib.Core.Path.{◌≡◌, refl, ap, ◌∙◌, subst}
use mathlib.Core.Bool.{Bool, true, false, cond}
use mathlib.Core.List.{List, [], ◌∷◌, ◌++◌, map}
use Rattle.std.specs.Prelude.{Option, None, Some, Ok, Err}
use Rattle.std.specs.Option.{option_map_or}
use Prim.Native.Nat.{ℕ, zero, suc, ◌+◌, ◌-◌, ◌≤◌}
use native.Mathlib.Omega.{arith}
use lib.Dec.{ltb, eqb}
use lib.ListN.{length, get_or, replicate}
use Rattle.rules.specs.Table.{is_free}
use Rattle.rules.proofs.Facts.{and_left, and_right, either}
use Rattle.label.specs.declared.Group.{Group}
use Rattle.label.specs.declared.Label.{Label}
use Rattle.label.specs.Tags.{empty}
use Rattle.entity.specs.declared.Entity.{Entity}
use Rattle.monitor.specs.declared.Table.{Table}
use Rattle.monitor.specs.Table.{most_in, Unused, entity_at, with_slot, empty_table, empty_with}
use Rattle.monitor.proofs.Empty.{empty-none}
use Rattle.text.specs.Lines.{Lines, done, cut, line, fields_in}
use Rattle.grouprows.specs.declared.GroupColumns.{GroupColumns}
use Rattle.grouprows.specs.Groups.{plain_names, group_columns, group_of}
use Rattle.grouprows.proofs.Laws.{row_one, plain_numbers}
use Rattle.rows.specs.declared.EntityColumns.{EntityColumns}
use Rattle.rows.specs.Entities.{EntitySaid, entity_columns, entity_of}
use Rattle.textblocks.specs.Blocks.{start, names_at, rows_at, groups_at, group_columns_in}
use Rattle.std.specs.List.{list_all}
use borrow.Author.Tests.{eqb-true, eq-eqb}
use Rattle.load.proofs.Rows.{gathered, empty-count}
use Rattle.load.specs.Tables.{Stored, none_stored, with_entity, fill, groups_in, entities_on, entities_in, table_in}
use Rattle.load.specs.Load.{Verdict, verdict_of, on_accepted, load_of}
use Rattle.load.specs.Claims.{PlacesUnused, OnesWithoutNumbers}

-- ---- storing entities leaves the groups as they are

record SameGroups (t u : Table) : Type 0 where
  groups : u.groups ≡ t.groups
  most : u.most ≡ t.most
  count : u.count ≡ t.count

stored : (t : Table) (k : ℕ) (e : Entity) (b : List ℕ) → SameGroups t (with_slot t k e b)
unfolding with_slot
stored t k e b = either (ltb k 32) (λ q. rw q (record { groups = refl; most = refl; count = refl })) (λ q. rw q (record { groups = refl; most = refl; count = refl }))

joined : (t u v : Table) → SameGroups t u → SameGroups u v → SameGroups t v
joined t u v a b = record { groups = b.groups ∙ a.groups; most = b.most ∙ a.most; count = b.count ∙ a.count }

one_of : (t : Table) (b : Bool) (u v : Stored) → SameGroups t u.table → SameGroups t v.table → SameGroups t (cond b u v).table
one_of t true u v p q = p
one_of t false u v p q = q

filled : (cs : EntityColumns) (ls : Lines) (n : ℕ) (s : Stored) → SameGroups s.table (fill cs n s ls).table
unfolding fill with_entity
filled cs done n s = record { groups = refl; most = refl; count = refl }
filled cs cut n s = record { groups = refl; most = refl; count = refl }
filled cs (line l ls) n s = go (entity_of cs (fields_in l)) (λ y. filled cs ls (n + 1) (with_entity n s y))
  where
    go : (o : Option EntitySaid) → ((y : EntitySaid) → SameGroups (with_entity n s y).table (fill cs (n + 1) (with_entity n s y) ls).table)
        → SameGroups s.table (option_map_or (λ e. cond (is_free (entity_at s.table e.slot).kind) (fill cs (n + 1) (with_entity n s e) ls) (record { twice = Some n; breaks = s.breaks; table = s.table })) o s).table
    go None ih = record { groups = refl; most = refl; count = refl }
    go (Some y) ih = one_of s.table (is_free (entity_at s.table y.slot).kind) _ _ (joined s.table _ _ (stored s.table y.slot y.entity _) (ih y)) (record { groups = refl; most = refl; count = refl })

-- ---- the places of an empty table with groups

behind : {A : Type 0} (n i : ℕ) (d : A) → get_or (replicate n d) i d ≡ d
behind zero i d = refl
behind (suc n) zero d = refl
behind (suc n) (suc i) d = behind n i d

beyond : {A : Type 0} (f : Group → A) (d : A) (n : ℕ) (gs : List Group) (i : ℕ) → length gs ≤ i → get_or (map f gs ++ replicate n d) i d ≡ d
beyond f d n [] i l = behind n i d
beyond f d n (g ∷ gs) zero l = absurd (omega (arith, l))
beyond f d n (g ∷ gs) (suc i) l = beyond f d n gs i (omega (arith, l))

with_unused : (gs : List Group) (i : ℕ) → (empty_with gs).count ≤ i → Unused (empty_with gs) i
unfolding empty_with
with_unused gs i l = record { tags = beyond (λ g. g.tags) empty (8 - length gs) gs i l; most = beyond (λ g. g.most) 1 (8 - length gs) gs i l }

-- ---- a text without numbers

is_one : Group → Bool
is_one g = eqb g.most 1

one_row : (cs : GroupColumns) → cs.numbered ≡ false → (fs : List (List ℕ)) (g : Group) → group_of cs fs ≡ Some g → is_one g ≡ true
unfolding is_one
one_row cs p fs g e = eq-eqb g.most 1 (row_one cs fs g p e)

one_at : (n : ℕ) (gs : List Group) (i : ℕ) → list_all is_one gs ≡ true → get_or (map (λ g. g.most) gs ++ replicate n 1) i 1 ≡ 1
unfolding is_one
one_at n [] i h = behind n i 1
one_at n (g ∷ gs) zero h = eqb-true g.most 1 (and_left (eqb g.most 1) _ h)
one_at n (g ∷ gs) (suc i) h = one_at n gs i (and_right (eqb g.most 1) _ h)

-- ---- the table of a text

module _ (text : List ℕ) where
  same : SameGroups (empty_with (groups_in text)) (table_in text)
  unfolding table_in entities_in entities_on
  same = filled (entity_columns (names_at text start)) (rows_at text start) 2 (none_stored (empty_with (groups_in text)))

  unused : (i : ℕ) → (table_in text).count ≤ i → Unused (table_in text) i
  unused i l =
      let u = with_unused (groups_in text) i (rw same.count at l) in record {
        tags = ap (λ (gs : List Label). get_or gs i empty) same.groups ∙ u.tags;
        most = ap (λ (ns : List ℕ). get_or ns i 1) same.most ∙ u.most;
      }

  ones : names_at text (groups_at text) ≡ plain_names → (i : ℕ) → most_in (table_in text) i ≡ 1
  unfolding groups_in group_columns_in empty_with
  ones e i =
      ap (λ (ns : List ℕ). get_or ns i 1) same.most
      ∙ one_at _ (groups_in text) i (gathered (group_columns_in text) is_one (one_row (group_columns_in text) (ap (λ (hs : List (List ℕ)). (group_columns hs).numbered) e ∙ plain_numbers)) (rows_at text (groups_at text)) [] refl)

empty_unused : (i : ℕ) → Unused empty_table i
empty_unused i = subst (λ (t : Table). Unused t i) empty-none (with_unused [] i (omega (arith, empty-count [])))

pub places_unused : PlacesUnused
unfolding load_of
places_unused text i = go (verdict_of text)
  where
    go : (v : Verdict) → (on_accepted v (table_in text) empty_table).count ≤ i → Unused (on_accepted v (table_in text) empty_table) i
    go (Ok tt) l = unused text i l
    go (Err f) l = empty_unused i

pub ones_without_numbers : OnesWithoutNumbers
unfolding load_of
ones_without_numbers text e i = go (verdict_of text)
  where
    go : (v : Verdict) → most_in (on_accepted v (table_in text) empty_table) i ≡ 1
    go (Ok tt) = ones text e i
    go (Err f) = (empty_unused i).most
