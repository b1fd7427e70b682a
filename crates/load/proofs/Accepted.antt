-- Every text loads as an accepted table.
-- Assumes nothing.
use mathlib.Core.Path.{◌≡◌, refl, sym, ap, ap₂, subst, ◌∙◌}
use mathlib.Core.Bool.{Bool, true, false, cond, not, ◌||◌}
use mathlib.Core.List.{List, [], ◌∷◌, ◌++◌}
use Rattle.std.specs.List.{list_all}
use Rattle.std.specs.Prelude.{Option, None, Some, Ok, Err}
use Rattle.std.specs.Option.{option_or, option_map_or}
use Prim.Native.Nat.{ℕ, ◌+◌, ◌≤◌, ◌<◌}
use native.Mathlib.Omega.{arith}
use lib.Dec.{eqb, ltb}
use lib.ListN.{length, length-append}
use borrow.Author.Tests.{ltb-true}
use Rattle.rules.specs.Table.{Slot, is_free, slot_keeps, slot_formed, keeps_all, parts_formed, accepted}
use Rattle.rules.proofs.Facts.{and_right, both}
use Rattle.rules.proofs.Bounded.{all_of}
use Rattle.label.specs.declared.Group.{Group}
use Rattle.label.specs.Tags.{group_formed}
use Rattle.label.specs.Words.{words}
use Rattle.entity.specs.declared.Entity.{Entity}
use Rattle.entity.specs.Entity.{rights_of, bare}
use Rattle.block.specs.Block.{padded}
use Rattle.monitor.specs.declared.Table.{Table}
use Rattle.monitor.specs.Table.{entity_at, formed, groups_of, with_slot, hub, empty_table, empty_with}
use Rattle.monitor.proofs.Form.{hub_laws}
use Rattle.monitor.proofs.Empty.{empty-entity, empty-none, empty_form}
use Rattle.text.specs.Lines.{Lines, done, cut, line, fields_in}
use Rattle.grouprows.specs.declared.GroupColumns.{GroupColumns}
use Rattle.grouprows.specs.Groups.{group_of}
use Rattle.rows.specs.declared.EntityColumns.{EntityColumns}
use Rattle.rows.specs.Entities.{EntitySaid, entity_columns, entity_formed, entity_of}
use Rattle.textblocks.specs.Blocks.{start, bad_line, names_at, rows_at, groups_at, group_columns_in}
use Rattle.rules.specs.declared.Refusal.{Refusal}
use Rattle.rules.specs.declared.Refusal.TheVariants.{TextTooLong, BadLine, SlotTwice, EntityBreaksGroup}
use Rattle.load.specs.Tables.{Stored, groups_from, none_stored, breaks_at, with_entity, fill, groups_in, entities_on, entities_in, table_in}
use Rattle.load.specs.Load.{Verdict, refuse_at, verdict_of, on_accepted, load_of}
use Rattle.load.specs.Claims.{LoadsAccepted}
use Rattle.grouprows.proofs.Laws.{row_formed}
use Rattle.load.proofs.Rows.{gathered}
use Rattle.load.proofs.EntityLines.{Sound, row_sound}

-- ---- tables whose entities keep to their groups

pub record Keeping (t : Table) : Type 0 where
  pub form : formed t ≡ true
  pub keeps : (i : ℕ) → i < 32 → slot_keeps (groups_of t) (hub.slot t i) ≡ true

keeping_accepted : (t : Table) → Keeping t → accepted hub t ≡ true
keeping_accepted t k = both (formed t) _ k.form (all_of 32 (λ i. slot_keeps (groups_of t) (hub.slot t i)) k.keeps)

-- groups that a table may have
record Allowed (gs : List Group) : Type 0 where
  few : length gs ≤ 8
  each : list_all group_formed gs ≡ true

empty_keeping : (gs : List Group) → Allowed gs → Keeping (empty_with gs)
unfolding empty_with
empty_keeping gs h = record {
  form = empty_form gs h.few h.each;
  keeps = λ i l. ap (λ (x : Entity). is_free x.kind || keeps_all (groups_of (empty_with gs)) (bare x)) (empty-entity i l);
}

-- the slot of an entity's line, and the line stored as the rules store it
abbrev slot_in : EntitySaid → Slot words
slot_in y = record { kind = y.entity.kind; sec = y.entity.sec; int = y.entity.int; rights = rights_of y.entity; content = y.content }

stored : (t : Table) (y : EntitySaid) → y.entity.len ≡ length y.content
    → with_slot t y.slot y.entity (padded y.content) ≡ hub.store t y.slot (slot_in y)
stored t y e = ap (λ (n : ℕ). with_slot t y.slot (record { kind = y.entity.kind; sec = y.entity.sec; int = y.entity.int; sa = y.entity.sa; sd = y.entity.sd; ia = y.entity.ia; id = y.entity.id; len = n }) (padded y.content)) e

slot-formed : (y : EntitySaid) → Sound y → slot_formed {A = words} (slot_in y) ≡ true
unfolding entity_formed
slot-formed y s =
    let e = y.entity in
    ap (λ (n : ℕ). parts_formed (bare e) n) (sym s.len) ∙ and_right (not (is_free e.kind)) _ s.formed

keep_more : (t : Table) (y : EntitySaid) → Keeping t → Sound y → keeps_all (groups_of t) (bare y.entity) ≡ true
    → Keeping (with_slot t y.slot y.entity (padded y.content))
keep_more t y k s h = rw (stored t y s.len) (record {
  form = hub_laws.store_formed t y.slot (slot_in y) k.form s.slot f;
  keeps = λ i l. ap₂ (λ (gs : List Group) (x : Slot words). slot_keeps gs x) (hub_laws.store_groups t y.slot (slot_in y) k.form s.slot f) (hub_laws.store_slot t y.slot (slot_in y) k.form s.slot f i l) ∙ go i l (eqb i y.slot);
})
  where
    f : slot_formed {A = words} (slot_in y) ≡ true
    f = slot-formed y s

    or-true : (b : Bool) → b || true ≡ true
    or-true true = refl
    or-true false = refl

    go : (i : ℕ) → i < 32 → (b : Bool) → slot_keeps (groups_of t) (cond b (slot_in y) (hub.slot t i)) ≡ true
    go i l true = ap (λ (x : Bool). is_free y.entity.kind || x) h ∙ or-true (is_free y.entity.kind)
    go i l false = k.keeps i l

-- ---- storing rows: where none breaks a group, the table keeps to its groups

abbrev Kept : Stored → Type 0
Kept s = s.breaks ≡ None → Keeping s.table

entity-kept : (n : ℕ) (s : Stored) (y : EntitySaid) → Sound y → Kept s → Kept (with_entity n s y)
unfolding with_entity breaks_at
entity-kept n s y d k e = go (keeps_all (groups_of s.table) (bare y.entity)) refl e
  where
    breaks : (o : Option ℕ) → option_or o (Some n) ≡ None → ⊥
    breaks None q = cc
    breaks (Some m) q = cc

    go : (b : Bool) → keeps_all (groups_of s.table) (bare y.entity) ≡ b → cond b s.breaks (option_or s.breaks (Some n)) ≡ None
        → Keeping (with_slot s.table y.slot y.entity (padded y.content))
    go true h q = keep_more s.table y (k q) d h
    go false h q = absurd (breaks s.breaks q)

either_kept : (b : Bool) (u v : Stored) → Kept u → Kept v → Kept (cond b u v)
either_kept true u v p q = p
either_kept false u v p q = q

fill-keeps : (cs : EntityColumns) (ls : Lines) (n : ℕ) (s : Stored) → Kept s → Kept (fill cs n s ls)
unfolding fill
fill-keeps cs done n s k = k
fill-keeps cs cut n s k = k
fill-keeps cs (line l ls) n s k = go (entity_of cs (fields_in l)) refl (λ u j. fill-keeps cs ls (n + 1) u j)
  where
    go : (o : Option EntitySaid) → entity_of cs (fields_in l) ≡ o → ((u : Stored) → Kept u → Kept (fill cs (n + 1) u ls))
        → Kept (option_map_or (λ e. cond (is_free (entity_at s.table e.slot).kind) (fill cs (n + 1) (with_entity n s e) ls) (record { twice = Some n; breaks = s.breaks; table = s.table })) o s)
    go None e ih = k
    go (Some y) e ih = either_kept (is_free (entity_at s.table y.slot).kind) _ _ (ih (with_entity n s y) (entity-kept n s y (row_sound cs (fields_in l) y e) k)) k

-- at most 8 groups, each with a number from 1 to 64
few : (cs : GroupColumns) (ls : Lines) (gs : List Group) → length gs ≤ 8 → length (groups_from cs gs ls) ≤ 8
unfolding groups_from
few cs done gs h = h
few cs cut gs h = h
few cs (line l ls) gs h = go (group_of cs (fields_in l)) (ltb (length gs) 8) refl (λ g k. few cs ls (gs ++ (g ∷ [])) (omega (arith, length-append gs (g ∷ []))))
  where
    go : (o : Option Group) (b : Bool) → ltb (length gs) 8 ≡ b → ((g : Group) → length gs < 8 → length (groups_from cs (gs ++ (g ∷ [])) ls) ≤ 8)
        → length (option_map_or (λ g. cond b (groups_from cs (gs ++ (g ∷ [])) ls) gs) o gs) ≤ 8
    go None b e ih = h
    go (Some g) true e ih = ih g (ltb-true (length gs) 8 e)
    go (Some g) false e ih = h

all_allowed : (cs : GroupColumns) (ls : Lines) → Allowed (groups_from cs [] ls)
all_allowed cs ls = record { few = few cs ls [] (omega arith); each = gathered cs group_formed (row_formed cs) ls [] refl }

none_allowed : Allowed []
none_allowed = record { few = omega arith; each = refl }

-- ---- loading

passed : (r : Refusal) (l : Option ℕ) (v : Verdict) → refuse_at r l v ≡ Ok tt → (l ≡ None) × (v ≡ Ok tt)
unfolding refuse_at
passed r None v e = (refl, e)
passed r (Some n) v e = cc

module _ (text : List ℕ) where
  -- no line of an accepted text is bad, and none breaks a group
  lines_good : verdict_of text ≡ Ok tt → (bad_line text ≡ None) × ((entities_in text).breaks ≡ None)
  unfolding verdict_of
  lines_good e = go (ltb 65535 (length text)) e
    where
      go : (b : Bool)
          → cond b (Err (record { refusal = TextTooLong; line = 0 }))
          (refuse_at BadLine (bad_line text) (refuse_at SlotTwice (entities_in text).twice (refuse_at EntityBreaksGroup (entities_in text).breaks (Ok tt)))) ≡ Ok tt
          → (bad_line text ≡ None) × ((entities_in text).breaks ≡ None)
      go true q = cc
      go false q =
          let r = passed BadLine (bad_line text) _ q in
          (r.0, (passed EntityBreaksGroup _ (Ok tt) (passed SlotTwice (entities_in text).twice _ r.1).1).0)

  pub bad_none : verdict_of text ≡ Ok tt → bad_line text ≡ None
  bad_none e = (lines_good e).0

  table_keeping : (entities_in text).breaks ≡ None → Keeping (table_in text)
  unfolding table_in entities_in entities_on groups_in
  table_keeping b =
      fill-keeps (entity_columns (names_at text start)) (rows_at text start) 2 (none_stored (empty_with (groups_in text)))
      (λ e. empty_keeping (groups_in text) (all_allowed (group_columns_in text) (rows_at text (groups_at text)))) b

pub loads_accepted : LoadsAccepted
unfolding load_of
loads_accepted text = go (verdict_of text) refl
  where
    go : (v : Verdict) → verdict_of text ≡ v → accepted hub (on_accepted v (table_in text) empty_table) ≡ true
    go (Ok tt) e = keeping_accepted (table_in text) (table_keeping text (lines_good text e).1)
    go (Err f) e = keeping_accepted empty_table (subst Keeping empty-none (empty_keeping [] none_allowed))
