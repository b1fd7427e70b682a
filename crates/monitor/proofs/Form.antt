-- What the form of a table tells of its slots, and that the hub's table has the laws of tables.
-- Assumes nothing.
use mathlib.Core.Path.{◌≡◌, refl, sym, ap, ◌∙◌}
use mathlib.Core.Bool.{Bool, true, false, cond, ◌&&◌}
use mathlib.Core.List.{List}
use Prim.Native.Nat.{ℕ, ◌≤◌, ◌<◌}
use native.Mathlib.Omega.{arith}
use lib.Dec.{ltb, leb, eqb}
use lib.ListN.{length, get_or, set, drop, length-set}
use lib.Seq.{get_or-set_same, get_or-set_other}
use borrow.Author.Tests.{ltb-true, ltb-false, lt-ltb, leb-true, eqb-true, eqb-false, eq-eqb}
use Rattle.std.specs.List.{list_all}
use Rattle.rules.specs.Bounded.{all_below}
use Rattle.rules.specs.Table.{Slot, parts_formed, slot_formed, at}
use Rattle.rules.specs.Laws.{TableLaws}
use Rattle.rules.proofs.Facts.{and_left, and_right, both, either}
use Rattle.rules.proofs.Bounded.{all-at, all_of}
use Rattle.label.specs.Tags.{group_formed}
use Rattle.label.specs.Words.{words}
use Rattle.label.proofs.Words.{words_order}
use Rattle.entity.specs.declared.Entity.{Entity}
use Rattle.entity.specs.Entity.{free_entity, bare, slot_of, entity_as}
use Rattle.block.specs.Block.{all_zero, no_block, padded, block_at, with_block}
use Rattle.block.proofs.Lists.{block-length, block_out, set_length, set_same, set_other, zero-drop}
use Rattle.block.proofs.Padding.{cut_length, cut_padded, padded-length, padded_front, padded_rest}
use Rattle.monitor.specs.declared.Table.{Table}
use Rattle.monitor.specs.Table.{entity_at, well_placed, place_formed, groups_of, sized, formed, with_slot, hub}

-- a slot that a number names, by its entity and its block
abbrev pub seen : Table → ℕ → Slot words
seen t i = slot_of (entity_at t i) (block_at t.content i)

pub entity-in : (t : Table) (i : ℕ) → i < 32 → entity_at t i ≡ get_or t.entities i free_entity
unfolding entity_at
entity-in t i l = rw (lt-ltb i 32 l)

pub placed : (t : Table) (i : ℕ) → i < 32 → place_formed t i ≡ well_placed (get_or t.entities i free_entity) (block_at t.content i)
unfolding place_formed
placed t i l = ap (λ (x : Entity). well_placed x (block_at t.content i)) (entity-in t i l)

pub at_seen : (t : Table) (i : ℕ) → at hub t i ≡ seen t i
unfolding entity_at
at_seen t i = either (ltb i 32) (λ e. rw e) (λ e. rw e)

-- ---- a table in form

module _ (t : Table) (f : formed t ≡ true) where
  pub sizes : sized t ≡ true
  unfolding formed
  sizes = and_left (sized t) _ f

  pub slots_length : length t.entities ≡ 32
  unfolding sized
  slots_length = eqb-true _ _ (and_left (eqb (length t.entities) 32) _ (and_left (eqb (length t.entities) 32 && eqb (length t.content) 2048) _ sizes))

  pub bytes_length : length t.content ≡ 2048
  unfolding sized
  bytes_length = eqb-true _ _ (and_right (eqb (length t.entities) 32) _ (and_left (eqb (length t.entities) 32 && eqb (length t.content) 2048) _ sizes))

  pub groups_length : length t.groups ≡ 8
  unfolding sized
  groups_length = eqb-true _ _ (and_left (eqb (length t.groups) 8) _ (and_right (eqb (length t.entities) 32 && eqb (length t.content) 2048) _ sizes))

  pub most_length : length t.most ≡ 8
  unfolding sized
  most_length = eqb-true _ _ (and_right (eqb (length t.groups) 8) _ (and_right (eqb (length t.entities) 32 && eqb (length t.content) 2048) _ sizes))

  rest : (leb t.count 8 && list_all group_formed (groups_of t)) && all_below 32 (place_formed t) ≡ true
  unfolding formed
  rest = and_right (sized t) _ f

  pub groups-formed : leb t.count 8 && list_all group_formed (groups_of t) ≡ true
  groups-formed = and_left (leb t.count 8 && list_all group_formed (groups_of t)) _ rest

  pub place : (i : ℕ) → place_formed t i ≡ true
  unfolding place_formed entity_at no_block
  place i = either (ltb i 32) (λ e. all-at 32 (place_formed t) (and_right (leb t.count 8 && list_all group_formed (groups_of t)) _ rest) i (ltb-true i 32 e))
      (λ e. rw (e, block_out t.content i (ltb-false i 32 e), words_order.same_refl _) (zero-drop 0 64))

  module _ (i : ℕ) where
    e : Entity
    e = entity_at t i

    parts : parts_formed (bare e) e.len ≡ true
    unfolding place_formed e
    parts = and_left (parts_formed (bare e) e.len) _ (place i)

    zero_rest : all_zero (drop e.len (block_at t.content i)) ≡ true
    unfolding place_formed e
    zero_rest = and_right (parts_formed (bare e) e.len) _ (place i)

    pub len_le : (entity_at t i).len ≤ 64
    unfolding e
    len_le = leb-true _ _ (and_left (leb e.len 64) _ parts)

    -- a content is as long as its entity says, and with zeros behind it is its block
    pub content_length : length (seen t i).content ≡ (entity_at t i).len
    content_length = cut_length (block_at t.content i) (entity_at t i).len (block-length t.content i bytes_length) len_le

    pub content_padded : padded (seen t i).content ≡ block_at t.content i
    unfolding e
    content_padded = cut_padded (block_at t.content i) (entity_at t i).len (block-length t.content i bytes_length) len_le zero_rest

    seen_formed : slot_formed (seen t i) ≡ true
    unfolding e
    seen_formed = rw content_length parts

-- ---- a table with one slot written

module _ (t : Table) (k : ℕ) (e : Entity) (b : List ℕ) (f : formed t ≡ true) (h : k < 32) (hb : length b ≡ 64) where
  new : with_slot t k e b ≡ record { entities = set t.entities k e; content = with_block t.content k b; groups = t.groups; most = t.most; count = t.count }
  unfolding with_slot
  new = rw (lt-ltb k 32 h)

  pub new_entity : (i : ℕ) → i < 32 → get_or (with_slot t k e b).entities i free_entity ≡ cond (eqb i k) e (get_or t.entities i free_entity)
  new_entity i l = rw new (go (eqb i k) refl)
    where
      go : (y : Bool) → eqb i k ≡ y → get_or (set t.entities k e) i free_entity ≡ cond y e (get_or t.entities i free_entity)
      go true q = rw (eqb-true i k q) (get_or-set_same t.entities k e free_entity (omega (arith, slots_length t f)))
      go false q = get_or-set_other t.entities k i e free_entity (eqb-false i k q)

  pub new_block : (i : ℕ) → block_at (with_slot t k e b).content i ≡ cond (eqb i k) b (block_at t.content i)
  new_block i = rw new (go (eqb i k) refl)
    where
      go : (y : Bool) → eqb i k ≡ y → block_at (with_block t.content k b) i ≡ cond y b (block_at t.content i)
      go true q = rw (eqb-true i k q) (set_same t.content b k h (bytes_length t f) hb)
      go false q = set_other t.content b k h (bytes_length t f) hb i (eqb-false i k q)

  new_sizes : sized (with_slot t k e b) ≡ true
  unfolding sized
  new_sizes = rw new (both _ _
      (both _ _ (eq-eqb _ _ (length-set t.entities k e ∙ slots_length t f)) (eq-eqb _ _ (set_length t.content b k h (bytes_length t f) hb)))
      (both _ _ (eq-eqb _ _ (groups_length t f)) (eq-eqb _ _ (most_length t f))))

  new_groups : groups_of (with_slot t k e b) ≡ groups_of t
  new_groups = rw new

  new_groups_formed : leb (with_slot t k e b).count 8 && list_all group_formed (groups_of (with_slot t k e b)) ≡ true
  new_groups_formed = rw new (groups-formed t f)

module _ (t : Table) (k : ℕ) (a : Slot words) (f : formed t ≡ true) (h : k < 32) (g : slot_formed a ≡ true) where
  short : length a.content ≤ 64
  short = leb-true _ _ (and_left (leb (length a.content) 64) _ g)

  n : Entity
  n = entity_as a (length a.content)

  b : List ℕ
  b = padded a.content

  u : Table
  u = with_slot t k n b

  entity-at : (i : ℕ) → i < 32 → get_or u.entities i free_entity ≡ cond (eqb i k) n (get_or t.entities i free_entity)
  unfolding u b
  entity-at i l = new_entity t k n b f h (padded-length a.content) i l

  block_of : (i : ℕ) → block_at u.content i ≡ cond (eqb i k) b (block_at t.content i)
  unfolding u b
  block_of i = new_block t k n b f h (padded-length a.content) i

  stored_slot : (i : ℕ) → i < 32 → hub.slot (hub.store t k a) i ≡ cond (eqb i k) a (hub.slot t i)
  unfolding u n b
  stored_slot i l = rw (entity-at i l, block_of i) (go (eqb i k))
    where
      go : (y : Bool) → slot_of (cond y n (get_or t.entities i free_entity)) (cond y b (block_at t.content i)) ≡ cond y a (hub.slot t i)
      go true = let z = padded_front a.content short in λ x. record { kind = a.kind; sec = a.sec; int = a.int; rights = a.rights; content = z x }
      go false = refl

  stored_formed : formed (hub.store t k a) ≡ true
  unfolding formed u n b
  stored_formed = both _ _ (new_sizes t k n b f h (padded-length a.content))
      (both _ _ (new_groups_formed t k n b f h (padded-length a.content)) (all_of 32 (place_formed u) one))
    where
      go : (i : ℕ) → i < 32 → (y : Bool) → well_placed (cond y n (get_or t.entities i free_entity)) (cond y b (block_at t.content i)) ≡ true
      go i l true = both _ _ g (padded_rest a.content short)
      go i l false = sym (placed t i l) ∙ place t f i

      one : (i : ℕ) → i < 32 → place_formed u i ≡ true
      one i l = placed u i l ∙ rw (entity-at i l, block_of i) (go i l (eqb i k))

-- ---- the laws

pub hub_laws : TableLaws hub
hub_laws = record {
  slot-formed = λ t f i l. ap (λ (x : Entity). slot_formed (slot_of x (block_at t.content i))) (sym (entity-in t i l)) ∙ seen_formed t f i;
  store_formed = stored_formed;
  store_slot = stored_slot;
  store_groups = λ t k a f h g. new_groups t k (entity_as a (length a.content)) (padded a.content) f h (padded-length a.content);
}
