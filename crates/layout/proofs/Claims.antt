-- Structs stand for tables.
-- Assumes nothing.
use Prim.Native.Nat.{ℕ, zero, suc, ◌<◌, ◌≤◌}
use native.Mathlib.Omega.{arith}
use mathlib.Core.Path.{◌≡◌, refl, sym, ap, ap₂}
use mathlib.Core.Bool.{Bool, true, false, cond}
use mathlib.Core.List.{List, [], ◌∷◌, map}
use lib.Dec.{ltb, leb, eqb}
use lib.ListN.{length, get_or, get_or-map}
use borrow.Author.Tests.{ltb-false, leb-true, eqb-true, eqb-false, lt-ltb, le-ltb, le-leb}
use Rattle.rules.specs.declared.Kind.{Kind}
use Rattle.rules.specs.declared.Kind.TheVariants.{Free, Item, Program}
use Rattle.rules.proofs.Facts.{and_left, and_right, both, contra, length_mapped}
use Rattle.label.specs.Tags.{label_of, empty}
use Rattle.entity.specs.declared.Entity.{Entity}
use Rattle.entity.specs.Entity.{free_entity}
use Rattle.monitor.specs.declared.Table.{Table}
use Rattle.monitor.specs.Table.{entity_at, formed}
use Rattle.monitor.proofs.Form.{slots_length, len_le}
use Rattle.layout.specs.declared.HubSlot.{HubSlot}
use Rattle.layout.specs.declared.HubTable.{HubTable}
use Rattle.layout.specs.Struct.{kind_numbered, kind_number, kinds_known, no_len, len_of, slot_entity, slot_as, bits_of, table_of, struct_of}
use Rattle.layout.specs.Claims.{SlotRead, StructStands}

-- ---- back and forth

kind_back : (k : Kind) → kind_numbered (kind_number k) ≡ k
kind_back Free = refl
kind_back Item = refl
kind_back Program = refl

len_back : (k : Kind) (n : ℕ) → len_of (kind_number k) n ≡ n
len_back Free n = refl
len_back Item n = refl
len_back Program n = refl

entity_back : (e : Entity) → slot_entity (slot_as e) ≡ e
entity_back e i = record {
  kind = kind_back e.kind i;
  sec = e.sec;
  int = e.int;
  sa = e.sa;
  sd = e.sd;
  ia = e.ia;
  id = e.id;
  len = len_back e.kind e.len i;
}

number_back : (n : ℕ) → leb n 2 ≡ true → kind_number (kind_numbered n) ≡ n
number_back n h = go (eqb n 1) (eqb n 2) refl refl
  where
    go : (a b : Bool) → eqb n 1 ≡ a → eqb n 2 ≡ b → kind_number (cond a Item (cond b Program Free)) ≡ n
    go true b p q = sym (eqb-true n 1 p)
    go false true p q = sym (eqb-true n 2 q)
    go false false p q = omega (arith, leb-true n 2 h, eqb-false n 1 p, eqb-false n 2 q)

slot_back : (s : HubSlot) → leb s.kind 2 ≡ true → slot_as (slot_entity s) ≡ s
slot_back s h i = record {
  kind = number_back s.kind h i;
  sec = s.sec;
  int = s.int;
  sa = s.sa;
  sd = s.sd;
  ia = s.ia;
  id = s.id;
  len = ap (λ (b : Bool). cond b no_len s.len) (le-ltb 2 s.kind (leb-true _ _ h)) i;
}

slots_back : (l : List HubSlot) → kinds_known l ≡ true → map slot_as (map slot_entity l) ≡ l
slots_back [] h = refl
slots_back (s ∷ l) h =
    ap₂ (λ (x : HubSlot) (xs : List HubSlot). x ∷ xs) (slot_back s (and_left (leb s.kind 2) _ h)) (slots_back l (and_right (leb s.kind 2) _ h))

map_back : {X Y : Type 0} (f : X → Y) (g : Y → X) → ((x : X) → g (f x) ≡ x) → (l : List X) → map g (map f l) ≡ l
map_back f g h [] = refl
map_back f g h (x ∷ xs) = ap₂ (λ (y : _) (ys : List _). y ∷ ys) (h x) (map_back f g h xs)

table_back : (t : Table) → table_of (struct_of t) ≡ t
unfolding table_of struct_of
table_back t i = record {
  entities = map_back slot_as slot_entity entity_back t.entities i;
  content = t.content;
  groups = map_back bits_of label_of (λ l. refl) t.groups i;
  most = t.most;
  count = t.count;
}

struct_back : (s : HubTable) → kinds_known s.slots ≡ true → struct_of (table_of s) ≡ s
unfolding table_of struct_of
struct_back s h i = record {
  slots = slots_back s.slots h i;
  content = s.content;
  groups = map_back label_of bits_of (λ n. refl) s.groups i;
  most = s.most;
  count = s.count;
}

-- ---- another kind

short : (s : HubSlot) → len_of s.kind s.len ≤ 64 → leb s.kind 2 ≡ true
short s h = go (ltb 2 s.kind) refl h
  where
    go : (b : Bool) → ltb 2 s.kind ≡ b → cond b no_len s.len ≤ 64 → leb s.kind 2 ≡ true
    go true e l = absurd (omega (arith, l))
    go false e l = le-leb s.kind 2 (ltb-false 2 s.kind e)

all_known : (l : List HubSlot) (d : HubSlot) → ((k : ℕ) → k < length l → leb (get_or l k d).kind 2 ≡ true) → kinds_known l ≡ true
all_known [] d h = refl
all_known (s ∷ l) d h = both (leb s.kind 2) _ (h 0 (omega arith)) (all_known l d (λ k m. h (suc k) (omega (arith, m))))

module _ (s : HubTable) (f : formed (table_of s) ≡ true) where
  slots_32 : length s.slots ≡ 32
  unfolding table_of
  slots_32 = length_mapped HubSlot Entity slot_entity s.slots 32 (slots_length (table_of s) f)

  entity-in : (k : ℕ) → k < 32 → entity_at (table_of s) k ≡ slot_entity (get_or s.slots k (slot_as free_entity))
  unfolding entity_at table_of
  entity-in k l = rw (lt-ltb k 32 l) (get_or-map slot_entity s.slots k (slot_as free_entity))

  all-formed : kinds_known s.slots ≡ true
  all-formed =
      all_known s.slots (slot_as free_entity)
      (λ k l. short (get_or s.slots k (slot_as free_entity)) (rw (entity-in k (omega (arith, l, slots_32))) at (len_le (table_of s) f k)))

unknown : (s : HubTable) → kinds_known s.slots ≡ false → formed (table_of s) ≡ false
unknown s h = contra (formed (table_of s)) (kinds_known s.slots) (all-formed s) h

-- ---- field by field

not_over : (k : ℕ) → leb k 2 ≡ true → ltb 2 k ≡ false
not_over k h = le-ltb 2 k (leb-true k 2 h)

slot_read : (s : HubSlot) → SlotRead s (slot_entity s)
slot_read s = record {
  sec = refl;
  int = refl;
  sa = refl;
  sd = refl;
  ia = refl;
  id = refl;
  free = λ e. ap kind_numbered e;
  item = λ e. ap kind_numbered e;
  program = λ e. ap kind_numbered e;
  len = λ h. ap (λ (b : Bool). cond b no_len s.len) (not_over s.kind h);
}

slots_read : (l : List HubSlot) (k : ℕ) → SlotRead (get_or l k (slot_as free_entity)) (get_or (map slot_entity l) k free_entity)
slots_read [] k = slot_read (slot_as free_entity)
slots_read (s ∷ l) zero = slot_read s
slots_read (s ∷ l) (suc k) = slots_read l k

groups_read : (l : List ℕ) (k : ℕ) → (get_or (map label_of l) k empty).bits ≡ get_or l k 0
unfolding empty
groups_read [] k = refl
groups_read (n ∷ l) zero = refl
groups_read (n ∷ l) (suc k) = groups_read l k

pub struct_stands : StructStands
unfolding table_of
struct_stands = record { slot = λ s k. slots_read s.slots k; group = λ s k. groups_read s.groups k; most = λ s k. refl; table_back = table_back; struct_back = struct_back; unknown = unknown }
