-- The form behind 99 is what its fields spell out; and a table in form holds what the rules read of it.
-- Assumes nothing.
use mathlib.Core.Path.{◌≡◌, refl, sym, ap, ◌∙◌, subst}
use mathlib.Core.Bool.{true, not, ◌&&◌, ◌||◌}
use mathlib.Core.List.{List, [], ◌∷◌}
use Prim.Native.Nat.{ℕ, zero, suc, ◌+◌, ◌-◌, ◌≤◌, ◌<◌}
use native.Mathlib.Omega.{arith}
use lib.Dec.{leb, eqb}
use lib.ListN.{length, get_or, drop, length-take, length-drop, get_or-replicate}
use lib.Seq.{get_or-take, get_or-drop}
use Rattle.std.specs.List.{list_all}
use Rattle.std.proofs.lemmas.List.Sums.{AllPass-from_list_all, list_all-from_AllPass}
use borrow.Author.Tests.{leb-true, le-leb, eqb-true, eq-eqb}
use Rattle.rules.specs.declared.Kind.{Kind}
use Rattle.rules.specs.declared.Kind.TheVariants.{Free, Item, Program}
use Rattle.rules.specs.Table.{is_free, is_item, Slot, rightless, vacant, kind_formed, parts_formed, at}
use Rattle.rules.proofs.Facts.{and_left, and_right, both, or-rest}
use Rattle.rules.proofs.Bounded.{all_of}
use Rattle.label.specs.declared.Group.{Group}
use Rattle.label.specs.declared.Label.{Label}
use Rattle.label.specs.Tags.{empty, has_tag, equal_of, group_formed}
use Rattle.label.specs.Words.{words}
use Rattle.label.proofs.Laws.{equal-tag, equal_of_tags}
use Rattle.label.proofs.Order.{no_tag as zero-tag}
use Rattle.entity.specs.declared.Entity.{Entity}
use Rattle.entity.specs.Entity.{rights_of, bare, slot_of, entity_as}
use Rattle.block.specs.Block.{all_zero, padded, block_at}
use Rattle.block.proofs.Lists.{block-length, block-get}
use Rattle.monitor.specs.declared.Table.{Table}
use Rattle.monitor.specs.Table.{tags_in, most_in, Unused, well_placed, place_formed, groups_of, sized, formed, hub, empty_table}
use Rattle.groups.specs.Groups.{with_numbers}
use Rattle.groups.proofs.Numbers.{with_length, with_at}
use Rattle.monitor.proofs.Empty.{empty-entity, empty-count, empty-none, empty_form}
use Rattle.monitor.proofs.Form.{seen, entity-in, placed, at_seen, slots_length, bytes_length, groups_length, most_length, groups-formed, place, content_length, content_padded}
use Rattle.claims.specs.InForm.{stands_in, NoTag, NoRight, Vacant, SlotInForm, InForm, FormSpelt, EmptySpelt, HiddenContentsAlone, LabelsAlike}
use Rattle.claims.specs.Effects.{SlotsSpelt}

-- ---- sets without a tag

no_tag : (l : Label) → words.same l empty ≡ true → NoTag l
unfolding equal_of empty
no_tag l e n h = equal-tag 64 l.bits 0 e n h ∙ zero-tag n

tag-none : (l : Label) → NoTag l → words.same l empty ≡ true
unfolding equal_of empty
tag-none l h = equal_of_tags 64 l.bits 0 (λ n k. h n k ∙ sym (zero-tag n))

no_right : (e : Entity) → rightless (rights_of e) ≡ true → NoRight e
no_right e h =
    let a = and_right (words.same e.sa empty) _ h in
    let b = and_right (words.same e.sd empty) _ a in record {
      sa = no_tag e.sa (and_left _ _ h);
      sd = no_tag e.sd (and_left _ _ a);
      ia = no_tag e.ia (and_left _ _ b);
      id = no_tag e.id (and_right (words.same e.ia empty) _ b);
    }

right-none : (e : Entity) → NoRight e → rightless (rights_of e) ≡ true
right-none e h = both _ _ (tag-none _ h.sa) (both _ _ (tag-none _ h.sd) (both _ _ (tag-none _ h.ia) (tag-none _ h.id)))

-- ---- bytes that are zero

zero-at : (l : List ℕ) → all_zero l ≡ true → (j : ℕ) → get_or l j 0 ≡ 0
zero-at [] e j = refl
zero-at (x ∷ l) e zero = eqb-true x 0 (and_left (eqb x 0) _ e)
zero-at (x ∷ l) e (suc j) = zero-at l (and_right (eqb x 0) _ e) j

zero_of : (l : List ℕ) → ((j : ℕ) → j < length l → get_or l j 0 ≡ 0) → all_zero l ≡ true
zero_of [] h = refl
zero_of (x ∷ l) h = both (eqb x 0) _ (eq-eqb x 0 (h 0 (omega arith))) (zero_of l (λ j k. h (suc j) (omega arith)))

-- ---- the form

module _ (t : Table) (f : formed t ≡ true) (k : ℕ) (h : k < 32) where
  e : Entity
  e = stands_in t k

  here : well_placed e (block_at t.content k) ≡ true
  unfolding e
  here = sym (placed t k h) ∙ place t f k

  parts : parts_formed (bare e) e.len ≡ true
  parts = and_left (parts_formed (bare e) e.len) _ here

  kinds : kind_formed (bare e) e.len ≡ true
  kinds = and_right (leb e.len 64) _ parts

  of_item : e.kind ≡ Item → NoRight e
  of_item q = no_right e (or-rest (not (is_item e.kind)) _ (and_left (not (is_item e.kind) || rightless (rights_of e)) _ kinds) (ap (λ (x : Kind). not (is_item x)) q))

  of_free : e.kind ≡ Free → Vacant e
  of_free q =
      let v : vacant (bare e) e.len ≡ true = or-rest (not (is_free e.kind)) _ (and_right (not (is_item e.kind) || rightless (rights_of e)) _ kinds) (ap (λ (x : Kind). not (is_free x)) q) in
      let l = and_left (words.same e.sec empty && words.same e.int empty) _ v in
      let r = and_right (words.same e.sec empty && words.same e.int empty) _ v in record {
        sec = no_tag e.sec (and_left _ _ l);
        int = no_tag e.int (and_right (words.same e.sec empty) _ l);
        rights = no_right e (and_left (rightless (rights_of e)) _ r);
        len = eqb-true e.len 0 (and_right (rightless (rights_of e)) _ r);
      }

  slot_in_form : SlotInForm t k
  unfolding e
  slot_in_form = record {
    len = leb-true _ _ (and_left (leb e.len 64) _ parts);
    beyond = λ j l m. let q : e.len + (j - e.len) ≡ j = omega arith in
        sym (block-get t.content k j h m) ∙ ap (λ (i : ℕ). get_or (block_at t.content k) i 0) (sym q)
        ∙ sym (get_or-drop e.len (block_at t.content k) (j - e.len) 0) ∙ zero-at (drop e.len (block_at t.content k)) (and_right (parts_formed (bare e) e.len) _ here) (j - e.len);
    item = of_item;
    free = of_free;
  }

module _ (t : Table) (f : InForm t) (k : ℕ) (h : k < 32) where
  s : SlotInForm t k
  s = f.slots k h

  kinds_hold : (x : Kind) → (stands_in t k).kind ≡ x
      → (not (is_item x) || rightless (rights_of (stands_in t k))) && (not (is_free x) || vacant (bare (stands_in t k)) (stands_in t k).len) ≡ true
  kinds_hold Free q = let v = s.free q in
      both _ _ (both _ _ (tag-none _ v.sec) (tag-none _ v.int)) (both _ _ (right-none (stands_in t k) v.rights) (eq-eqb _ _ v.len))
  kinds_hold Item q = both _ true (right-none (stands_in t k) (s.item q)) refl
  kinds_hold Program q = refl

  zero-beyond : all_zero (drop (stands_in t k).len (block_at t.content k)) ≡ true
  zero-beyond = zero_of (drop (stands_in t k).len (block_at t.content k)) (λ j l.
      let m : (stands_in t k).len + j < 64 = omega (arith, length-drop (stands_in t k).len (block_at t.content k), block-length t.content k f.content) in
      get_or-drop (stands_in t k).len (block_at t.content k) j 0 ∙ block-get t.content k ((stands_in t k).len + j) h m ∙ s.beyond ((stands_in t k).len + j) (omega arith) m)

  place-formed : place_formed t k ≡ true
  place-formed = placed t k h ∙ both _ _ (both _ _ (le-leb _ _ s.len) (kinds_hold (stands_in t k).kind refl)) zero-beyond

-- ---- the groups that count, by their places in the arrays

-- a place that no list has is never read
abbrev pub no_group : Group
no_group = record { tags = empty; most = 1 }

module _ (t : Table) (eight : length t.groups ≡ 8) (numbers : length t.most ≡ 8) where
  pub counted_length : t.count ≤ 8 → length (groups_of t) ≡ t.count
  counted_length l = omega (arith, length-take t.count (with_numbers t.groups t.most), with_length t.groups t.most (eight ∙ sym numbers), eight)

  pub counted-at : (i : ℕ) (d : Group) → i < t.count → i < 8 → get_or (groups_of t) i d ≡ record { tags = tags_in t i; most = most_in t i }
  counted-at i d l m = get_or-take t.count (with_numbers t.groups t.most) i d l ∙ with_at t.groups t.most i empty 1 d (omega (arith, eight)) (omega (arith, numbers))

  numbers_hold : t.count ≤ 8 → list_all group_formed (groups_of t) ≡ true → (i : ℕ) → i < t.count → (1 ≤ most_in t i) × (most_in t i ≤ 64)
  numbers_hold l h i m =
      let q : leb 1 (most_in t i) && leb (most_in t i) 64 ≡ true = rw (counted-at i no_group m (omega (arith, l, m))) at (AllPass-from_list_all group_formed (groups_of t) h i no_group (omega (arith, m, counted_length l))) in
      (leb-true _ _ (and_left (leb 1 (most_in t i)) _ q), leb-true _ _ (and_right (leb 1 (most_in t i)) _ q))

  numbers-formed : t.count ≤ 8 → ((i : ℕ) → i < t.count → (1 ≤ most_in t i) × (most_in t i ≤ 64)) → list_all group_formed (groups_of t) ≡ true
  numbers-formed l h = list_all-from_AllPass group_formed (groups_of t) (λ i d m.
      let k : i < t.count = omega (arith, m, counted_length l) in
      rw (counted-at i d k (omega (arith, k, l))) (both _ _ (le-leb _ _ (h i k).0) (le-leb _ _ (h i k).1)))

pub form_spelt : FormSpelt
unfolding sized formed
form_spelt = record {
  holds = λ t f. record {
    entities = slots_length t f;
    content = bytes_length t f;
    groups = groups_length t f;
    most = most_length t f;
    count = leb-true _ _ (and_left (leb t.count 8) _ (groups-formed t f));
    numbers = numbers_hold t (groups_length t f) (most_length t f) (leb-true _ _ (and_left (leb t.count 8) _ (groups-formed t f))) (and_right (leb t.count 8) _ (groups-formed t f));
    slots = slot_in_form t f;
  };
  enough = λ t f. both _ _ (both _ _ (both _ _ (eq-eqb _ _ f.entities) (eq-eqb _ _ f.content)) (both _ _ (eq-eqb _ _ f.groups) (eq-eqb _ _ f.most)))
      (both _ _ (both _ _ (le-leb _ _ f.count) (numbers-formed t f.groups f.most f.count f.numbers)) (all_of 32 (place_formed t) (place-formed t f)));
}

-- ---- what the rules read is what stands in the struct

pub slots_spelt : SlotsSpelt
slots_spelt t f k h = record {
  entity = sym (entity-in t k h) ∙ sym (ap (λ (n : ℕ). entity_as (seen t k) n) (content_length t f k)) ∙ sym (ap (λ (a : Slot words). entity_as a (length a.content)) (at_seen t k));
  block = sym (content_padded t f k) ∙ sym (ap (λ (a : Slot words). padded a.content) (at_seen t k));
}

pub hidden_contents_alone : HiddenContentsAlone
hidden_contents_alone p t u f g a k h n =
    let x = slots_spelt t f k h in
    let y = slots_spelt u g k h in
    let s = a.slots k in
    let c = s.content (sym (ap (λ (e : Entity). has_tag e.sec p) x.entity) ∙ n) in
    let q = s.kind in let i = s.int in let l = s.sec in let r = s.rights in record {
      entity = x.entity ∙ (λ z. entity_as (record { kind = q z; sec = l z; int = i z; rights = r z; content = c z }) (length (c z))) ∙ sym y.entity;
      block = x.block ∙ ap padded c ∙ sym y.block;
    }

-- what the rules read of a slot below 32
pub read_slot : (t : Table) (k : ℕ) → k < 32 → at hub t k ≡ slot_of (stands_in t k) (block_at t.content k)
read_slot t k h = at_seen t k ∙ ap (λ (e : Entity). slot_of e (block_at t.content k)) (entity-in t k h)

pub labels_alike : LabelsAlike
labels_alike p t u a k h =
    let x = read_slot t k h in
    let y = read_slot u k h in
    let s = a.slots k in record {
      kind = sym (ap (λ (b : Slot words). b.kind) x) ∙ s.kind ∙ ap (λ (b : Slot words). b.kind) y;
      sec = sym (ap (λ (b : Slot words). b.sec) x) ∙ s.sec ∙ ap (λ (b : Slot words). b.sec) y;
      int = sym (ap (λ (b : Slot words). b.int) x) ∙ s.int ∙ ap (λ (b : Slot words). b.int) y;
      sa = sym (ap (λ (b : Slot words). b.rights.sa) x) ∙ ap (λ r. r.sa) s.rights ∙ ap (λ (b : Slot words). b.rights.sa) y;
      sd = sym (ap (λ (b : Slot words). b.rights.sd) x) ∙ ap (λ r. r.sd) s.rights ∙ ap (λ (b : Slot words). b.rights.sd) y;
      ia = sym (ap (λ (b : Slot words). b.rights.ia) x) ∙ ap (λ r. r.ia) s.rights ∙ ap (λ (b : Slot words). b.rights.ia) y;
      id = sym (ap (λ (b : Slot words). b.rights.id) x) ∙ ap (λ r. r.id) s.rights ∙ ap (λ (b : Slot words). b.rights.id) y;
    }

unused : (i : ℕ) → i < 8 → Unused empty_table i
unfolding empty_table
unused i h = record { tags = get_or-replicate 8 i empty empty h; most = get_or-replicate {A = ℕ} 8 i 1 1 h }

pub empty_spelt : EmptySpelt
empty_spelt = record {
  form = form_spelt.holds empty_table (subst (λ t. formed t ≡ true) empty-none (empty_form [] (omega arith) refl));
  free = λ k h. ap (λ (e : Entity). e.kind) (empty-entity k h);
  count = empty-count;
  places = unused;
}
