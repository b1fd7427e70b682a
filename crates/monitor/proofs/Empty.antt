-- A table without entities has the form where its groups have theirs.
-- Assumes nothing.
use mathlib.Core.Path.{◌≡◌, refl, ap, ◌∙◌}
use mathlib.Core.Bool.{true, ◌&&◌}
use mathlib.Core.List.{List, [], ◌++◌, map}
use Prim.Native.Nat.{ℕ, zero, suc, ◌*◌, ◌-◌, ◌≤◌, ◌<◌}
use native.Mathlib.Omega.{arith}
use lib.Dec.{leb}
use lib.ListN.{length, get_or, take, drop, replicate, length-append, length-map, length-replicate, get_or-replicate}
use borrow.Author.Tests.{lt-ltb, eq-eqb, le-leb}
use Rattle.std.specs.List.{list_all}
use Rattle.rules.specs.Table.{parts_formed}
use Rattle.rules.proofs.Facts.{both}
use Rattle.rules.proofs.Bounded.{all_of}
use Rattle.label.specs.declared.Group.{Group}
use Rattle.label.specs.Tags.{group_formed, empty, equal_of}
use Rattle.label.proofs.Order.{equal_refl}
use Rattle.entity.specs.declared.Entity.{Entity}
use Rattle.entity.specs.Entity.{free_entity, bare}
use Rattle.block.specs.Block.{all_zero, block_at}
use Rattle.std.proofs.lemmas.List.{drop-replicate}
use Rattle.monitor.specs.Table.{place_formed, groups_of, sized, formed, no_content, empty_table, empty_with}
use Rattle.groups.proofs.Numbers.{with_front}
use Rattle.monitor.proofs.Form.{placed}

pub empty-entity : (k : ℕ) → k < 32 → get_or empty_table.entities k free_entity ≡ free_entity
unfolding empty_table
empty-entity k h = get_or-replicate 32 k free_entity free_entity h

zero-front : (n m : ℕ) → all_zero (take n (replicate m 0)) ≡ true
zero-front zero m = refl
zero-front (suc n) zero = refl
zero-front (suc n) (suc m) = zero-front n m

empty_block : (k : ℕ) → k < 32 → all_zero (drop 0 (block_at empty_table.content k)) ≡ true
unfolding empty_table block_at no_content
empty_block k h = rw (lt-ltb k 32 h) (ap (λ (l : List ℕ). all_zero (take 64 l)) (drop-replicate (k * 64) 2048 0) ∙ zero-front 64 (2048 - k * 64))

free_formed : parts_formed (bare free_entity) free_entity.len ≡ true
unfolding empty equal_of
free_formed = rw (equal_refl 64 0)

empty-slots : length empty_table.entities ≡ 32
unfolding empty_table
empty-slots = length-replicate 32 free_entity

empty-bytes : length empty_table.content ≡ 2048
unfolding empty_table no_content
empty-bytes = length-replicate {A = ℕ} 2048 0

pub empty-count : empty_table.count ≡ 0
unfolding empty_table
empty-count = refl

pub empty-none : empty_with [] ≡ empty_table
unfolding empty_with empty_table
empty-none = refl

module _ (gs : List Group) where
  pub empty_groups : groups_of (empty_with gs) ≡ gs
  unfolding empty_with
  empty_groups = with_front gs _ _

  module _ (few : length gs ≤ 8) where
    padded-places : {A : Type 0} (f : Group → A) (d : A) → length (map f gs ++ replicate (8 - length gs) d) ≡ 8
    padded-places f d = omega (arith, length-append (map f gs) (replicate (8 - length gs) d), length-map gs f, length-replicate (8 - length gs) d)

    empty_place : (k : ℕ) → k < 32 → place_formed (empty_with gs) k ≡ true
    unfolding empty_with
    empty_place k h =
        placed (empty_with gs) k h
        ∙ ap (λ (x : Entity). parts_formed (bare x) x.len && all_zero (drop x.len (block_at empty_table.content k))) (empty-entity k h)
        ∙ both _ _ free_formed (empty_block k h)

    empty_sizes : sized (empty_with gs) ≡ true
    unfolding sized empty_with
    empty_sizes = both _ _ (both _ _ (eq-eqb _ _ empty-slots) (eq-eqb _ _ empty-bytes))
        (both _ _ (eq-eqb _ _ (padded-places (λ g. g.tags) empty)) (eq-eqb _ _ (padded-places (λ g. g.most) 1)))

    empty_counted : leb (empty_with gs).count 8 ≡ true
    unfolding empty_with
    empty_counted = le-leb _ 8 few

    pub empty_form : list_all group_formed gs ≡ true → formed (empty_with gs) ≡ true
    unfolding formed
    empty_form e = both _ _ empty_sizes (both _ _ (both _ _ empty_counted (ap (list_all group_formed) empty_groups ∙ e)) (all_of 32 (place_formed (empty_with gs)) empty_place))
