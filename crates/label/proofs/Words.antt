-- The 64-bit labels have the laws of labels.
-- Assumes nothing.
use Prim.Native.Nat.{ℕ, ◌≤◌, ◌<◌}
use mathlib.Core.Path.{◌≡◌}
use mathlib.Core.Bool.{true}
use native.Mathlib.Omega.{arith}
use lib.Dec.{leb}
use borrow.Author.Tests.{leb-true, le-leb}
use Rattle.rules.specs.Laws.{OrderLaws, TagLaws}
use Rattle.label.specs.Tags.{common_in, empty, has_tag, subset_of, equal_of, union_of, with_tag, without_tag, common_of, keeps_to, bytes_of, from_bytes}
use Rattle.label.specs.Words.{words}
use Rattle.label.proofs.Bytes.{bytes_length}
use Rattle.label.proofs.Order.{subset_refl, subset_trans, empty_subset, union_left, union_right, union_least, with_subset, without_subset, equal_refl, common_mono, round_subset}
use Rattle.label.proofs.Order.{empty-not, subset_has, equal_has, with_has, without_not, with_not, without_has}

fewer : (k m n : ℕ) → m ≤ n → leb n k ≡ true → leb m k ≡ true
fewer k m n h e = le-leb m k (omega (arith, leb-true n k e))

pub words_order : OrderLaws words
unfolding common_in empty has_tag subset_of equal_of union_of with_tag without_tag common_of keeps_to bytes_of from_bytes
words_order = record {
  below_refl = λ a. subset_refl 64 a.bits;
  below_trans = λ a b c. subset_trans 64 a.bits b.bits c.bits;
  empty_below = λ a. empty_subset 64 a.bits;
  join_left = λ a b. union_left 64 a.bits b.bits;
  join_right = λ a b. union_right 64 a.bits b.bits;
  join_least = λ a b c. union_least 64 a.bits b.bits c.bits;
  insert_below = λ p a r c. with_subset 64 p a.bits r.bits c.bits;
  remove_below = λ p a. without_subset 64 p a.bits;
  same_refl = λ a. equal_refl 64 a.bits;
  keeps_less = λ g a b h k. fewer g.most (common_in 64 a.bits g.tags.bits) (common_in 64 b.bits g.tags.bits) (common_mono 64 g.tags.bits a.bits b.bits h) k;
  tail_length = λ p a. bytes_length 8 a.bits;
  entry_shows = λ k i j n m s p a b. round_subset 8 a.bits b.bits;
}

module _ (t : ℕ) (l : t < 64) where
  pub words_tag : TagLaws words t
  unfolding empty has_tag subset_of equal_of with_tag without_tag
  words_tag = record {
    empty_has = empty-not t;
    below_has = λ a b. subset_has 64 t l a.bits b.bits;
    same_has = λ a b. equal_has 64 t l a.bits b.bits;
    insert_has = λ p a. with_has 64 t l p a.bits;
    remove_not = λ p a. without_not 64 t l p a.bits;
    insert_not = λ p r a. with_not 64 t l p r.bits a.bits;
    remove_has = λ p r a. without_has 64 t l p r.bits a.bits;
  }
