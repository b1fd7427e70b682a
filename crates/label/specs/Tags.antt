-- Sets of tags as numbers, tag n at weight 2 to the n: first for any number k of tags, then for the 64 tags of a label.
-- Assumes nothing.
use Rattle.std.specs.Prelude.{ℕ, zero, suc, ◌+◌, ◌*◌, ◌/◌, ◌%◌, ◌^◌, min, max, Bool, cond, ◌&&◌, List, [], ◌∷◌, leb, eqb}
use Rattle.rules.specs.Bounded.{all_below}
use Rattle.label.specs.declared.Group.{Group}
use Rattle.label.specs.declared.Label.{Label}

-- ---- any number k of tags

-- 1 where tag n is in the set x, 0 where it is not
unfoldable pub tag_of : ℕ → ℕ → ℕ
tag_of x n = x / 2 ^ n % 2

-- the set whose tags below k are those at which f is 1
unfoldable pub set_of : ℕ → (ℕ → ℕ) → ℕ
set_of zero f = zero
set_of (suc k) f = f k * 2 ^ k + set_of k f

-- the sum of f over the tags below k
unfoldable pub sum_of : ℕ → (ℕ → ℕ) → ℕ
sum_of zero f = zero
sum_of (suc k) f = f k + sum_of k f

-- every tag of a is in b
unfoldable pub subset_in : ℕ → ℕ → ℕ → Bool
subset_in k a b = all_below k (λ n. leb (tag_of a n) (tag_of b n))

-- a and b have the same tags
unfoldable pub equal_in : ℕ → ℕ → ℕ → Bool
equal_in k a b = all_below k (λ n. eqb (tag_of a n) (tag_of b n))

-- the tags of a and those of b
unfoldable pub union_in : ℕ → ℕ → ℕ → ℕ
union_in k a b = set_of k (λ n. max (tag_of a n) (tag_of b n))

-- a with tag t
unfoldable pub with_in : ℕ → ℕ → ℕ → ℕ
with_in k a t = set_of k (λ n. cond (eqb n t) 1 (tag_of a n))

-- a without tag t
unfoldable pub without_in : ℕ → ℕ → ℕ → ℕ
without_in k a t = set_of k (λ n. cond (eqb n t) 0 (tag_of a n))

-- a with the hexadecimal digit d after its own: its tags stand four higher, those of d below them, and only k are kept
unfoldable pub digit_in : ℕ → ℕ → ℕ → ℕ
digit_in k a d = (a * 16 + d % 16) % 2 ^ k

-- how many tags a and b have in common
unfoldable pub common_in : ℕ → ℕ → ℕ → ℕ
common_in k a b = sum_of k (λ n. min (tag_of a n) (tag_of b n))

-- the k lowest bytes of x, least byte first
unfoldable pub bytes_in : ℕ → ℕ → List ℕ
bytes_in zero x = []
bytes_in (suc k) x = x % 256 ∷ bytes_in k (x / 256)

-- the number of given bytes, least byte first
unfoldable pub from_bytes_in : List ℕ → ℕ
from_bytes_in [] = 0
from_bytes_in (b ∷ bs) = b + 256 * from_bytes_in bs

-- ---- labels: the tags 0 to 63, in eight bytes

abbrev pub label_of : ℕ → Label
label_of x = record { bits = x }

unfoldable pub empty : Label
empty = label_of 0

unfoldable pub has_tag : Label → ℕ → Bool
has_tag a t = eqb (tag_of a.bits t) 1

unfoldable pub subset_of : Label → Label → Bool
subset_of a b = subset_in 64 a.bits b.bits

unfoldable pub equal_of : Label → Label → Bool
equal_of a b = equal_in 64 a.bits b.bits

unfoldable pub is_empty : Label → Bool
is_empty a = equal_of a empty

unfoldable pub union_of : Label → Label → Label
union_of a b = label_of (union_in 64 a.bits b.bits)

unfoldable pub with_tag : Label → ℕ → Label
with_tag a t = label_of (with_in 64 a.bits t)

unfoldable pub without_tag : Label → ℕ → Label
without_tag a t = label_of (without_in 64 a.bits t)

unfoldable pub with_digit : Label → ℕ → Label
with_digit a d = label_of (digit_in 64 a.bits d)

unfoldable pub common_of : Label → Label → ℕ
common_of a b = common_in 64 a.bits b.bits

-- An entity keeps to a group when the label of all that it holds has at most as many tags in common with it as the group's
-- number says (document 02, change 5; where the number is 1, document 01's "at most one tag in common with it")
unfoldable pub keeps_to : Group → Label → Bool
keeps_to group a = leb (common_of a group.tags) group.most

-- that number is from 1 to 64
abbrev pub group_formed : Group → Bool
group_formed group = leb 1 group.most && leb group.most 64

unfoldable pub bytes_of : Label → List ℕ
bytes_of a = bytes_in 8 a.bits

unfoldable pub from_bytes : List ℕ → Label
from_bytes bs = label_of (from_bytes_in bs)
