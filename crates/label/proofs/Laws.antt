-- The bit operations and the sets of tags, for any number k of tags.
-- Assumes nothing.
use mathlib.Core.Path.{◌≡◌, refl, sym, ap, ap₂, ◌∙◌}
use mathlib.Core.Logic.{⊎_elim}
use mathlib.Core.Bool.{Bool, true, false, cond, not}
use Prim.Native.Nat.{ℕ, zero, suc, ◌+◌, ◌-◌, ◌*◌, ◌/◌, ◌%◌, ◌^◌, ◌≤◌, ◌<◌, min, max}
use native.Mathlib.Nat.{mod-lt, mod-one, mod-eq_of_lt, zero-lt-suc, pow-suc, mul_comm, le-suc, le_refl, lt_of_lt_of_le, eq-or-lt_of_le, le_of_suc-le-suc, not-suc-le-zero, min-eq_left, mul_assoc, mul-add-div_right, div-eq_of_lt}
use native.Mathlib.Omega.{arith}
use lib.Arith.{mod-mul}
use lib.Pow.{pow_pos, pow-lt, pow-add}
use lib.Bits.{bit_and, bit_or, and_zero_r, and_lt, or_lt}
use lib.Count.{ones, ones_cat}
use lib.Dec.{eqb, ltb}
use mir.Syntax.{Width}
use mir.Val.{bits}
use borrow.Author.Tests.{leb-true, le-leb, lt-ltb, ltb-true, ltb-false, eq-eqb, ne_eqb, eqb-true, eqb-false}
use Rattle.std.specs.Int.{bit_at, bit_not}
use Rattle.std.proofs.lemmas.Nat.Bits.{bit_at-lt, bit_at_and, bit_at_or, bit_at_not, bit_at-zero, bit_at-pow_same, bit_at-pow_other, bit_at_above, and_pow, same_from_bits_below}
use Rattle.rules.proofs.Facts.{iff, either}
use Rattle.rules.proofs.Bounded.{all-at, all_of}
use Rattle.label.specs.Tags.{tag_of, set_of, sum_of, subset_in, equal_in, union_in, with_in, without_in, common_in}

two_pos : zero < 2
two_pos = zero-lt-suc 1

pub tag-lt : (x n : ℕ) → tag_of x n < 2
unfolding tag_of
tag-lt x n = bit_at-lt x n

-- ---- sets and sums by their tags
pub set_ext : (k : ℕ) (f g : ℕ → ℕ) → ((n : ℕ) → n < k → f n ≡ g n) → set_of k f ≡ set_of k g
unfolding set_of
set_ext zero f g h = refl
set_ext (suc k) f g h =
    ap₂ (λ (x y : ℕ). x * 2 ^ k + y) (h k (le_refl (suc k))) (set_ext k f g (λ n l. h n (lt_of_lt_of_le l (le-suc k))))

pub sum_ext : (k : ℕ) (f g : ℕ → ℕ) → ((n : ℕ) → n < k → f n ≡ g n) → sum_of k f ≡ sum_of k g
unfolding sum_of
sum_ext zero f g h = refl
sum_ext (suc k) f g h =
    ap₂ (λ (x y : ℕ). x + y) (h k (le_refl (suc k))) (sum_ext k f g (λ n l. h n (lt_of_lt_of_le l (le-suc k))))

pub sum_mono : (k : ℕ) (f g : ℕ → ℕ) → ((n : ℕ) → n < k → f n ≤ g n) → sum_of k f ≤ sum_of k g
unfolding sum_of
sum_mono zero f g h = omega arith
sum_mono (suc k) f g h = omega (arith, h k (le_refl (suc k)), sum_mono k f g (λ n l. h n (lt_of_lt_of_le l (le-suc k))))

-- one more digit
mod-more : (k x : ℕ) → x % 2 ^ suc k ≡ tag_of x k * 2 ^ k + x % 2 ^ k
unfolding tag_of
mod-more k x = ap (λ (m : ℕ). x % m) (pow-suc 2 k ∙ mul_comm (2 ^ k) 2) ∙ mod-mul x two_pos (pow_pos k)

set-mod : (k x : ℕ) → set_of k (tag_of x) ≡ x % 2 ^ k
unfolding set_of
set-mod zero x = sym (mod-one x)
set-mod (suc k) x = ap (λ (m : ℕ). tag_of x k * 2 ^ k + m) (set-mod k x) ∙ sym (mod-more k x)

-- a number below 2 ^ k is the set of its tags
pub set_tags : (k x : ℕ) → x < 2 ^ k → set_of k (tag_of x) ≡ x
set_tags k x h = set-mod k x ∙ mod-eq_of_lt h

set-lt : (k : ℕ) (f : ℕ → ℕ) → ((n : ℕ) → f n < 2) → set_of k f < 2 ^ k
unfolding set_of
set-lt zero f h = omega arith
set-lt (suc k) f h = rw (pow-suc 2 k) (low (f k) (2 ^ k) (set_of k f) (h k) (set-lt k f h))
  where
    low : (d p s : ℕ) → d < 2 → s < p → d * p + s < p * 2
    low zero p s hd hs = omega arith
    low (suc zero) p s hd hs = omega arith
    low (suc (suc d)) p s hd hs = absurd (omega arith)

-- the tags of a set given tag by tag
pub tag-set : (k : ℕ) (f : ℕ → ℕ) → ((n : ℕ) → f n < 2) → (t : ℕ) → t < k → tag_of (set_of k f) t ≡ f t
unfolding set_of tag_of
tag-set zero f h t l = absurd (not-suc-le-zero l)
tag-set (suc k) f h t l = ⊎_elim here (λ m. below m ∙ tag-set k f h t m) (eq-or-lt_of_le (le_of_suc-le-suc l))
  where
    here : t ≡ k → (f k * 2 ^ k + set_of k f) / 2 ^ t % 2 ≡ f t
    here e = rw (e, mul-add-div_right (pow_pos k) (f k) (set_of k f), div-eq_of_lt (set-lt k f h)) (omega (arith, h k))

    below : t < k → (f k * 2 ^ k + set_of k f) / 2 ^ t % 2 ≡ set_of k f / 2 ^ t % 2
    below m =
        let d : ℕ = k - t - 1 in
        let q : k ≡ suc d + t = omega arith in
        let p : f k * 2 ^ k ≡ f k * 2 ^ d * 2 * 2 ^ t =
        ap (λ (x : ℕ). f k * 2 ^ x) q ∙ ap (λ (x : ℕ). f k * x) (pow-add 2 (suc d) t ∙ ap (λ (x : ℕ). x * 2 ^ t) (pow-suc 2 d))
        ∙ sym (mul_assoc (f k) (2 ^ d * 2) (2 ^ t)) ∙ ap (λ (x : ℕ). x * 2 ^ t) (sym (mul_assoc (f k) (2 ^ d) 2)) in
        ap (λ (x : ℕ). (x + set_of k f) / 2 ^ t % 2) p
        ∙ ap (λ (x : ℕ). x % 2) (mul-add-div_right (pow_pos t) (f k * 2 ^ d * 2) (set_of k f)) ∙ omega arith

-- a number's tags below k are those of its low k digits
pub mod-tag : (k x n : ℕ) → n < k → tag_of (x % 2 ^ k) n ≡ tag_of x n
mod-tag k x n l = ap (λ (y : ℕ). tag_of y n) (sym (set-mod k x)) ∙ tag-set k (tag_of x) (tag-lt x) n l

ones_small : (d : ℕ) → d < 2 → ones d ≡ d
unfolding ones
ones_small zero h = refl
ones_small (suc zero) h = refl
ones_small (suc (suc d)) h = absurd (not-suc-le-zero (le_of_suc-le-suc (le_of_suc-le-suc h)))

ones_mod : (k x : ℕ) → ones (x % 2 ^ k) ≡ sum_of k (tag_of x)
unfolding sum_of
ones_mod zero x = ap ones (mod-one x) ∙ ones_small zero two_pos
ones_mod (suc k) x =
    ap ones (mod-more k x) ∙ ones_cat k (tag_of x k) (x % 2 ^ k) (mod-lt x (pow_pos k))
    ∙ ap₂ (λ (p q : ℕ). p + q) (ones_small (tag_of x k) (tag-lt x k)) (ones_mod k x)

-- the count of a number's digits is the sum of its tags
pub ones_tags : (k x : ℕ) → x < 2 ^ k → ones x ≡ sum_of k (tag_of x)
ones_tags k x h = ap ones (sym (mod-eq_of_lt h)) ∙ ones_mod k x

-- ---- the operations, tag by tag
pub and-tag : (a b n : ℕ) → tag_of (bit_and a b) n ≡ min (tag_of a n) (tag_of b n)
unfolding tag_of
and-tag a b n = bit_at_and a b n

pub or-tag : (a b n : ℕ) → tag_of (bit_or a b) n ≡ max (tag_of a n) (tag_of b n)
unfolding tag_of
or-tag a b n = bit_at_or a b n

-- a number with a tag alone, and with none for a tag that is none of the k
abbrev pub alone : ℕ → ℕ → ℕ
alone k t = cond (ltb t k) (2 ^ t) 0

alone-lt : (k t : ℕ) → alone k t < 2 ^ k
alone-lt k t = either (ltb t k) (λ e. rw e (pow-lt (ltb-true t k e))) (λ e. rw e (pow_pos k))

alone-tag : (k t n : ℕ) → n < k → tag_of (alone k t) n ≡ cond (eqb n t) 1 0
unfolding tag_of
alone-tag k t n l =
    either (eqb n t)
    (λ e. let q : n ≡ t = eqb-true n t e in let h : ltb t k ≡ true = lt-ltb t k (omega arith) in rw (e, h, q) (bit_at-pow_same t))
    (λ e. let f : n ≡ t → ⊥ = eqb-false n t e in
    either (ltb t k) (λ h. rw (e, h) (bit_at-pow_other t n f)) (λ h. rw (e, h) (bit_at-zero n)))

-- ---- the sets of the definitions, at the tags there are
pub union-tag : (k a b n : ℕ) → n < k → tag_of (union_in k a b) n ≡ max (tag_of a n) (tag_of b n)
unfolding union_in
union-tag k a b n l = tag-set k _ (λ m. omega (arith, tag-lt a m, tag-lt b m)) n l

cond-lt : (b : Bool) (v x : ℕ) → v < 2 → x < 2 → cond b v x < 2
cond-lt true v x hv hx = hv
cond-lt false v x hv hx = hx

pub with-tag : (k a t n : ℕ) → n < k → tag_of (with_in k a t) n ≡ cond (eqb n t) 1 (tag_of a n)
unfolding with_in
with-tag k a t n l = tag-set k _ (λ m. cond-lt (eqb m t) 1 (tag_of a m) (omega arith) (tag-lt a m)) n l

pub without-tag : (k a t n : ℕ) → n < k → tag_of (without_in k a t) n ≡ cond (eqb n t) 0 (tag_of a n)
unfolding without_in
without-tag k a t n l = tag-set k _ (λ m. cond-lt (eqb m t) 0 (tag_of a m) (omega arith) (tag-lt a m)) n l

-- a tag more in either of two sets is one more in their union
union_swaps : (k a b : ℕ) → union_in k a b ≡ union_in k b a
unfolding union_in
union_swaps k a b = set_ext k _ _ (λ n l. omega arith)

pub union_with_left : (k a b p : ℕ) → union_in k (with_in k a p) b ≡ with_in k (union_in k a b) p
unfolding union_in with_in
union_with_left k a b p = set_ext k _ _ (λ n l. ap (λ (x : ℕ). max x (tag_of b n)) (with-tag k a p n l) ∙ go (eqb n p) n ∙ sym (ap (λ (x : ℕ). cond (eqb n p) 1 x) (union-tag k a b n l)))
  where
    go : (x : Bool) (n : ℕ) → max (cond x 1 (tag_of a n)) (tag_of b n) ≡ cond x 1 (max (tag_of a n) (tag_of b n))
    go true n = omega (arith, tag-lt b n)
    go false n = refl

pub union_with_right : (k a b p : ℕ) → union_in k a (with_in k b p) ≡ with_in k (union_in k a b) p
union_with_right k a b p = union_swaps k a (with_in k b p) ∙ union_with_left k b a p ∙ ap (λ (x : ℕ). with_in k x p) (union_swaps k b a)

-- ---- the operations are the sets of the definitions
pub union_is : (k a b : ℕ) → a < 2 ^ k → b < 2 ^ k → bit_or a b ≡ union_in k a b
unfolding union_in
union_is k a b ha hb = sym (set_tags k (bit_or a b) (or_lt k a b ha hb)) ∙ set_ext k _ _ (λ n l. or-tag a b n)

pub common_is : (k a b : ℕ) → a < 2 ^ k → b < 2 ^ k → ones (bit_and a b) ≡ common_in k a b
unfolding common_in
common_is k a b ha hb = ones_tags k (bit_and a b) (and_lt k a b ha hb) ∙ sum_ext k _ _ (λ n l. and-tag a b n)

max-cond : (x : ℕ) (b : Bool) → x < 2 → max x (cond b 1 0) ≡ cond b 1 x
max-cond x true h = omega arith
max-cond x false h = omega arith

pub with_is : (k a t : ℕ) → a < 2 ^ k → bit_or a (alone k t) ≡ with_in k a t
unfolding with_in
with_is k a t h =
    sym (set_tags k (bit_or a (alone k t)) (or_lt k a (alone k t) h (alone-lt k t)))
    ∙ set_ext k _ _ (λ n l. or-tag a (alone k t) n ∙ ap (max (tag_of a n)) (alone-tag k t n l) ∙ max-cond (tag_of a n) (eqb n t) (tag-lt a n))

not-tag : (w : Width) (m n : ℕ) → m < 2 ^ bits w → n < bits w → tag_of (bit_not w m) n ≡ 1 - tag_of m n
unfolding tag_of
not-tag w m n h l = bit_at_not w m n h l

less : (x : ℕ) (b : Bool) → x < 2 → min x (1 - cond b 1 0) ≡ cond b 0 x
less x true h = omega arith
less x false h = omega arith

pub without_is : (w : Width) (a t : ℕ) → a < 2 ^ bits w → bit_and a (bit_not w (alone (bits w) t)) ≡ without_in (bits w) a t
unfolding without_in
without_is w a t h =
    let k = bits w in let m = alone k t in let f : bit_not w m < 2 ^ k = omega (arith, pow_pos k) in
    sym (set_tags k (bit_and a (bit_not w m)) (and_lt k a (bit_not w m) h f))
    ∙ set_ext k _ _
    (λ n l. and-tag a (bit_not w m) n
    ∙ ap (min (tag_of a n)) (not-tag w m n (alone-lt k t) l ∙ ap (λ (x : ℕ). 1 - x) (alone-tag k t n l))
    ∙ less (tag_of a n) (eqb n t) (tag-lt a n))

shows : (x p : ℕ) → x < 2 → 0 < p → not (eqb (x * p) 0) ≡ eqb x 1
shows zero p h q = let z : 0 * p ≡ 0 = omega arith in rw z
shows (suc zero) p h q = let z : 1 * p ≡ p = omega arith in rw (z, ne_eqb p 0 (λ e. omega arith))
shows (suc (suc x)) p h q = absurd (omega arith)

pub has_is : (k a t : ℕ) → a < 2 ^ k → not (eqb (bit_and a (alone k t)) 0) ≡ eqb (tag_of a t) 1
unfolding tag_of
has_is k a t h =
    either (ltb t k)
    (λ e. rw (e, and_pow a t) (shows (bit_at a t) (2 ^ t) (bit_at-lt a t) (pow_pos t)))
    (λ e. rw (e, and_zero_r a, bit_at_above a k t h (ltb-false t k e)))

-- ---- subsets and equal sets
pub subset_tag : (k a b : ℕ) → subset_in k a b ≡ true → (n : ℕ) → n < k → tag_of a n ≤ tag_of b n
unfolding subset_in
subset_tag k a b h n l = leb-true _ _ (all-at k _ h n l)

pub subset_of_tags : (k a b : ℕ) → ((n : ℕ) → n < k → tag_of a n ≤ tag_of b n) → subset_in k a b ≡ true
unfolding subset_in
subset_of_tags k a b h = all_of k _ (λ n l. le-leb _ _ (h n l))

pub equal-tag : (k a b : ℕ) → equal_in k a b ≡ true → (n : ℕ) → n < k → tag_of a n ≡ tag_of b n
unfolding equal_in
equal-tag k a b h n l = eqb-true _ _ (all-at k _ h n l)

pub equal_of_tags : (k a b : ℕ) → ((n : ℕ) → n < k → tag_of a n ≡ tag_of b n) → equal_in k a b ≡ true
unfolding equal_in
equal_of_tags k a b h = all_of k _ (λ n l. eq-eqb _ _ (h n l))

pub subset_is : (k a b : ℕ) → a < 2 ^ k → b < 2 ^ k → eqb (bit_and a b) a ≡ subset_in k a b
unfolding tag_of
subset_is k a b ha hb =
    iff _ _
    (λ e. subset_of_tags k a b (λ n l. omega (arith, sym (and-tag a b n) ∙ ap (λ (x : ℕ). tag_of x n) (eqb-true _ _ e))))
    (λ e. eq-eqb _ _ (same_from_bits_below k _ _ (and_lt k a b ha hb) ha (λ n l. and-tag a b n ∙ min-eq_left (subset_tag k a b e n l))))

-- sets with the same tags are subsets of the same sets
pub subset_ext : (k a a' b : ℕ) → ((n : ℕ) → n < k → tag_of a n ≡ tag_of a' n) → subset_in k a b ≡ subset_in k a' b
subset_ext k a a' b h = iff (subset_in k a b) (subset_in k a' b)
    (λ e. subset_of_tags k a' b (λ n l. omega (arith, h n l, subset_tag k a b e n l)))
    (λ e. subset_of_tags k a b (λ n l. omega (arith, h n l, subset_tag k a' b e n l)))

pub equal_is : (k a b : ℕ) → a < 2 ^ k → b < 2 ^ k → eqb a b ≡ equal_in k a b
unfolding tag_of
equal_is k a b ha hb =
    iff _ _
    (λ e. equal_of_tags k a b (λ n l. ap (λ (x : ℕ). tag_of x n) (eqb-true a b e)))
    (λ e. eq-eqb a b (same_from_bits_below k a b ha hb (equal-tag k a b e)))
