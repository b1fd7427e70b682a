-- Sets of tags as an ordered set: the laws of labels on numbers, for any number k of tags.
-- Assumes nothing.
use mathlib.Core.Path.{◌≡◌, refl, ap, sym, ◌∙◌}
use mathlib.Core.Logic.{◌≢◌}
use mathlib.Core.Bool.{Bool, true, false, cond}
use Prim.Native.Nat.{ℕ, ◌*◌, ◌%◌, ◌^◌, ◌≤◌, ◌<◌}
use native.Mathlib.Nat.{zero-div}
use native.Mathlib.Omega.{arith}
use lib.Dec.{eqb}
use borrow.Author.Tests.{eqb-true, eqb-false, eq-eqb, ne_eqb}
use Rattle.label.specs.Tags.{tag_of, subset_in, equal_in, union_in, with_in, without_in, common_in, bytes_in, from_bytes_in}
use Rattle.label.proofs.Laws.{tag-lt, sum_mono, union-tag, with-tag, without-tag, subset_tag, subset_of_tags, subset_ext, equal-tag, equal_of_tags}
use Rattle.label.proofs.Bytes.{round-tag}

-- the tag is in, and is not
on : (x : ℕ) → eqb x 1 ≡ true → x ≡ 1
on x e = eqb-true x 1 e

off : (x : ℕ) → x < 2 → eqb x 1 ≡ false → x ≡ 0
off x l e = let z = eqb-false x 1 e in omega arith

pub no_tag : (n : ℕ) → tag_of 0 n ≡ 0
unfolding tag_of
no_tag n = ap (λ (x : ℕ). x % 2) (zero-div (2 ^ n))

-- a set with p and without t: the two tags are not one
apart : (r p t : ℕ) → eqb (tag_of r p) 1 ≡ true → eqb (tag_of r t) 1 ≡ false → t ≢ p
apart r p t e f q = let z : ◌≡◌ {A = Bool} true false = sym e ∙ ap (λ (x : ℕ). eqb (tag_of r x) 1) (sym q) ∙ f in let y : ◌≡◌ {A = ℕ} 0 1 = cc in omega arith

grows : (b : Bool) (x : ℕ) → x ≡ 1 → cond b 1 x ≡ 1
grows true x e = refl
grows false x e = e

falls : (b : Bool) (x : ℕ) → x ≡ 0 → cond b 0 x ≡ 0
falls true x e = refl
falls false x e = e

module _ (k : ℕ) where
  -- ---- subsets and unions

  pub subset_refl : (a : ℕ) → subset_in k a a ≡ true
  subset_refl a = subset_of_tags k a a (λ n l. omega arith)

  pub subset_trans : (a b c : ℕ) → subset_in k a b ≡ true → subset_in k b c ≡ true → subset_in k a c ≡ true
  subset_trans a b c f g = subset_of_tags k a c (λ n l. omega (arith, subset_tag k a b f n l, subset_tag k b c g n l))

  pub empty_subset : (a : ℕ) → subset_in k 0 a ≡ true
  empty_subset a = subset_of_tags k 0 a (λ n l. omega (arith, no_tag n))

  pub union_left : (a b : ℕ) → subset_in k a (union_in k a b) ≡ true
  union_left a b = subset_of_tags k a (union_in k a b) (λ n l. omega (arith, union-tag k a b n l))

  pub union_right : (a b : ℕ) → subset_in k b (union_in k a b) ≡ true
  union_right a b = subset_of_tags k b (union_in k a b) (λ n l. omega (arith, union-tag k a b n l))

  pub union_least : (a b c : ℕ) → subset_in k a c ≡ true → subset_in k b c ≡ true → subset_in k (union_in k a b) c ≡ true
  union_least a b c f g = subset_of_tags k (union_in k a b) c (λ n l. omega (arith, union-tag k a b n l, subset_tag k a c f n l, subset_tag k b c g n l))

  -- a tag of a subset of c adds nothing to c
  pub with_subset : (p a r c : ℕ) → eqb (tag_of r p) 1 ≡ true → subset_in k r c ≡ true → subset_in k a c ≡ true → subset_in k (with_in k a p) c ≡ true
  with_subset p a r c h f g = subset_of_tags k (with_in k a p) c (λ n l. rw (with-tag k a p n l) (go n l (eqb n p) refl))
    where
      go : (n : ℕ) → n < k → (b : Bool) → eqb n p ≡ b → cond b 1 (tag_of a n) ≤ tag_of c n
      go n l true e = omega (arith, subset_tag k r c f n l, ap (tag_of r) (eqb-true n p e), on (tag_of r p) h)
      go n l false e = subset_tag k a c g n l

  pub without_subset : (p a : ℕ) → subset_in k (without_in k a p) a ≡ true
  without_subset p a = subset_of_tags k (without_in k a p) a (λ n l. rw (without-tag k a p n l) (go n (eqb n p)))
    where
      go : (n : ℕ) (b : Bool) → cond b 0 (tag_of a n) ≤ tag_of a n
      go n true = omega arith
      go n false = omega arith

  pub equal_refl : (a : ℕ) → equal_in k a a ≡ true
  equal_refl a = equal_of_tags k a a (λ n l. refl)

  -- a larger set has more tags in common with a group
  pub common_mono : (g a b : ℕ) → subset_in k a b ≡ true → common_in k a g ≤ common_in k b g
  unfolding common_in
  common_mono g a b h = sum_mono k _ _ (λ n l. omega (arith, subset_tag k a b h n l))

  -- ---- one tag t of the k

  module _ (t : ℕ) (l : t < k) where
    pub subset_has : (a b : ℕ) → subset_in k a b ≡ true → eqb (tag_of a t) 1 ≡ true → eqb (tag_of b t) 1 ≡ true
    subset_has a b f h = eq-eqb (tag_of b t) 1 (omega (arith, subset_tag k a b f t l, on (tag_of a t) h, tag-lt b t))

    pub equal_has : (a b : ℕ) → equal_in k a b ≡ true → eqb (tag_of a t) 1 ≡ true → eqb (tag_of b t) 1 ≡ true
    equal_has a b f h = ap (λ (x : ℕ). eqb x 1) (sym (equal-tag k a b f t l)) ∙ h

    pub with_has : (p a : ℕ) → eqb (tag_of a t) 1 ≡ true → eqb (tag_of (with_in k a p) t) 1 ≡ true
    with_has p a h = eq-eqb _ _ (with-tag k a p t l ∙ grows (eqb t p) _ (on (tag_of a t) h))

    pub without_not : (p a : ℕ) → eqb (tag_of a t) 1 ≡ false → eqb (tag_of (without_in k a p) t) 1 ≡ false
    without_not p a f = ap (λ (x : ℕ). eqb x 1) (without-tag k a p t l ∙ falls (eqb t p) _ (off (tag_of a t) (tag-lt a t) f))

    -- a set r with p and without t
    pub with_not : (p r a : ℕ) → eqb (tag_of r p) 1 ≡ true → eqb (tag_of r t) 1 ≡ false → eqb (tag_of a t) 1 ≡ false → eqb (tag_of (with_in k a p) t) 1 ≡ false
    with_not p r a g h f = ap (λ (x : ℕ). eqb x 1) (with-tag k a p t l ∙ ap (λ (b : Bool). cond b 1 (tag_of a t)) (ne_eqb t p (apart r p t g h))) ∙ f

    pub without_has : (p r a : ℕ) → eqb (tag_of r p) 1 ≡ true → eqb (tag_of r t) 1 ≡ false → eqb (tag_of a t) 1 ≡ true → eqb (tag_of (without_in k a p) t) 1 ≡ true
    without_has p r a g h f = ap (λ (x : ℕ). eqb x 1) (without-tag k a p t l ∙ ap (λ (b : Bool). cond b 0 (tag_of a t)) (ne_eqb t p (apart r p t g h))) ∙ f

pub empty-not : (t : ℕ) → eqb (tag_of 0 t) 1 ≡ false
empty-not t = ap (λ (x : ℕ). eqb x 1) (no_tag t)

-- a set comes back from its bytes, as far as subsets can tell
pub round_subset : (w a b : ℕ) → subset_in (8 * w) (from_bytes_in (bytes_in w a)) b ≡ subset_in (8 * w) a b
round_subset w a b = subset_ext (8 * w) (from_bytes_in (bytes_in w a)) a b (λ n l. round-tag w a n l)
