-- Sets of tags, tag by tag.
-- Assumes nothing.
use mathlib.Core.Path.{◌≡◌, refl, ap, ap₂, sym, ◌∙◌}
use mathlib.Core.Logic.{⊎_elim}
use mathlib.Core.Bool.{Bool, true, false, cond, not, ◌&&◌, ◌||◌}
use mathlib.Core.List.{List, [], ◌∷◌}
use lib.ListN.{length}
use Prim.Native.Nat.{ℕ, zero, suc, ◌+◌, ◌≤◌, ◌<◌, min, max}
use native.Mathlib.Nat.{eq-or-lt_of_le, le_of_suc-le-suc}
use native.Mathlib.Omega.{arith}
use lib.Dec.{eqb}
use borrow.Author.Tests.{eqb-true, eqb-false, eq-eqb, leb-true, le-leb}
use Rattle.rules.specs.Table.{Slot, held}
use Rattle.rules.proofs.Facts.{and_left, and_right, both, either}
use Rattle.label.specs.declared.Group.{Group}
use Rattle.label.specs.declared.Label.{Label}
use Rattle.label.specs.Tags.{tag_of, sum_of, common_in, has_tag, subset_of, equal_of, union_of, with_tag, without_tag, common_of, keeps_to}
use Rattle.label.specs.Words.{words}
use Rattle.label.proofs.Laws.{sum_mono, tag-lt, union-tag, with-tag, without-tag, subset_tag, subset_of_tags, equal-tag, equal_of_tags}
use Rattle.cases.specs.TagByTag.{has, Descending, AtMost, Subset, TagByTag}

-- ---- one tag, 1 or 0

bit_max : (x y : ℕ) → x < 2 → y < 2 → eqb (max x y) 1 ≡ eqb x 1 || eqb y 1
bit_max zero zero l m = refl
bit_max zero (suc zero) l m = refl
bit_max (suc zero) zero l m = refl
bit_max (suc zero) (suc zero) l m = refl
bit_max zero (suc (suc y)) l m = absurd (omega arith)
bit_max (suc zero) (suc (suc y)) l m = absurd (omega arith)
bit_max (suc (suc x)) y l m = absurd (omega arith)

bit_min : (x y : ℕ) → x < 2 → y < 2 → eqb (min x y) 1 ≡ eqb x 1 && eqb y 1
bit_min zero zero l m = refl
bit_min zero (suc zero) l m = refl
bit_min (suc zero) zero l m = refl
bit_min (suc zero) (suc zero) l m = refl
bit_min zero (suc (suc y)) l m = absurd (omega arith)
bit_min (suc zero) (suc (suc y)) l m = absurd (omega arith)
bit_min (suc (suc x)) y l m = absurd (omega arith)

-- ---- labels

union-has : (a b : Label) (p : ℕ) → p < 64 → has_tag (union_of a b) p ≡ has_tag a p || has_tag b p
unfolding has_tag union_of
union-has a b p l = ap (λ (x : ℕ). eqb x 1) (union-tag 64 a.bits b.bits p l) ∙ bit_max (tag_of a.bits p) (tag_of b.bits p) (tag-lt a.bits p) (tag-lt b.bits p)

six : (a b c d e f : Bool) → a || b || (c || d) || (e || f) ≡ a || (b || (c || (d || (e || f))))
six true b c d e f = refl
six false true c d e f = refl
six false false true d e f = refl
six false false false d e f = refl

union_six : (e : Slot words) (p : ℕ) → p < 64 → has_tag (held e) p ≡ has e p
union_six e p l =
    let r = e.rights in
    union-has (union_of (union_of e.sec e.int) (union_of r.sa r.sd)) (union_of r.ia r.id) p l
    ∙ ap₂ ◌||◌
    (union-has (union_of e.sec e.int) (union_of r.sa r.sd) p l ∙ ap₂ ◌||◌ (union-has e.sec e.int p l) (union-has r.sa r.sd p l))
    (union-has r.ia r.id p l)
    ∙ six (has_tag e.sec p) (has_tag e.int p) (has_tag r.sa p) (has_tag r.sd p) (has_tag r.ia p) (has_tag r.id p)

-- tags in common
module _ (a g : Label) where
  common : ℕ → ℕ
  common n = min (tag_of a.bits n) (tag_of g.bits n)

  common_has : (p : ℕ) → eqb (common p) 1 ≡ has_tag a p && has_tag g p
  unfolding common has_tag
  common_has p = bit_min (tag_of a.bits p) (tag_of g.bits p) (tag-lt a.bits p) (tag-lt g.bits p)

  common_lt : (p : ℕ) → common p < 2
  unfolding common
  common_lt p = omega (arith, tag-lt a.bits p)

-- the tags of a group that an entity has, listed
module _ (g : Label) (e : Slot words) where
  tags : ℕ → ℕ
  tags = common (held e) g

  -- a listed tag is one in common, and counts
  counts : (p : ℕ) → p < 64 → eqb (tags p) 1 ≡ has e p && has_tag g p
  unfolding tags
  counts p l = common_has (held e) g p ∙ ap (λ (x : Bool). x && has_tag g p) (union_six e p l)

  weaker : (n k : ℕ) → n ≤ k → (ps : List ℕ) → Descending g e n ps → Descending g e k ps
  weaker n k h [] l = tt
  weaker n k h (p ∷ ps) l = (omega (arith, l.0), l.1, l.2)

  no_longer : (k : ℕ) → k ≤ 64 → (ps : List ℕ) → Descending g e k ps → length ps ≤ sum_of k tags
  unfolding sum_of
  no_longer k h [] l = omega arith
  no_longer zero h (p ∷ ps) l = absurd (omega (arith, l.0))
  no_longer (suc k) h (p ∷ ps) l = ⊎_elim
      (λ (q : p ≡ k).
      let one : tags p ≡ 1 = eqb-true (tags p) 1 (counts p (omega (arith, l.0)) ∙ l.1) in
      omega (arith, one, ap tags q, no_longer k (omega arith) ps (weaker p k (omega (arith, q)) ps l.2)))
      (λ m. omega (arith, no_longer k (omega arith) (p ∷ ps) (m, l.1, l.2)))
      (eq-or-lt_of_le (le_of_suc-le-suc l.0))

  -- all of them below k
  list : ℕ → List ℕ
  list zero = []
  list (suc k) = cond (eqb (tags k) 1) (k ∷ list k) (list k)

  listed : (k : ℕ) → k ≤ 64 → Descending g e k (list k)
  unfolding list
  listed zero h = tt
  listed (suc k) h = go (eqb (tags k) 1) refl (listed k (omega arith))
    where
      go : (b : Bool) → eqb (tags k) 1 ≡ b → Descending g e k (list k) → Descending g e (suc k) (cond b (k ∷ list k) (list k))
      go true q r = (omega arith, sym (counts k (omega arith)) ∙ q, r)
      go false q r = weaker k (suc k) (omega arith) (list k) r

  as_long : (k : ℕ) → length (list k) ≡ sum_of k tags
  unfolding list sum_of tags
  as_long zero = refl
  as_long (suc k) = go (eqb (tags k) 1) refl (as_long k)
    where
      go : (b : Bool) → eqb (tags k) 1 ≡ b → length (list k) ≡ sum_of k tags → length (cond b (k ∷ list k) (list k)) ≡ tags k + sum_of k tags
      go true q r = ap suc r ∙ omega (arith, eqb-true (tags k) 1 q)
      go false q r = let z = eqb-false (tags k) 1 q in r ∙ omega (arith, common_lt (held e) g k)

keeps_at_most : (g : Group) (e : Slot words) → keeps_to g (held e) ≡ true → AtMost g e
unfolding keeps_to common_of common_in common tags
keeps_at_most g e h ps l = omega (arith, no_longer g.tags e 64 (omega arith) ps l, leb-true (sum_of 64 (tags g.tags e)) g.most h)

at_most_keeps : (g : Group) (e : Slot words) → AtMost g e → keeps_to g (held e) ≡ true
unfolding keeps_to common_of common_in common tags
at_most_keeps g e h = le-leb (sum_of 64 (tags g.tags e)) g.most (omega (arith, h (list g.tags e 64) (listed g.tags e 64 (omega arith)), as_long g.tags e 64))

binds_nobody : (g : Group) (e : Slot words) → common_of g.tags g.tags ≤ g.most → keeps_to g (held e) ≡ true
unfolding keeps_to common_of common_in common
binds_nobody g e h = le-leb _ g.most (omega (arith, h, sum_mono 64 (common (held e) g.tags) (common g.tags g.tags) (λ n l. fewer (tag_of (held e).bits n) (tag_of g.tags.bits n))))
  where
    fewer : (x y : ℕ) → min x y ≤ min y y
    fewer x y = omega arith

subset_tags : (a b : Label) → subset_of a b ≡ true → Subset a b
unfolding subset_of has_tag
subset_tags a b h p l e = eq-eqb (tag_of b.bits p) 1 (omega (arith, subset_tag 64 a.bits b.bits h p l, eqb-true (tag_of a.bits p) 1 e, tag-lt b.bits p))

tags_subset : (a b : Label) → Subset a b → subset_of a b ≡ true
unfolding subset_of has_tag
tags_subset a b h = subset_of_tags 64 a.bits b.bits (λ p l. either (eqb (tag_of a.bits p) 1)
    (λ e. omega (arith, tag-lt a.bits p, eqb-true (tag_of b.bits p) 1 (h p l e)))
    (λ e. let z = eqb-false (tag_of a.bits p) 1 e in omega (arith, tag-lt a.bits p)))

equal_tags : (a b : Label) → equal_of a b ≡ true → (p : ℕ) → p < 64 → has_tag a p ≡ has_tag b p
unfolding equal_of has_tag
equal_tags a b h p l = ap (λ (x : ℕ). eqb x 1) (equal-tag 64 a.bits b.bits h p l)

bit_is : (x y : ℕ) → x < 2 → y < 2 → eqb x 1 ≡ eqb y 1 → x ≡ y
bit_is x y l m e = either (eqb x 1)
    (λ d. eqb-true x 1 d ∙ sym (eqb-true y 1 (sym e ∙ d)))
    (λ d. let u = eqb-false x 1 d in let v = eqb-false y 1 (sym e ∙ d) in omega arith)

tags_equal : (a b : Label) → ((p : ℕ) → p < 64 → has_tag a p ≡ has_tag b p) → equal_of a b ≡ true
unfolding equal_of has_tag
tags_equal a b h = equal_of_tags 64 a.bits b.bits (λ p l. bit_is (tag_of a.bits p) (tag_of b.bits p) (tag-lt a.bits p) (tag-lt b.bits p) (h p l))

with_has : (p : ℕ) (a : Label) (q : ℕ) → q < 64 → has_tag (with_tag a p) q ≡ eqb q p || has_tag a q
unfolding has_tag with_tag
with_has p a q l = ap (λ (x : ℕ). eqb x 1) (with-tag 64 a.bits p q l) ∙ go (eqb q p)
  where
    go : (b : Bool) → eqb (cond b 1 (tag_of a.bits q)) 1 ≡ b || eqb (tag_of a.bits q) 1
    go true = refl
    go false = refl

pub without_has : (p : ℕ) (a : Label) (q : ℕ) → q < 64 → has_tag (without_tag a p) q ≡ not (eqb q p) && has_tag a q
unfolding has_tag without_tag
without_has p a q l = ap (λ (x : ℕ). eqb x 1) (without-tag 64 a.bits p q l) ∙ go (eqb q p)
  where
    go : (b : Bool) → eqb (cond b 0 (tag_of a.bits q)) 1 ≡ not b && eqb (tag_of a.bits q) 1
    go true = refl
    go false = refl

-- ---- the claim

pub tag_by_tag : TagByTag
tag_by_tag = record {
  union = union_six;
  keeps = λ g e h. keeps_at_most g e (and_left (keeps_to g (held e)) _ h);
  kept = λ g e h. both (keeps_to g (held e)) _ (at_most_keeps g e h) refl;
  unbinding = λ g e h. both (keeps_to g (held e)) _ (binds_nobody g e h) refl;
  flows = λ a b h. (subset_tags a.sec b.sec (and_left (subset_of a.sec b.sec) _ h), subset_tags b.int a.int (and_right (subset_of a.sec b.sec) _ h));
  flowing = λ a b h. both (subset_of a.sec b.sec) _ (tags_subset a.sec b.sec h.0) (tags_subset b.int a.int h.1);
  equals = equal_tags;
  equal = tags_equal;
  added = with_has;
  dropped = without_has;
  shows = λ l r. refl;
}
