-- Document 01, 'The table' and 'Nine calls', and document 02, change 5, on sets of tags, read tag by tag: what it says of subsets, unions, tags in common, a tag
-- added or dropped, by whether each of the tags 0 to 63 is in a set.
-- Assumes nothing.
use Rattle.std.specs.Prelude.{◌≡◌, Bool, true, not, ◌&&◌, ◌||◌, List, [], ◌∷◌, ℕ, ◌≤◌, ◌<◌, eqb, length, drop}
use Rattle.rules.specs.Table.{Slot, flow, held, keeps_all}
use Rattle.label.specs.declared.Group.{Group}
use Rattle.label.specs.declared.Label.{Label}
use Rattle.rules.specs.Record.{visible}
use Rattle.label.specs.Tags.{has_tag, subset_of, common_of, from_bytes}
use Rattle.label.specs.Words.{words}

-- the tag is in S, in I or in one of the four rights
abbrev pub has : Slot words → ℕ → Bool
has e p =
    has_tag e.sec p
    || (has_tag e.int p || (has_tag e.rights.sa p || (has_tag e.rights.sd p || (has_tag e.rights.ia p || has_tag e.rights.id p))))

-- tags of a group that an entity has, each listed once: every one is below the one before it, and the first below n
abbrev pub Descending : Label → Slot words → ℕ → List ℕ → Type 0
Descending g e n [] = Unit {0}
Descending g e n (p ∷ ps) = (p < n) × (has e p && has_tag g p ≡ true) × Descending g e p ps

-- of the tags of a group an entity has at most so many as its number says: no list of them is longer
abbrev pub AtMost : Group → Slot words → Type 0
AtMost g e = (ps : List ℕ) → Descending g.tags e 64 ps → length ps ≤ g.most

-- every tag of the first is in the second
abbrev pub Subset : Label → Label → Type 0
Subset a b = (p : ℕ) → p < 64 → has_tag a p ≡ true → has_tag b p ≡ true

pub record TagByTag : Type 0 where
  -- the union of an entity's S, I and four rights
  pub union : (e : Slot words) (p : ℕ) → p < 64 → has_tag (held e) p ≡ has e p
  -- an entity keeps to a group when it has at most as many tags in common with it as the group's number says
  pub keeps : (g : Group) (e : Slot words) → keeps_all (g ∷ []) e ≡ true → AtMost g e
  pub kept : (g : Group) (e : Slot words) → AtMost g e → keeps_all (g ∷ []) e ≡ true
  -- so a group of no more tags than its number binds nobody
  pub unbinding : (g : Group) (e : Slot words) → common_of g.tags g.tags ≤ g.most → keeps_all (g ∷ []) e ≡ true
  -- flow from a to b is allowed when S(a) is a subset of S(b) and I(b) is a subset of I(a)
  pub flows : (a b : Slot words) → flow a b ≡ true → Subset a.sec b.sec × Subset b.int a.int
  pub flowing : (a b : Slot words) → Subset a.sec b.sec × Subset b.int a.int → flow a b ≡ true
  -- S and I equal another's: the same tags
  pub equals : (a b : Label) → words.same a b ≡ true → (p : ℕ) → p < 64 → has_tag a p ≡ has_tag b p
  pub equal : (a b : Label) → ((p : ℕ) → p < 64 → has_tag a p ≡ has_tag b p) → words.same a b ≡ true
  -- one tag more, and one tag less
  pub added : (p : ℕ) (a : Label) (q : ℕ) → q < 64 → has_tag (words.insert p a) q ≡ eqb q p || has_tag a q
  pub dropped : (p : ℕ) (a : Label) (q : ℕ) → q < 64 → has_tag (words.remove p a) q ≡ not (eqb q p) && has_tag a q
  -- of any bytes of a record only those from 8 on tell to whom it shows: the need as a number, least byte first
  pub shows : (l : Label) (r : List ℕ) → visible words l r ≡ subset_of (from_bytes (drop 8 r)) l
