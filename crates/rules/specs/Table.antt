-- Document 01, 'The table': slots, flow, conflict groups, and the form that refusal 99 asks for.
-- Assumes nothing.
use Rattle.std.specs.Prelude.{Bool, true, false, cond, not, ◌&&◌, ◌||◌, List, [], ◌∷◌, ℕ, ltb, leb, eqb, length}
use Rattle.std.specs.List.{list_all}
use Rattle.rules.specs.declared.Kind.{Kind}
use Rattle.rules.specs.declared.Kind.TheVariants.{Free, Item, Program}
use Rattle.rules.specs.Bounded.{all_below}
use Rattle.rules.specs.Labels.{Labels}

abbrev pub is_free : Kind → Bool
is_free Free = true
is_free Item = false
is_free Program = false

abbrev pub is_item : Kind → Bool
is_item Free = false
is_item Item = true
is_item Program = false

abbrev pub is_program : Kind → Bool
is_program Free = false
is_program Item = false
is_program Program = true

module _ (A : Labels) where
  -- a program's rights: to add to S, drop from S, add to I, drop from I
  pub record Rights : Type 0 where
    pub sa : A.Label
    pub sd : A.Label
    pub ia : A.Label
    pub id : A.Label

  -- what stands in a slot: its kind, S, I, rights and content (no byte beyond its length)
  pub record Slot : Type 0 where
    pub kind : Kind
    pub sec : A.Label
    pub int : A.Label
    pub rights : Rights
    pub content : List ℕ

  -- What the rules need of a table: whether it has the form (99 applies where not), what it holds in a slot, its groups,
  -- and the table with another slot written
  pub record Tables : Type 1 where
    pub Table : Type 0
    pub formed : Table → Bool
    pub slot : Table → ℕ → Slot
    pub groups : Table → List A.Group
    pub store : Table → ℕ → Slot → Table

-- the label has no tag
abbrev pub is_empty : (A : Labels) → A.Label → Bool
is_empty A l = A.same l A.empty

-- who holds so much keeps to each group
abbrev pub keeps_each : (A : Labels) → List A.Group → A.Label → Bool
keeps_each A [] l = true
keeps_each A (g ∷ gs) l = A.keeps g l && keeps_each A gs l

module _ {A : Labels} where
  abbrev pub no_rights : Rights A
  no_rights = record { sa = A.empty; sd = A.empty; ia = A.empty; id = A.empty }

  -- a free slot: empty sets and empty content
  abbrev pub free : Slot A
  free = record { kind = Free; sec = A.empty; int = A.empty; rights = no_rights; content = [] }

  -- Flow from a to b is allowed when S(a) is a subset of S(b) and I(b) is a subset of I(a)
  abbrev pub flow : Slot A → Slot A → Bool
  flow a b = A.below a.sec b.sec && A.below b.int a.int

  -- the union of an entity's S, I and four rights (003, Definition 5)
  abbrev pub held : Slot A → A.Label
  held e =
      A.join (A.join (A.join e.sec e.int) (A.join e.rights.sa e.rights.sd)) (A.join e.rights.ia e.rights.id)

  -- An entity keeps to every group: that union does. What keeps to one group is the labels' own to say; of sets of tags it
  -- is what has at most as many tags in common with it as the group's number says
  abbrev pub keeps_all : List A.Group → Slot A → Bool
  keeps_all gs e = keeps_each A gs (held e)

  -- the entity of a slot, if there is one, keeps to every group
  abbrev pub slot_keeps : List A.Group → Slot A → Bool
  slot_keeps gs e = is_free e.kind || keeps_all gs e

  -- ---- the form of a slot, for 99

  abbrev pub rightless : Rights A → Bool
  rightless r = is_empty A r.sa && (is_empty A r.sd && (is_empty A r.ia && is_empty A r.id))

  -- neither tag nor right nor content; the number of bytes stands beside the slot, since a table may give a length that
  -- its content cannot have
  abbrev pub vacant : Slot A → ℕ → Bool
  vacant e n = (is_empty A e.sec && is_empty A e.int) && (rightless e.rights && eqb n 0)

  -- an item has no rights, and a free slot is vacant
  abbrev pub kind_formed : Slot A → ℕ → Bool
  kind_formed e n = (not (is_item e.kind) || rightless e.rights) && (not (is_free e.kind) || vacant e n)

  -- and there are at most 64 bytes
  abbrev pub parts_formed : Slot A → ℕ → Bool
  parts_formed e n = leb n 64 && kind_formed e n

  abbrev pub slot_formed : Slot A → Bool
  slot_formed e = parts_formed e (length e.content)

-- ---- tables

module _ {A : Labels} (T : Tables A) where
  -- the slot that a number names; a number above 31 names no slot, and counts as a free one
  abbrev pub at : T.Table → ℕ → Slot A
  at t i = cond (ltb i 32) (T.slot t i) free

  -- Accepted: 99 does not apply and every entity keeps to every group
  abbrev pub accepted : T.Table → Bool
  accepted t = T.formed t && all_below 32 (λ i. slot_keeps (T.groups t) (T.slot t i))

-- ---- the table as bare data: a slot for each number, and the groups

pub record Plain (A : Labels) : Type 0 where
  pub slots : ℕ → Slot A
  pub groups : List A.Group

abbrev pub plain : (A : Labels) → Tables A
plain A = record {
  Table = Plain A;
  formed = λ t. all_below 32 (λ i. slot_formed (t.slots i)) && (leb (length t.groups) 8 && list_all A.group_formed t.groups);
  slot = λ t i. t.slots i;
  groups = λ t. t.groups;
  store = λ t k e. record { slots = λ i. cond (eqb i k) e (t.slots i); groups = t.groups };
}
