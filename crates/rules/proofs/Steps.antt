-- An allowed call writes a slot in form into one of the 32 slots; so the form is kept, and the table after a call is known
-- slot by slot.
-- Assumes nothing.
use mathlib.Core.Path.{◌≡◌, refl, ap, sym, ◌∙◌}
use mathlib.Core.Bool.{Bool, true, false, cond, not, ◌&&◌, ◌||◌, false≢true}
use mathlib.Core.List.{List}
use Prim.Native.Nat.{ℕ, ◌≤◌, ◌<◌}
use native.Mathlib.Omega.{arith}
use lib.Dec.{ltb, leb, eqb}
use lib.ListN.{length}
use borrow.Author.Tests.{eqb-true, eq-eqb, ne_eqb, ltb-true, ltb-false, le-leb}
use Rattle.rules.specs.declared.Kind.{Kind}
use Rattle.rules.specs.declared.Kind.TheVariants.{Free, Item, Program}
use Rattle.rules.specs.Numbers.{Outcome}
use Rattle.std.specs.Prelude.{Ok, Err}
use Rattle.rules.specs.Labels.{Labels}
use Rattle.rules.specs.Table.{is_free, is_item, is_program, Slot, Tables, no_rights, free, rightless, vacant, slot_formed, at}
use Rattle.rules.specs.Calls.{Call, put, show, send, fetch, add_tag, drop_tag, create, release, hand, caller_of, other_of, created, target, written}
use Rattle.rules.specs.Refusals.{Refusals, ◌if◌else◌, first, on_allowed, refusals, verdict, step}
use Rattle.rules.specs.Laws.{OrderLaws, TableLaws}
use Rattle.rules.proofs.Facts.{not-false, and_left, and_right, both, neither_left, either, condition, passed, refused-not-allowed}
use Rattle.rules.specs.declared.Refusal.TheVariants.{Formless}

-- ---- kinds

program-left : (k : Kind) → is_free k ≡ false → is_item k ≡ false → is_program k ≡ true
program-left Free e f = cc
program-left Item e f = cc
program-left Program e f = refl

-- the condition of refusal 1, off
pub calls : (k : Kind) → not (is_program k) ≡ false → is_program k ≡ true
calls k e = not-false (is_program k) e

-- ---- slots in form

program-formed : (k : Kind) (x y : Bool) → is_program k ≡ true → (not (is_item k) || x) && (not (is_free k) || y) ≡ true
program-formed Free x y p = cc
program-formed Item x y p = cc
program-formed Program x y p = refl

-- an entity with the same rights is in form
entity-formed : (k : Kind) (x y z : Bool) → is_free k ≡ false → (not (is_item k) || x) && (not (is_free k) || y) ≡ true
    → (not (is_item k) || x) && (not (is_free k) || z) ≡ true
entity-formed Free x y z q h = cc
entity-formed Item x y z q h = h
entity-formed Program x y z q h = refl

module _ {A : Labels} where
  short : (e : Slot A) → slot_formed e ≡ true → leb (length e.content) 64 ≡ true
  short e h = and_left (leb (length e.content) 64) _ h

  module _ (O : OrderLaws A) where
    none-rightless : rightless (no_rights {A = A}) ≡ true
    none-rightless = rw (O.same_refl A.empty)

    pub free_formed : slot_formed (free {A = A}) ≡ true
    free_formed = rw (O.same_refl A.empty)

    new_formed : (z : Bool) (y : Bool) → (not (is_item (cond z Item Program)) || rightless (no_rights {A = A})) && (not (is_free (cond z Item Program)) || y) ≡ true
    new_formed true y = both _ true none-rightless refl
    new_formed false y = refl

    module _ (gs : List A.Group) (a b : Slot A) (h : slot_formed a ≡ true) (k : slot_formed b ≡ true) where
      -- the caller's slot with other labels or another short content
      caller-formed : (e : Slot A) → a.kind ≡ e.kind → not (is_program a.kind) ≡ false → leb (length e.content) 64 ≡ true → slot_formed e ≡ true
      caller-formed e q p l = both _ _ l (program-formed e.kind (rightless e.rights) (vacant e (length e.content)) (ap is_program (sym q) ∙ calls a.kind p))

      pub written_formed : (c : Call A) → ((n : ℕ) → condition n (refusals gs a b c) ≡ false) → slot_formed (written a b c) ≡ true
      written_formed (put i bs) r = caller-formed (written a b (put i bs)) refl (r 1) (le-leb _ _ (ltb-false 64 (length bs) (r 5)))
      written_formed (show i buf) r = h
      written_formed (send i j) r = both _ _ (short a h) (entity-formed b.kind (rightless b.rights) (vacant b (length b.content)) (vacant b (length a.content)) (r 3) (and_right (leb (length b.content) 64) _ k))
      written_formed (fetch i j) r = caller-formed (written a b (fetch i j)) refl (r 1) (short b k)
      written_formed (add_tag i n p) r = caller-formed (written a b (add_tag i n p)) refl (r 1) (short a h)
      written_formed (drop_tag i n p) r = caller-formed (written a b (drop_tag i n p)) refl (r 1) (short a h)
      written_formed (create i j n) r = new_formed (eqb n 1) (vacant (created n a) 0)
      written_formed (release i j) r = free_formed
      written_formed (hand i j n p) r = both _ _ (short b k)
          (program-formed b.kind (rightless (written a b (hand i j n p)).rights) (vacant (written a b (hand i j n p)) (length b.content)) (program-left b.kind (r 3) (r 9)))

-- ---- a call on a table in form

-- what holds where a call is allowed
pub record Pass {A : Labels} (T : Tables A) (t : T.Table) (c : Call A) : Type 0 where
  pub allowed : verdict T t c ≡ Ok tt
  pub formed : T.formed t ≡ true
  pub off : (n : ℕ) → condition n (refusals (T.groups t) (at T t (caller_of c)) (at T t (other_of c)) c) ≡ false

module _ {A : Labels} (T : Tables A) where
  pub pass : (t : T.Table) (c : Call A) → verdict T t c ≡ Ok tt → Pass T t c
  pass t c e = go (T.formed t) refl e
    where
      r : Refusals
      r = refusals (T.groups t) (at T t (caller_of c)) (at T t (other_of c)) c

      go : (b : Bool) → T.formed t ≡ b → first (Formless if not b else r) ≡ Ok tt → Pass T t c
      go true f q = record { allowed = e; formed = f; off = passed r q }
      go false f q = absurd (refused-not-allowed Formless q)

  -- a program stands in one of the 32 slots
  pub program_in : (t : T.Table) (i : ℕ) → is_program (at T t i).kind ≡ true → i < 32
  program_in t i h = go (ltb i 32) refl h
    where
      go : (b : Bool) → ltb i 32 ≡ b → is_program (cond b (T.slot t i) free).kind ≡ true → i < 32
      go true e q = ltb-true i 32 e
      go false e q = absurd (false≢true q)

  named_in : (j : ℕ) → ltb 31 j ≡ false → j < 32
  named_in j e = let q = ltb-false 31 j e in omega arith

  caller_in : (t : T.Table) (i : ℕ) → not (is_program (at T t i).kind) ≡ false → i < 32
  caller_in t i h = program_in t i (calls (at T t i).kind h)

  pub target_in : (t : T.Table) (c : Call A) → Pass T t c → target c < 32
  target_in t (put i bs) p = caller_in t i (p.off 1)
  target_in t (show i buf) p = caller_in t i (p.off 1)
  target_in t (send i j) p = named_in j (p.off 2)
  target_in t (fetch i j) p = caller_in t i (p.off 1)
  target_in t (add_tag i n q) p = caller_in t i (p.off 1)
  target_in t (drop_tag i n q) p = caller_in t i (p.off 1)
  target_in t (create i j n) p = named_in j (neither_left (ltb 31 j) _ (p.off 2))
  target_in t (release i j) p = named_in j (p.off 2)
  target_in t (hand i j n q) p = named_in j (neither_left (ltb 31 j) _ (p.off 2))

  abbrev pub writes : T.Table → Call A → Slot A
  writes t c = written (at T t (caller_of c)) (at T t (other_of c)) c

  module _ (O : OrderLaws A) (L : TableLaws T) where
    pub at_formed : (t : T.Table) → T.formed t ≡ true → (i : ℕ) → slot_formed (at T t i) ≡ true
    at_formed t f i = either (ltb i 32) (λ e. rw e (L.slot-formed t f i (ltb-true i 32 e))) (λ e. rw e (free_formed O))

    pub writes_formed : (t : T.Table) (c : Call A) → Pass T t c → slot_formed (writes t c) ≡ true
    writes_formed t c p = written_formed O (T.groups t) (at T t (caller_of c)) (at T t (other_of c)) (at_formed t p.formed (caller_of c)) (at_formed t p.formed (other_of c)) c p.off

    pub stored_at : (t : T.Table) (c : Call A) → Pass T t c → (i : ℕ) → at T (T.store t (target c) (writes t c)) i ≡ cond (eqb i (target c)) (writes t c) (at T t i)
    stored_at t c p i = go (ltb i 32) refl
      where
        k : target c < 32
        k = target_in t c p

        go : (b : Bool) → ltb i 32 ≡ b → cond b (T.slot (T.store t (target c) (writes t c)) i) free ≡ cond (eqb i (target c)) (writes t c) (cond b (T.slot t i) free)
        go true e = L.store_slot t (target c) (writes t c) p.formed k (writes_formed t c p) i (ltb-true i 32 e)
        go false e = let h : 32 ≤ i = ltb-false i 32 e in rw (ne_eqb i (target c) (λ q. omega (arith, k)))

    -- the slots after an allowed call
    pub step_at : (t : T.Table) (c : Call A) → Pass T t c → (i : ℕ) → at T (step T t c) i ≡ cond (eqb i (target c)) (writes t c) (at T t i)
    step_at t c p i = rw p.allowed (stored_at t c p i)

    -- its one slot holds what it writes
    pub written_at : (t : T.Table) (c : Call A) → Pass T t c → at T (step T t c) (target c) ≡ writes t c
    written_at t c p = step_at t c p (target c) ∙ rw (eq-eqb (target c) (target c) refl)

    -- the form is kept by every call
    pub step_formed : (t : T.Table) (c : Call A) → T.formed t ≡ true → T.formed (step T t c) ≡ true
    step_formed t c f = go (verdict T t c) refl
      where
        go : (v : Outcome) → verdict T t c ≡ v → T.formed (on_allowed v (T.store t (target c) (writes t c)) t) ≡ true
        go (Err n) e = f
        go (Ok _) e = let p = pass t c e in L.store_formed t (target c) (writes t c) f (target_in t c p) (writes_formed t c p)

    -- and so are the groups
    pub step_groups : (t : T.Table) (c : Call A) → T.groups (step T t c) ≡ T.groups t
    step_groups t c = go (verdict T t c) refl
      where
        go : (v : Outcome) → verdict T t c ≡ v → T.groups (on_allowed v (T.store t (target c) (writes t c)) t) ≡ T.groups t
        go (Err n) e = refl
        go (Ok _) e = let p = pass t c e in L.store_groups t (target c) (writes t c) p.formed (target_in t c p) (writes_formed t c p)

    -- what holds of every slot, and of what an allowed call writes, holds of every slot after the call
    pub step_all : (P : ℕ → Slot A → Type 0) (t : T.Table) (c : Call A) → (Pass T t c → P (target c) (writes t c)) → ((i : ℕ) → P i (at T t i))
        → (i : ℕ) → P i (at T (step T t c) i)
    step_all P t c w h i = go (verdict T t c) refl
      where
        new : Pass T t c → (b : Bool) → eqb i (target c) ≡ b → P i (cond b (writes t c) (at T t i))
        new p true e = rw (eqb-true i (target c) e) (w p)
        new p false e = h i

        go : (v : Outcome) → verdict T t c ≡ v → P i (at T (on_allowed v (T.store t (target c) (writes t c)) t) i)
        go (Err n) e = h i
        go (Ok _) e = let p = pass t c e in rw (stored_at t c p i) (new p (eqb i (target c)) refl)
