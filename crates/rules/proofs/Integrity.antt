-- Integrity: what lacks a tag that nobody can add stays apart from what bears it. The second instance of what is hidden.
-- Assumes nothing.
use mathlib.Core.Path.{◌≡◌}
use mathlib.Core.Bool.{Bool, true, false, cond, not}
use Prim.Native.Nat.{ℕ}
use lib.Dec.{eqb}
use borrow.Author.Tests.{eqb-true}
use Rattle.rules.specs.Labels.{Labels}
use Rattle.rules.specs.Table.{Slot, flow}
use Rattle.rules.specs.Calls.{right_at, grant}
use Rattle.rules.specs.Runs.{lacks}
use Rattle.rules.specs.Laws.{TagLaws}
use Rattle.rules.proofs.Facts.{not-true, not_of, and_right, contra, either}
use Rattle.rules.proofs.Hiding.{Guard, HidingLaws}

-- safe is who cannot add the tag; no call is barred
abbrev pub unaddable : (A : Labels) → A.Tag → Guard A
unaddable A p = record { safe = λ i k s int r. not (A.has r.ia p); bars = λ a c. false }

module _ {A : Labels} (p : A.Tag) (G : TagLaws A p) where
  pub integrity_hides : HidingLaws (lacks A p) (unaddable A p)
  integrity_hides = record {
    flows = λ i j a b k l e f q. flows a b;
    adds = λ n q i a. add (eqb n 0) q a;
    drops = λ n q i a m r k. drop-tag (eqb n 0) q a;
    stay = record {
      add_safe = λ n q i a r k. k;
      drop_safe = λ n q i a r k. k;
      new_safe = λ i j n a m s. not_of G.empty_has;
      free_safe = λ i j a m. not_of G.empty_has;
      hand_safe = λ i j n q a b m. hand-right n q a b;
    };
  }
    where
      flows : (a b : Slot A) → flow a b ≡ true → not (A.has a.int p) ≡ true → not (A.has b.int p) ≡ true
      flows a b f h = not_of (contra (A.has b.int p) (A.has a.int p) (G.below_has b.int a.int (and_right (A.below a.sec b.sec) _ f)) (not-true (A.has a.int p) h))

      add : (z : Bool) (q : A.Tag) (a : Slot A) → A.has (cond z a.rights.sa a.rights.ia) q ≡ true → not (A.has a.rights.ia p) ≡ true
          → not (A.has a.int p) ≡ true → not (A.has (cond z a.int (A.insert q a.int)) p) ≡ true
      add true q a r k h = h
      add false q a r k h = not_of (G.insert_not q a.rights.ia a.int r (not-true (A.has a.rights.ia p) k) (not-true (A.has a.int p) h))

      drop-tag : (z : Bool) (q : A.Tag) (a : Slot A) → not (A.has a.int p) ≡ true → not (A.has (cond z a.int (A.remove q a.int)) p) ≡ true
      drop-tag true q a h = h
      drop-tag false q a h = not_of (G.remove_not q a.int (not-true (A.has a.int p) h))

      hand-right : (n : ℕ) (q : A.Tag) (a b : Slot A) → A.has (right_at n a.rights) q ≡ true → not (A.has a.rights.ia p) ≡ true
          → not (A.has b.rights.ia p) ≡ true → not (A.has (grant n q b.rights).ia p) ≡ true
      hand-right n q a b e k h = either (eqb n 2)
          (λ z. rw z (not_of (G.insert_not q a.rights.ia b.rights.ia (rw (eqb-true n 2 z) at e) (not-true (A.has a.rights.ia p) k) (not-true (A.has b.rights.ia p) h))))
          (λ z. rw z h)
