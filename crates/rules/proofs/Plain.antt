-- The bare tables have the laws of tables.
-- Assumes nothing.
use mathlib.Core.Path.{◌≡◌, refl}
use mathlib.Core.Bool.{Bool, true, false, cond, ◌&&◌}
use Prim.Native.Nat.{ℕ, ◌<◌}
use lib.Dec.{leb, eqb}
use lib.ListN.{length}
use Rattle.std.specs.List.{list_all}
use Rattle.rules.specs.Bounded.{all_below}
use Rattle.rules.specs.Labels.{Labels}
use Rattle.rules.specs.Table.{Slot, slot_formed, Plain, plain}
use Rattle.rules.specs.Laws.{TableLaws}
use Rattle.rules.proofs.Facts.{and_left, and_right, both}
use Rattle.rules.proofs.Bounded.{all-at, all_of}

pub plain_laws : (A : Labels) → TableLaws (plain A)
plain_laws A = record {
  slot-formed = λ t f i l. slots t f i l;
  store_formed = λ t k e f l h. both _ (leb (length t.groups) 8 && list_all A.group_formed t.groups) (all_of 32 _ (λ i m. go t e h (eqb i k) i (slots t f i m))) (and_right (all_below 32 (λ i. slot_formed (t.slots i))) _ f);
  store_slot = λ t k e f l h i m. refl;
  store_groups = λ t k e f l h. refl;
}
  where
    slots : (t : Plain A) → all_below 32 (λ i. slot_formed (t.slots i)) && (leb (length t.groups) 8 && list_all A.group_formed t.groups) ≡ true → (i : ℕ) → i < 32 → slot_formed (t.slots i) ≡ true
    slots t f i l = all-at 32 (λ j. slot_formed (t.slots j)) (and_left (all_below 32 (λ j. slot_formed (t.slots j))) _ f) i l

    go : (t : Plain A) (e : Slot A) → slot_formed e ≡ true → (b : Bool) (i : ℕ) → slot_formed (t.slots i) ≡ true → slot_formed (cond b e (t.slots i)) ≡ true
    go t e h true i k = h
    go t e h false i k = k
