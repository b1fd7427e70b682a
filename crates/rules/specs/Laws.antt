-- The laws of labels and of tables that the claims rest on. The 64-bit labels have them, those of a tag for every tag below 64,
-- and so have the bare tables and the hub's.
-- Assumes nothing.
use Rattle.std.specs.Prelude.{◌≡◌, true, false, cond, ◌∷◌, ℕ, ◌<◌, eqb, length}
use Rattle.std.proofs.Math.Option.{Option}
use Rattle.rules.specs.Labels.{Labels}
use Rattle.rules.specs.Table.{Slot, Tables, slot_formed}
use Rattle.rules.specs.Record.{visible}

-- Labels are ordered, a join is the least label above two, and who holds less keeps to no fewer groups
pub record OrderLaws (A : Labels) : Type 0 where
  pub below_refl : (a : A.Label) → A.below a a ≡ true
  pub below_trans : (a b c : A.Label) → A.below a b ≡ true → A.below b c ≡ true → A.below a c ≡ true
  pub empty_below : (a : A.Label) → A.below A.empty a ≡ true
  pub join_left : (a b : A.Label) → A.below a (A.join a b) ≡ true
  pub join_right : (a b : A.Label) → A.below b (A.join a b) ≡ true
  pub join_least : (a b c : A.Label) → A.below a c ≡ true → A.below b c ≡ true → A.below (A.join a b) c ≡ true
  -- a tag that some label below c has adds nothing to c
  pub insert_below : (p : A.Tag) (a r c : A.Label) → A.has r p ≡ true → A.below r c ≡ true → A.below a c ≡ true
      → A.below (A.insert p a) c ≡ true
  pub remove_below : (p : A.Tag) (a : A.Label) → A.below (A.remove p a) a ≡ true
  pub same_refl : (a : A.Label) → A.same a a ≡ true
  -- who holds no more than one who keeps to a group keeps to it
  pub keeps_less : (g : A.Group) (a b : A.Label) → A.below a b ≡ true → A.keeps g b ≡ true → A.keeps g a ≡ true
  -- a record has its size, and its need comes back from its bytes, as far as the order can tell
  pub tail_length : (p : Option A.Tag) (a : A.Label) → length (A.tail p a) ≡ A.width
  pub entry_shows : (k i j n m s : ℕ) (p : Option A.Tag) (a l : A.Label)
      → visible A l (k ∷ i ∷ j ∷ n ∷ m ∷ A.byte5 p a ∷ s ∷ 0 ∷ A.tail p a) ≡ A.below a l

-- What the tag t has to do with the operations
pub record TagLaws (A : Labels) (t : A.Tag) : Type 0 where
  pub empty_has : A.has A.empty t ≡ false
  pub below_has : (a b : A.Label) → A.below a b ≡ true → A.has a t ≡ true → A.has b t ≡ true
  pub same_has : (a b : A.Label) → A.same a b ≡ true → A.has a t ≡ true → A.has b t ≡ true
  pub insert_has : (p : A.Tag) (a : A.Label) → A.has a t ≡ true → A.has (A.insert p a) t ≡ true
  pub remove_not : (p : A.Tag) (a : A.Label) → A.has a t ≡ false → A.has (A.remove p a) t ≡ false
  -- a right over p and none over t leaves t as it is
  pub insert_not : (p : A.Tag) (r a : A.Label) → A.has r p ≡ true → A.has r t ≡ false → A.has a t ≡ false
      → A.has (A.insert p a) t ≡ false
  pub remove_has : (p : A.Tag) (r a : A.Label) → A.has r p ≡ true → A.has r t ≡ false → A.has a t ≡ true
      → A.has (A.remove p a) t ≡ true

-- A table in form has slots in form, and stays so where one is written; that slot then holds what was written, the others
-- and the groups what they held
pub record TableLaws {A : Labels} (T : Tables A) : Type 0 where
  pub slot-formed : (t : T.Table) → T.formed t ≡ true → (i : ℕ) → i < 32 → slot_formed (T.slot t i) ≡ true
  pub store_formed : (t : T.Table) (k : ℕ) (e : Slot A) → T.formed t ≡ true → k < 32 → slot_formed e ≡ true
      → T.formed (T.store t k e) ≡ true
  pub store_slot : (t : T.Table) (k : ℕ) (e : Slot A) → T.formed t ≡ true → k < 32 → slot_formed e ≡ true
      → (i : ℕ) → i < 32 → T.slot (T.store t k e) i ≡ cond (eqb i k) e (T.slot t i)
  pub store_groups : (t : T.Table) (k : ℕ) (e : Slot A) → T.formed t ≡ true → k < 32 → slot_formed e ≡ true
      → T.groups (T.store t k e) ≡ T.groups t
