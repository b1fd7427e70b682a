-- What an entity has, in the order of labels, and the groups by their places.
-- Assumes nothing.
use mathlib.Core.Path.{◌≡◌, refl, ap₂, ◌∙◌}
use mathlib.Core.Bool.{Bool, true, false, ◌&&◌}
use mathlib.Core.List.{List, [], ◌∷◌}
use Prim.Native.Nat.{ℕ, zero, suc, ◌<◌}
use native.Mathlib.Omega.{arith}
use lib.ListN.{length, get_or}
use Rattle.rules.specs.Labels.{Labels}
use Rattle.rules.specs.Table.{held, keeps_each}
use Rattle.rules.specs.Laws.{OrderLaws}
use Rattle.rules.specs.Held.{HoldsSix, KeptByPlace}
use Rattle.rules.proofs.Facts.{and_left, and_right, both, iff}

-- six tests in the order of the union
six : (a b c d e f : Bool) → a && b && (c && d) && (e && f) ≡ a && (b && (c && (d && (e && f))))
six true true true d e f = refl
six true true false d e f = refl
six true false c d e f = refl
six false b c d e f = refl

module _ {A : Labels} (O : OrderLaws A) where
  pub join_below : (a b c : A.Label) → A.below (A.join a b) c ≡ A.below a c && A.below b c
  join_below a b c = iff (A.below (A.join a b) c) (A.below a c && A.below b c)
      (λ h. both (A.below a c) (A.below b c) (O.below_trans a (A.join a b) c (O.join_left a b) h) (O.below_trans b (A.join a b) c (O.join_right a b) h))
      (λ h. O.join_least a b c (and_left (A.below a c) _ h) (and_right (A.below a c) _ h))

  pub holds_six : HoldsSix A
  holds_six e l = let r = e.rights in
      join_below (A.join (A.join e.sec e.int) (A.join r.sa r.sd)) (A.join r.ia r.id) l
      ∙ ap₂ ◌&&◌ (join_below (A.join e.sec e.int) (A.join r.sa r.sd) l ∙ ap₂ ◌&&◌ (join_below e.sec e.int l) (join_below r.sa r.sd l)) (join_below r.ia r.id l)
      ∙ six (A.below e.sec l) (A.below e.int l) (A.below r.sa l) (A.below r.sd l) (A.below r.ia l) (A.below r.id l)

module _ (A : Labels) (d : A.Group) (l : A.Label) where
  pub each : (gs : List A.Group) → keeps_each A gs l ≡ true → (k : ℕ) → k < length gs → A.keeps (get_or gs k d) l ≡ true
  each [] h k m = absurd (omega arith)
  each (x ∷ gs) h zero m = and_left (A.keeps x l) _ h
  each (x ∷ gs) h (suc k) m = each gs (and_right (A.keeps x l) _ h) k (omega arith)

  all : (gs : List A.Group) → ((k : ℕ) → k < length gs → A.keeps (get_or gs k d) l ≡ true) → keeps_each A gs l ≡ true
  all [] h = refl
  all (x ∷ gs) h = both (A.keeps x l) _ (h 0 (omega arith)) (all gs (λ k m. h (suc k) (omega arith)))

pub kept_by_place : {A : Labels} → KeptByPlace A
kept_by_place {A} d gs e = record { each = each A d (held e) gs; all = all A d (held e) gs }
