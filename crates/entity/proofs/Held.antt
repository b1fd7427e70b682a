-- With one right more an entity has one tag more.
-- Assumes nothing.
use mathlib.Core.Path.{◌≡◌, refl, ap}
use Prim.Native.Nat.{ℕ, zero, suc, ◌≤◌}
use native.Mathlib.Omega.{arith}
use Rattle.rules.specs.Table.{held}
use Rattle.rules.specs.Calls.{grant, with_rights}
use Rattle.label.specs.declared.Label.{Label}
use Rattle.label.specs.Tags.{label_of, union_of, with_tag}
use Rattle.label.proofs.Laws.{union_with_left, union_with_right}
use Rattle.entity.specs.declared.Entity.{Entity}
use Rattle.entity.specs.Entity.{bare, rights_of}

left-with : (a b : Label) (p : ℕ) → union_of (with_tag a p) b ≡ with_tag (union_of a b) p
unfolding union_of with_tag
left-with a b p = ap label_of (union_with_left 64 a.bits b.bits p)

right-with : (a b : Label) (p : ℕ) → union_of a (with_tag b p) ≡ with_tag (union_of a b) p
unfolding union_of with_tag
right-with a b p = ap label_of (union_with_right 64 a.bits b.bits p)

-- whichever right it is
pub held_with : (e : Entity) (n p : ℕ) → n ≤ 3 → held (with_rights (bare e) (grant n p (rights_of e))) ≡ with_tag (held (bare e)) p
held_with e zero p h = rw (left-with e.sa e.sd p, right-with (union_of e.sec e.int) (union_of e.sa e.sd) p, left-with (union_of (union_of e.sec e.int) (union_of e.sa e.sd)) (union_of e.ia e.id) p) refl
held_with e (suc zero) p h = rw (right-with e.sa e.sd p, right-with (union_of e.sec e.int) (union_of e.sa e.sd) p, left-with (union_of (union_of e.sec e.int) (union_of e.sa e.sd)) (union_of e.ia e.id) p) refl
held_with e (suc (suc zero)) p h = rw (left-with e.ia e.id p, right-with (union_of (union_of e.sec e.int) (union_of e.sa e.sd)) (union_of e.ia e.id) p) refl
held_with e (suc (suc (suc zero))) p h = rw (right-with e.ia e.id p, right-with (union_of (union_of e.sec e.int) (union_of e.sa e.sd)) (union_of e.ia e.id) p) refl
held_with e (suc (suc (suc (suc n)))) p h = absurd (omega arith)
