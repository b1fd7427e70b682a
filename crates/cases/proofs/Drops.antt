-- What takes a tag from S is an allowed drop of it.
-- Assumes nothing.
use mathlib.Core.Path.{◌≡◌, refl, ap, sym, ◌∙◌}
use mathlib.Core.Bool.{Bool, true, false, cond, not, ◌&&◌, false≢true}
use mathlib.Core.Option.{some}
use Prim.Native.Nat.{ℕ, ◌<◌}
use lib.Dec.{eqb}
use borrow.Author.Tests.{eqb-true}
use Rattle.rules.specs.Numbers.{Outcome}
use Rattle.std.specs.Prelude.{Ok, Err}
use Rattle.rules.specs.Table.{Tables, at}
use Rattle.rules.specs.Calls.{Call, put, show, send, fetch, add_tag, drop_tag, create, release, hand, kind_of, caller_of}
use Rattle.rules.specs.Refusals.{verdict}
use Rattle.rules.specs.Laws.{TableLaws}
use Rattle.rules.specs.Runs.{call, preview}
use Rattle.rules.specs.Claims.{drops_tag}
use Rattle.rules.proofs.Facts.{and_right}
use Rattle.rules.proofs.Steps.{pass, written_at}
use Rattle.label.specs.declared.Label.{Label}
use Rattle.label.specs.Tags.{has_tag, without_tag}
use Rattle.label.specs.Words.{words}
use Rattle.label.proofs.Words.{words_order}
use Rattle.cases.specs.Drops.{NamedDrop, DropsNamed}
use Rattle.cases.proofs.TagByTag.{without_has}

-- a set that has the tag and has it not
no_set : {C : Type 0} (x : Bool) → x && not x ≡ true → C
no_set true e = absurd (false≢true e)
no_set false e = absurd (false≢true e)

-- a tag that goes when q is dropped is q
dropped_is : (p q : ℕ) (a : Label) → p < 64 → has_tag a p && not (has_tag (without_tag a q) p) ≡ true → q ≡ p
dropped_is p q a l e = go (eqb p q) refl (rw (without_has q a p l) at e)
  where
    go : (b : Bool) → eqb p q ≡ b → has_tag a p && not (not b && has_tag a p) ≡ true → q ≡ p
    go true d h = sym (eqb-true p q d)
    go false d h = no_set (has_tag a p) h

module _ (T : Tables words) (L : TableLaws T) where
  pub drops_named : DropsNamed T
  drops_named p l t (preview c) e = absurd (false≢true e)
  drops_named p l t (call c) e = go c (verdict T t c) refl e
    where
      drop : (i n q : ℕ) → verdict T t (drop_tag i n q) ≡ Ok tt → (b : Bool) → eqb n 0 ≡ b
          → has_tag (at T t i).sec p && not (has_tag (cond b (without_tag (at T t i).sec q) (at T t i).sec) p) ≡ true → NamedDrop T p t (call (drop_tag i n q))
      drop i n q a true z h = record { made = refl; allowed = a; kind = refl; set = eqb-true n 0 z; tag = ap some (dropped_is p q (at T t i).sec l h) }
      drop i n q a false z h = no_set (has_tag (at T t i).sec p) h

      go : (c : Call words) (v : Outcome) → verdict T t c ≡ v → drops_tag T p t (call c) ≡ true → NamedDrop T p t (call c)
      go c (Err n) a h = no_set (has_tag (at T t (caller_of c)).sec p) (and_right (eqb (kind_of c) 6) _ (rw a at h))
      go (put i bs) (Ok _) a h = absurd (false≢true h)
      go (show i buf) (Ok _) a h = absurd (false≢true h)
      go (send i j) (Ok _) a h = absurd (false≢true h)
      go (fetch i j) (Ok _) a h = absurd (false≢true h)
      go (add_tag i n q) (Ok _) a h = absurd (false≢true h)
      go (drop_tag i n q) (Ok _) a h =
          let s = written_at T words_order L t (drop_tag i n q) (pass T t (drop_tag i n q) a) in
          drop i n q a (eqb n 0) refl (sym (λ z. has_tag (at T t i).sec p && not (has_tag (s z).sec p)) ∙ h)
      go (create i j n) (Ok _) a h = absurd (false≢true h)
      go (release i j) (Ok _) a h = absurd (false≢true h)
      go (hand i j n q) (Ok _) a h = absurd (false≢true h)
