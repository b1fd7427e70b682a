-- The groups, counted tag by tag: no sequence of calls and previews breaks one.
-- Assumes nothing.
use mathlib.Core.Path.{◌≡◌, refl, sym, ap, ap₂, ◌∙◌}
use mathlib.Core.Bool.{Bool, true, false}
use mathlib.Core.List.{List, [], ◌∷◌}
use Prim.Native.Nat.{ℕ, ◌≤◌, ◌<◌, min, max}
use native.Mathlib.Omega.{arith}
use lib.Dec.{ltb, leb}
use lib.ListN.{get_or}
use borrow.Author.Tests.{leb-true, le-leb}
use Rattle.rules.specs.Numbers.{Outcome}
use Rattle.std.specs.Prelude.{Ok, Err}
use Rattle.rules.specs.Table.{is_free, held, slot_keeps, accepted}
use Rattle.rules.specs.Calls.{Call, target}
use Rattle.rules.specs.Refusals.{on_allowed, verdict, step}
use Rattle.rules.specs.Runs.{final, call, preview, next}
use Rattle.rules.proofs.Facts.{and_left, and_right, both, or_right, or-rest, either}
use Rattle.rules.proofs.Bounded.{all-at, all_of}
use Rattle.rules.proofs.Held.{kept_by_place}
use Rattle.rules.proofs.Groups.{stays_accepted}
use Rattle.rules.proofs.Steps.{writes}
use Rattle.label.specs.declared.Group.{Group}
use Rattle.label.specs.declared.Label.{Label}
use Rattle.label.specs.Tags.{tag_of, union_of, common_in, common_of, keeps_to}
use Rattle.label.specs.Words.{words}
use Rattle.label.proofs.Laws.{sum_ext, union-tag}
use Rattle.label.proofs.Words.{words_order}
use Rattle.entity.specs.declared.Entity.{Entity}
use Rattle.entity.specs.Entity.{slot_of}
use Rattle.block.specs.Block.{block_at}
use Rattle.monitor.specs.declared.Table.{Table}
use Rattle.monitor.specs.Table.{tags_in, most_in, formed, groups_of, with_slot, hub}
use Rattle.monitor.proofs.Form.{hub_laws}
use Rattle.claims.specs.InForm.{stands_in, InForm}
use Rattle.claims.specs.Groups.{tag_had, tags_had, GroupsKept, AcceptedSpelt, NoGroupBroken, GroupsFixed, NoGroupMoved}
use Rattle.claims.proofs.InForm.{no_group, counted_length, counted-at, form_spelt}

-- ---- one group

max-same : {a b x y : ℕ} → a ≡ x → b ≡ y → max a b ≡ max x y
max-same p q = ap₂ max p q

union-max : (a b : Label) (n : ℕ) → n < 64 → tag_of (union_of a b).bits n ≡ max (tag_of a.bits n) (tag_of b.bits n)
unfolding union_of
union-max a b n h = union-tag 64 a.bits b.bits n h

module _ (e : Entity) (b : List ℕ) where
  held-tag : (n : ℕ) → n < 64 → tag_of (held {A = words} (slot_of e b)).bits n ≡ tag_had e n
  held-tag n h =
      union-max _ _ n h ∙ max-same
      (union-max _ _ n h ∙ max-same (union-max e.sec e.int n h) (union-max e.sa e.sd n h))
      (union-max e.ia e.id n h)

  common_had : (g : Label) → common_of (held {A = words} (slot_of e b)) g ≡ tags_had g e
  unfolding common_of common_in
  common_had g = sum_ext 64 _ _ (λ n h. ap (λ (x : ℕ). min x (tag_of g.bits n)) (held-tag n h))

  group-kept : (g : Group) → words.keeps g (held (slot_of e b)) ≡ true → tags_had g.tags e ≤ g.most
  unfolding keeps_to
  group-kept g h = leb-true _ _ (ap (λ (n : ℕ). leb n g.most) (sym (common_had g.tags)) ∙ h)

  group-keeps : (g : Group) → tags_had g.tags e ≤ g.most → words.keeps g (held (slot_of e b)) ≡ true
  unfolding keeps_to
  group-keeps g h = ap (λ (n : ℕ). leb n g.most) (common_had g.tags) ∙ le-leb _ _ h

-- ---- tables

module _ (t : Table) (i : InForm t) where
  -- the group at a place, as it stands in the arrays
  stands : (n : ℕ) → n < t.count → get_or (groups_of t) n no_group ≡ record { tags = tags_in t n; most = most_in t n }
  stands n l = counted-at t i.groups i.most n no_group l (omega (arith, l, i.count))

  kept-accepted : GroupsKept t → accepted hub t ≡ true
  kept-accepted h = both _ _ (form_spelt.enough t i) (all_of 32 _ (λ k l. go k l (is_free (stands_in t k).kind) refl))
    where
      go : (k : ℕ) → k < 32 → (x : Bool) → is_free (stands_in t k).kind ≡ x → slot_keeps (groups_of t) (hub.slot t k) ≡ true
      go k l true q = rw q
      go k l false q = let e = stands_in t k in let b = block_at t.content k in
          or_right (is_free e.kind) _ ((kept_by_place no_group (groups_of t) (slot_of e b)).all (λ n m.
          let c : n < t.count = omega (arith, m, counted_length t i.groups i.most i.count) in
          rw (stands n c) (group-keeps e b (record { tags = tags_in t n; most = most_in t n }) (h k l q n c))))

  accepted-kept : accepted hub t ≡ true → GroupsKept t
  accepted-kept a k l q n m = let e = stands_in t k in let b = block_at t.content k in
      let h = or-rest (is_free e.kind) _ (all-at 32 _ (and_right (formed t) _ a) k l) q in
      group-kept e b (record { tags = tags_in t n; most = most_in t n })
      (rw (stands n m) at ((kept_by_place no_group (groups_of t) (slot_of e b)).each h n (omega (arith, m, counted_length t i.groups i.most i.count))))

pub accepted_spelt : AcceptedSpelt
accepted_spelt = record {
  form = λ t a. form_spelt.holds t (and_left (formed t) _ a);
  kept = λ t a. accepted-kept t (form_spelt.holds t (and_left (formed t) _ a)) a;
  enough = kept-accepted;
}

pub no_group_broken : NoGroupBroken
no_group_broken t es f h =
    let k = (stays_accepted words_order hub hub_laws t es (accepted_spelt.enough t f h)).accepted in
    let u = final (next hub) t es in
    record { form = accepted_spelt.form u k; kept = accepted_spelt.kept u k }

-- ---- the arrays

slot-groups : (t : Table) (k : ℕ) (e : Entity) (b : List ℕ) → GroupsFixed t (with_slot t k e b)
unfolding with_slot
slot-groups t k e b = either (ltb k 32) (λ q. rw q (record { groups = refl; most = refl; count = refl })) (λ q. rw q (record { groups = refl; most = refl; count = refl }))

step_fixed : (t : Table) (c : Call words) → GroupsFixed t (step hub t c)
step_fixed t c = go (verdict hub t c)
  where
    go : (v : Outcome) → GroupsFixed t (on_allowed v (hub.store t (target c) (writes hub t c)) t)
    go (Ok _) = slot-groups t _ _ _
    go (Err n) = record { groups = refl; most = refl; count = refl }

pub no_group_moved : NoGroupMoved
no_group_moved t [] = record { groups = refl; most = refl; count = refl }
no_group_moved t (preview c ∷ es) = no_group_moved t es
no_group_moved t (call c ∷ es) =
    let a = step_fixed t c in
    let b = no_group_moved (step hub t c) es in
    record { groups = b.groups ∙ a.groups; most = b.most ∙ a.most; count = b.count ∙ a.count }
