-- The worked cases at the struct: it holds the slots of the bare table, so it answers as that does.
-- Assumes nothing.
use mathlib.Core.Path.{◌≡◌, refl, sym, ap, ◌∙◌}
use mathlib.Core.Bool.{Bool, true, false, cond, ◌&&◌}
use mathlib.Core.List.{List, [], ◌∷◌, map}
use Prim.Native.Nat.{ℕ, zero, suc, ◌≤◌, ◌<◌}
use native.Mathlib.Omega.{arith}
use lib.Arith.{lt_of_le-ne}
use lib.Dec.{ltb, leb, eqb}
use lib.ListN.{length, get_or}
use borrow.Author.Tests.{leb-true, ltb-true, ltb-false, lt-ltb, le-ltb, eqb-true, eqb-false}
use Rattle.std.specs.List.{list_all}
use Rattle.rules.specs.Bounded.{all_below}
use Rattle.rules.specs.Table.{slot_formed, Plain, plain, free, slot_keeps, accepted}
use Rattle.rules.specs.Runs.{gained}
use Rattle.rules.specs.SameSlots.{HoldSame}
use Rattle.rules.proofs.Facts.{and_left, and_right, both, either}
use Rattle.rules.proofs.Bounded.{all-at, all_of}
use Rattle.rules.proofs.Plain.{plain_laws}
use Rattle.rules.proofs.SameSlots.{same_answer, answers_by_slots}
use Rattle.label.specs.Tags.{group_formed}
use Rattle.label.specs.Words.{words}
use Rattle.label.proofs.Words.{words_order}
use Rattle.entity.specs.declared.Entity.{Entity}
use Rattle.entity.specs.Entity.{slot_of}
use Rattle.block.specs.Block.{block_at}
use Rattle.cases.specs.Cases.{table_of, Case, cases, Result, given, stated}
use Rattle.cases.specs.Rounds.{Line, events, Holds}
use Rattle.cases.proofs.Cases.{cases_hold, round_holds, second_holds, probe_holds, previewed_holds}
use Rattle.monitor.specs.Table.{formed, groups_of, hub, empty_table, empty_with}
use Rattle.monitor.proofs.Form.{hub_laws}
use Rattle.monitor.proofs.Empty.{empty-entity, empty_groups, empty_form}
use Rattle.claims.specs.Cases.{filled_to, table_holding, given_at_hub, CasesHoldAtHub, PlaysAtHub, RoundsHoldAtHub}

apart : (i k : ℕ) → k ≤ i → (i ≡ k → ⊥) → suc k ≤ i
apart i k h n = lt_of_le-ne h (λ q. n (sym q))

-- ---- the struct holds the slots

module _ (p : Plain words) (f : (plain words).formed p ≡ true) where
  groups-formed : leb (length p.groups) 8 && list_all group_formed p.groups ≡ true
  groups-formed = and_right (all_below 32 (λ i. slot_formed (p.slots i))) _ f

  -- with the slots below k written
  record Written (k : ℕ) : Type 0 where
    form : formed (filled_to p k) ≡ true
    slots : (i : ℕ) → i < 32 → hub.slot (filled_to p k) i ≡ cond (ltb i k) (p.slots i) free
    groups : groups_of (filled_to p k) ≡ p.groups

  start : Written 0
  unfolding filled_to empty_with
  start = record {
    form = empty_form p.groups (leb-true _ _ (and_left (leb (length p.groups) 8) _ groups-formed)) (and_right (leb (length p.groups) 8) _ groups-formed);
    slots = λ i l. ap (λ (e : Entity). slot_of e (block_at empty_table.content i)) (empty-entity i l) ∙ rw (le-ltb i 0 (omega arith));
    groups = empty_groups p.groups;
  }

  more : (k : ℕ) → k < 32 → Written k → Written (suc k)
  unfolding filled_to
  more k l h =
      let g = (plain_laws words).slot-formed p f k l in record {
        form = hub_laws.store_formed (filled_to p k) k (p.slots k) h.form l g;
        slots = λ i m. hub_laws.store_slot (filled_to p k) k (p.slots k) h.form l g i m ∙ next i m (eqb i k) refl;
        groups = hub_laws.store_groups (filled_to p k) k (p.slots k) h.form l g ∙ h.groups;
      }
    where
      next : (i : ℕ) → i < 32 → (x : Bool) → eqb i k ≡ x → cond x (p.slots k) (hub.slot (filled_to p k) i) ≡ cond (ltb i (suc k)) (p.slots i) free
      next i m true e = let q = eqb-true i k e in rw (lt-ltb i (suc k) (omega arith), q)
      next i m false e = let q = eqb-false i k e in
          h.slots i m ∙ ap (λ (b : Bool). cond b (p.slots i) free) (sym (either (ltb i k)
          (λ x. lt-ltb i (suc k) (omega (arith, ltb-true i k x)) ∙ sym x)
          (λ x. le-ltb i (suc k) (apart i k (ltb-false i k x) q) ∙ sym x)))

  all_held : (k : ℕ) → k ≤ 32 → Written k
  all_held zero l = start
  all_held (suc k) l = more k (omega arith) (all_held k (omega arith))

  held : HoldSame hub (plain words) (table_holding p) p
  held = let h = all_held 32 (omega arith) in record {
    left = h.form;
    right = f;
    slots = λ i. either (ltb i 32) (λ e. rw e (h.slots i (ltb-true i 32 e) ∙ rw e)) (λ e. rw e);
    groups = h.groups;
  }

  accepted_too : accepted (plain words) p ≡ true → accepted hub (table_holding p) ≡ true
  accepted_too a = let h = all_held 32 (omega arith) in both _ _ h.form (all_of 32 _ (λ i l.
      let g = h.groups in
      let s : hub.slot (table_holding p) i ≡ p.slots i = h.slots i l ∙ rw (lt-ltb i 32 l) in
      (λ z. slot_keeps (g z) (s z)) ∙ all-at 32 (λ i. slot_keeps p.groups (p.slots i)) (and_right ((plain words).formed p) _ a) i l))

-- ---- the cases

case_too : (k : Case) → given k ≡ stated k → given_at_hub k ≡ stated k
case_too k e =
    let a = ap (λ (r : Result). r.accepted) e in
    let f = and_left ((plain words).formed (table_of k.table)) _ a in
    let s = same_answer words_order hub (plain words) hub_laws (plain_laws words) (table_holding (table_of k.table)) (table_of k.table) (held (table_of k.table) f) k.call in
    let b = accepted_too (table_of k.table) f a ∙ sym a in
    (λ z. record { accepted = b z; number = get_or (s z).entry 3 0; count = get_or (s z).entry 4 0 }) ∙ e

all_too : (ks : List Case) → map given ks ≡ map stated ks → map given_at_hub ks ≡ map stated ks
all_too [] e = refl
all_too (k ∷ ks) e =
    let h : given k ≡ stated k = cc in
    let t : map given ks ≡ map stated ks = cc in
    let a = case_too k h in
    let b = all_too ks t in
    λ z. a z ∷ b z

pub cases_hold_at_hub : CasesHoldAtHub
cases_hold_at_hub = all_too cases cases_hold

-- ---- the rounds

round_too : {t : Plain words} {ls : List (Line (Plain words))} → Holds t ls → PlaysAtHub t ls
round_too {t} {ls} h =
    let f = and_left ((plain words).formed t) _ h.accepted in
    let r = answers_by_slots words_order hub (plain words) hub_laws (plain_laws words) (table_holding t) t (events ls) (held t f) in record {
      accepted = accepted_too t f h.accepted;
      entries = r.answers (List ℕ) (λ e a. a.entry ∷ []) ∙ h.entries;
      parts = r.answers ℕ (λ e a. a.part) ∙ h.parts;
      records = r.answers ℕ (λ e a. gained e a.entry) ∙ h.records;
    }

pub rounds_hold_at_hub : RoundsHoldAtHub
rounds_hold_at_hub = record { watering = round_too round_holds; second = round_too second_holds; probe = round_too probe_holds; previewed = round_too previewed_holds }
