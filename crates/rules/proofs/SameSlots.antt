-- Tables that hold the same answer the same.
-- Assumes nothing.
use mathlib.Core.Path.{◌≡◌, refl, sym, ap, ◌∙◌}
use mathlib.Core.Bool.{Bool, cond, not}
use mathlib.Core.List.{List, [], ◌∷◌, ◌++◌}
use Prim.Native.Nat.{ℕ}
use lib.Dec.{eqb}
use lib.ListN.{length}
use Rattle.rules.specs.Numbers.{Outcome}
use Rattle.std.specs.Prelude.{Ok, Err}
use Rattle.rules.specs.Labels.{Labels}
use Rattle.rules.specs.Table.{Slot, Tables, at}
use Rattle.rules.specs.Calls.{Call, fields_of, caller_of, other_of, target, written, moved, is_show, lent}
use Rattle.rules.specs.Refusals.{◌if◌else◌, first, number_of, on_allowed, refusals, verdict, step}
use Rattle.rules.specs.Record.{Answer, filled, record_of, need_by, answer}
use Rattle.rules.specs.Runs.{Event, call, preview, call_of, next}
use Rattle.rules.specs.Laws.{OrderLaws, TableLaws}
use Rattle.rules.specs.SameSlots.{HoldSame, AnswersBySlots}
use Rattle.rules.proofs.Steps.{pass, writes, stored_at, step_formed, step_groups}
use Rattle.rules.specs.declared.Refusal.TheVariants.{Formless}

-- an answer, by what it depends on: the form, the groups, both slots, and the caller's S after the call
answer_by : {A : Labels} → Bool → List A.Group → Slot A → Slot A → A.Label → Call A → Answer
answer_by {A} f gs a b s c = record {
  outcome = v;
  entry = record_of (fields_of c) (number_of v) (length bytes) (cond f (need_by A a.kind a.sec s b.sec) A.empty);
  part = cond (is_show c) bytes [];
  buffer = filled (cond (is_show c) bytes []) (lent c);
}
  where
    v : Outcome
    v = first (Formless if not f else refusals gs a b c)

    bytes : List ℕ
    bytes = on_allowed v (moved a b c) []

module _ {A : Labels} (O : OrderLaws A) (T U : Tables A) (L : TableLaws T) (M : TableLaws U) where
  module _ (t : T.Table) (u : U.Table) (h : HoldSame T U t u) (c : Call A) where
    same-verdict : verdict T t c ≡ verdict U u c
    same-verdict =
        let f = h.left ∙ sym h.right in
        let a = h.slots (caller_of c) in
        let b = h.slots (other_of c) in
        let g = h.groups in
        λ z. first (Formless if not (f z) else refusals (g z) (a z) (b z) c)

    same-slot : (i : ℕ) → at T (step T t c) i ≡ at U (step U u c) i
    same-slot i = go (verdict T t c) refl (sym same-verdict) ∙ ap (λ (v : Outcome). at U (on_allowed v (U.store u (target c) (writes U u c)) u) i) same-verdict
      where
        go : (v : Outcome) → verdict T t c ≡ v → verdict U u c ≡ v
            → at T (on_allowed v (T.store t (target c) (writes T t c)) t) i ≡ at U (on_allowed v (U.store u (target c) (writes U u c)) u) i
        go (Err n) e k = h.slots i
        go (Ok _) e k =
            let a = h.slots (caller_of c) in
            let b = h.slots (other_of c) in
            let s = h.slots i in
            stored_at T O L t c (pass T t c e) i ∙ (λ z. cond (eqb i (target c)) (written (a z) (b z) c) (s z)) ∙ sym (stored_at U O M u c (pass U u c k) i)

    after_call : HoldSame T U (step T t c) (step U u c)
    after_call = record {
      left = step_formed T O L t c h.left;
      right = step_formed U O M u c h.right;
      slots = same-slot;
      groups = step_groups T O L t c ∙ h.groups ∙ sym (step_groups U O M u c);
    }

    pub same_answer : answer T t c ≡ answer U u c
    unfolding answer_by
    same_answer =
        let f = h.left ∙ sym h.right in
        let a = h.slots (caller_of c) in
        let b = h.slots (other_of c) in
        let g = h.groups in
        let s = ap (λ (x : Slot A). x.sec) (same-slot (caller_of c)) in
        λ z. answer_by (f z) (g z) (a z) (b z) (s z) c

  same_next : (t : T.Table) (u : U.Table) (e : Event A) → HoldSame T U t u → HoldSame T U (next T t e) (next U u e)
  same_next t u (call c) h = after_call t u h c
  same_next t u (preview c) h = h

  pub answers_by_slots : AnswersBySlots T U
  answers_by_slots t u [] h = record { answers = λ X f. refl; tables = h }
  answers_by_slots t u (e ∷ es) h =
      let r = answers_by_slots (next T t e) (next U u e) es (same_next t u e h) in record {
        answers = λ X f. let a = same_answer t u h (call_of e) in let rest = r.answers X f in λ z. f e (a z) ++ rest z;
        tables = r.tables;
      }
