-- An audit by number and by place, and the audit of a run's own records.
-- Assumes nothing.
use mathlib.Core.Path.{◌≡◌, refl, ap, sym, ◌∙◌}
use mathlib.Core.Bool.{Bool, true, false, cond, not, ◌&&◌, ◌||◌}
use mathlib.Core.List.{List, [], ◌++◌}
use Prim.Native.Nat.{ℕ, zero, suc, ◌*◌, ◌/◌, ◌%◌}
use native.Mathlib.Nat.{zero-mul, suc-mul, add_comm, div-add-mod'}
use native.Mathlib.Omega.{arith}
use lib.Dec.{ltb, eqb}
use lib.ListN.{length, take, drop}
use lib.Seq.{take-append_seam, drop-drop}
use borrow.Author.Tests.{eqb-true, eq-eqb}
use Rattle.rules.specs.declared.Kind.{Kind}
use Rattle.rules.specs.declared.Kind.TheVariants.{Free, Item, Program}
use Rattle.rules.specs.Labels.{Labels}
use Rattle.rules.specs.Table.{is_free, is_item, is_program, Tables, at}
use Rattle.rules.specs.Calls.{Call, caller_of, other_of}
use Rattle.rules.specs.Refusals.{allow, ◌if◌else◌, first, step}
use Rattle.rules.specs.Record.{answer, visible, records_in, shown_of, audit}
use Rattle.rules.specs.Runs.{final, trace, Event, call, preview, next, records}
use Rattle.rules.specs.Laws.{OrderLaws}
use Rattle.rules.specs.Audits.{joined, size, nth_record, shown_to, AuditByNumber, is_for, record_for, records_for, RunsAudited}
use Rattle.rules.proofs.Facts.{iff}
use Rattle.rules.proofs.ByNumber.{no_program, is_99, is_1}
use Rattle.rules.proofs.Refused.{filled-rest}
use Rattle.rules.proofs.Shows.{records_show}
use Rattle.rules.proofs.Records.{shows_to, records_whole, records_shown}
use Rattle.rules.specs.declared.Refusal.TheVariants.{NoProgram, ListNotWhole, NoRoomForRecords, Formless}

-- a multiple: what the quotient gives back, or what leaves no rest
multiple : (n m : ℕ) → eqb (n / m * m) n ≡ eqb (n % m) 0
multiple n m = iff (eqb (n / m * m) n) (eqb (n % m) 0)
    (λ e. let q = eqb-true (n / m * m) n e in let r = div-add-mod' n m in eq-eqb (n % m) 0 (omega arith))
    (λ e. let q = eqb-true (n % m) 0 e in let r = div-add-mod' n m in eq-eqb (n / m * m) n (omega arith))

module _ (A : Labels) (l : A.Label) where
  -- what the record at place k adds
  abbrev adds : List ℕ → ℕ → List ℕ
  adds list k = cond (visible A l (nth_record A list k)) (nth_record A list k) []

  -- the records from the second on are those of the rest
  later : (list : List ℕ) (k : ℕ) → adds list (suc k) ≡ adds (drop (size A) list) k
  later list k = ap (λ (r : List ℕ). cond (visible A l r) r []) (ap (take (size A))
      (ap (λ (n : ℕ). drop n list) (suc-mul k (size A) ∙ add_comm (k * size A) (size A)) ∙ sym (drop-drop (k * size A) (size A) list)))

  places : (n : ℕ) (list : List ℕ) → joined n (adds list) ≡ shown_of A l (records_in A n list)
  unfolding joined records_in shown_of
  places zero list = refl
  places (suc n) list = (λ z. first-at z ++ joined n (λ k. later list k z)) ∙ go (visible A l (take (size A) list)) (places n (drop (size A) list))
    where
      first-at : adds list 0 ≡ cond (visible A l (take (size A) list)) (take (size A) list) []
      first-at = ap (λ (n : ℕ). cond (visible A l (take (size A) (drop n list))) (take (size A) (drop n list)) []) (zero-mul (size A))

      rest : List ℕ
      rest = shown_of A l (records_in A n (drop (size A) list))

      go : (b : Bool) → joined n (adds (drop (size A) list)) ≡ rest
          → cond b (take (size A) list) [] ++ joined n (adds (drop (size A) list)) ≡ cond b (take (size A) list ++ rest) rest
      go true e = ap (λ (x : List ℕ). take (size A) list ++ x) e
      go false e = e

module _ {A : Labels} (T : Tables A) where
  shown_places : (l : A.Label) (list : List ℕ) → shown_to A l list ≡ shown_of A l (records_in A (length list / size A) list)
  shown_places l list = places A l (length list / size A) list

  pub audit-by-number : AuditByNumber T
  audit-by-number t i list buf = record {
    outcome = let k = no_program (at T t i).kind in let m = multiple (length list) (size A) in let s = shown_places (at T t i).sec list in
        sym (λ z. first (Formless if not (T.formed t) else NoProgram if k z else ListNotWhole if not (m z) else NoRoomForRecords if ltb (length buf) (length (s z)) else allow));
    part = λ e. rw e (sym (shown_places (at T t i).sec list));
    front = take-append_seam (audit T t i list buf).part (drop (length (audit T t i list buf).part) buf);
    rest = filled-rest (audit T t i list buf).part buf;
  }

module _ {A : Labels} (O : OrderLaws A) (T : Tables A) where
  -- a call's record shows to those whom it is for
  is-for : (l : A.Label) (t : T.Table) (c : Call A) → visible A l (answer T t c).entry ≡ is_for T l t c
  is-for l t c = records_show O T t c l ∙ go (T.formed t) (at T t (caller_of c)).kind
      ∙ (let e = is_99 T t c in let q = is_1 T t c in sym (λ z. (e z || (q z && is_free (at T t (caller_of c)).kind)) || (own && (q z || rest))))
    where
      own : Bool
      own = A.below (at T t (caller_of c)).sec l

      rest : Bool
      rest = A.below (at T (step T t c) (caller_of c)).sec l && A.below (at T t (other_of c)).sec l

      go : (f : Bool) (k : Kind) → not (f && not (is_free k)) || (own && (is_item k || rest))
          ≡ ((not f || ((f && not (is_program k)) && is_free k)) || (own && ((f && not (is_program k)) || rest)))
      go false k = refl
      go true Free = refl
      go true Item = refl
      go true Program = refl

  adds-for : (l : A.Label) (t : T.Table) (e : Event A) → shows_to T l t e ≡ record_for T l t e
  adds-for l t (call c) = let q = is-for l t c in λ z. cond (q z) (answer T t c).entry []
  adds-for l t (preview c) = refl

  shown_run : (l : A.Label) (t : T.Table) (es : List (Event A)) → shown_of A l (records_in A (length (records T t es) / size A) (records T t es)) ≡ records_for T l t es
  shown_run l t es = records_shown O T l t es ∙ (λ z. trace (next T) (λ u e. adds-for l u e z) t es)

  pub runs_audited : RunsAudited T
  runs_audited t es i buf = record {
    outcome = let k = no_program (at T u i).kind in
        (λ z. first (Formless if not (T.formed u) else NoProgram if not (is_program (at T u i).kind) else ListNotWhole if not (eqb (whole z) 0) else NoRoomForRecords if ltb (length buf) (length (shown z)) else allow))
        ∙ sym (λ z. first (Formless if not (T.formed u) else NoProgram if k z else NoRoomForRecords if ltb (length buf) (length (records_for T (at T u i).sec t es)) else allow));
    part = λ e. rw e shown;
  }
    where
      u : T.Table
      u = final (next T) t es

      whole : length (records T t es) % size A ≡ 0
      whole = records_whole O T t es

      shown : shown_of A (at T u i).sec (records_in A (length (records T t es) / size A) (records T t es)) ≡ records_for T (at T u i).sec t es
      shown = shown_run (at T u i).sec t es
