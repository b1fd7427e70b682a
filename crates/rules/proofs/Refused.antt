-- A refusal has a listed number, and moves nothing; a part fits its buffer.
-- Assumes nothing.
use mathlib.Core.Path.{◌≡◌, refl, ◌∙◌}
use mathlib.Core.Bool.{Bool, true, false, cond}
use mathlib.Core.List.{List, []}
use Prim.Native.Nat.{ℕ, ◌-◌, ◌%◌, ◌≤◌}
use native.Mathlib.Nat.{add-sub_of_le}
use native.Mathlib.Omega.{arith}
use lib.Dec.{eqb}
use lib.ListN.{length, get_or, drop, length-append, length-drop}
use lib.Seq.{get_or-append-add, get_or-drop}
use borrow.Author.Tests.{ltb-false}
use Rattle.rules.specs.Numbers.{Outcome}
use Rattle.std.specs.Prelude.{Ok, Err}
use Rattle.rules.specs.Labels.{Labels}
use Rattle.rules.specs.Table.{is_program, Slot, Tables, at}
use Rattle.rules.specs.Calls.{Call, put, show, send, fetch, add_tag, drop_tag, create, release, hand, caller_of, other_of, moved, is_show, lent}
use Rattle.rules.specs.Refusals.{first, on_allowed, refusals, all_refusals, verdict}
use Rattle.rules.specs.Record.{filled, answer, record_size, auditable, audit_refusals, audit}
use Rattle.rules.specs.Claims.{listed, audit_listed, RefusalsMoveNothing, RefusedAuditsMoveNothing, PartsFit}
use Rattle.rules.proofs.Facts.{all_numbers, number_of_first, passed}
use Rattle.rules.proofs.Steps.{pass}

empty_either : (b : Bool) → cond {A = List ℕ} b [] [] ≡ []
empty_either true = refl
empty_either false = refl

-- a filled buffer keeps its length
pub filled-length : (part buf : List ℕ) → length part ≤ length buf → length (filled part buf) ≡ length buf
filled-length part buf h = simp (length-append, length-drop) (omega arith)

-- and keeps what stands behind its front
pub filled-rest : (part buf : List ℕ) (k : ℕ) → length part ≤ k → get_or (filled part buf) k 0 ≡ get_or buf k 0
filled-rest part buf k h = rw (← add-sub_of_le h)
    (get_or-append-add part (drop (length part) buf) (k - length part) 0 ∙ get_or-drop (length part) buf (k - length part) 0)

module _ {A : Labels} (T : Tables A) where
  all_listed : (gs : List A.Group) (a b : Slot A) (c : Call A) → all_numbers listed (refusals gs a b c) ≡ true
  all_listed gs a b (put i bs) = refl
  all_listed gs a b (show i buf) = refl
  all_listed gs a b (send i j) = refl
  all_listed gs a b (fetch i j) = refl
  all_listed gs a b (add_tag i n p) = refl
  all_listed gs a b (drop_tag i n p) = refl
  all_listed gs a b (create i j n) = refl
  all_listed gs a b (release i j) = refl
  all_listed gs a b (hand i j n p) = refl

  pub refusals_move_nothing : RefusalsMoveNothing T
  refusals_move_nothing t c n e = record {
    number = number_of_first listed (all_refusals T t c) n e (all_listed (T.groups t) (at T t (caller_of c)) (at T t (other_of c)) c);
    table = rw e;
    buffer = rw (e, empty_either (is_show c));
    part = rw (e, empty_either (is_show c));
    recorded = rw e;
    count = rw e;
  }

  pub refused_audits_move_nothing : RefusedAuditsMoveNothing T
  refused_audits_move_nothing t i list buf n e = record {
    number = number_of_first audit_listed (audit_refusals (T.formed t) (is_program (at T t i).kind) (eqb (length list % record_size A) 0) (length buf) (length (auditable T t i list))) n e refl;
    buffer = rw e;
    part = rw e;
  }

  -- ---- parts

  -- an allowed show fits: 6 does not apply
  moved-fits : (t : T.Table) (c : Call A) (v : Outcome) → verdict T t c ≡ v
      → length (cond (is_show c) (on_allowed v (moved (at T t (caller_of c)) (at T t (other_of c)) c) []) []) ≤ length (lent c)
  moved-fits t c (Err n) e = rw (empty_either (is_show c)) (omega arith)
  moved-fits t (put i bs) (Ok _) e = omega arith
  moved-fits t (show i buf) (Ok _) e = ltb-false (length buf) (length (at T t i).content) ((pass T t (show i buf) e).off 6)
  moved-fits t (send i j) (Ok _) e = omega arith
  moved-fits t (fetch i j) (Ok _) e = omega arith
  moved-fits t (add_tag i n p) (Ok _) e = omega arith
  moved-fits t (drop_tag i n p) (Ok _) e = omega arith
  moved-fits t (create i j n) (Ok _) e = omega arith
  moved-fits t (release i j) (Ok _) e = omega arith
  moved-fits t (hand i j n p) (Ok _) e = omega arith

  audit-fits : (f k w : Bool) (room : ℕ) (shown : List ℕ) (v : Outcome) → first (audit_refusals f k w room (length shown)) ≡ v → length (on_allowed v shown []) ≤ room
  audit-fits f k w room shown (Err n) e = omega arith
  audit-fits f k w room shown (Ok _) e = ltb-false room (length shown)
      (passed (audit_refusals f k w room (length shown)) e 13)

  pub parts_fit : PartsFit T
  parts_fit = record {
    call_part = call;
    call_buffer = λ t c. filled-length (answer T t c).part (lent c) (call t c);
    audit_part = shown;
    audit_buffer = λ t i list buf. filled-length (audit T t i list buf).part buf (shown t i list buf);
  }
    where
      call : (t : T.Table) (c : Call A) → length (answer T t c).part ≤ length (lent c)
      call t c = moved-fits t c (verdict T t c) refl

      shown : (t : T.Table) (i : ℕ) (list buf : List ℕ) → length (audit T t i list buf).part ≤ length buf
      shown t i list buf = audit-fits (T.formed t) (is_program (at T t i).kind) (eqb (length list % record_size A) 0) (length buf) (auditable T t i list) _ refl
