-- Document 01, 'When a call is turned down', read by number: the condition of each refusal over all calls, in that list's
-- order and words. The cascades in Refusals say the same call by call. And what else goes by a number: the kinds of the calls
-- that move content and what may differ between two runs, the numbers that are listed at all, the need under 1 and 99, the bytes of a record.
-- Assumes nothing.
use Rattle.std.specs.Prelude.{◌≡◌, Bool, false, cond, not, ◌&&◌, ◌||◌, List, [], ◌∷◌, ◌++◌, ℕ, zero, suc, ltb, eqb, length, get_or, drop}
use Rattle.rules.specs.declared.Refusal.TheVariants.{NoProgram, OutOfRange, SlotFree, SlotTaken, TooLong, NoRoom, FlowForbidden, NotReleasable, OtherIsItem, NoRight, BreaksGroup, Formless}
use Rattle.std.proofs.Math.Option.{Option, none, some}
use Rattle.rules.specs.Labels.{Labels}
use Rattle.rules.specs.Table.{is_free, is_item, is_program, Rights, Slot, Tables, flow, keeps_all, at}
use Rattle.rules.specs.Calls.{Call, send, fetch, with_rights, fields_of, kind_of, caller_of, other_of, add_right, drop_right, right_at, moved, moves_content, is_show, lent, written}
use Rattle.rules.specs.Refusals.{Refusals, allow, ◌if◌else◌, first, number_of, refusals, verdict}
use Rattle.rules.specs.Record.{need_of, moved_by, answer}
use Rattle.rules.specs.Runs.{Hidden, hides, call, preview, struck, struck_of_programs}
use Rattle.rules.specs.Claims.{listed, audit_listed}

-- one of these kinds of call: 1 put, 2 show, 3 send, 4 fetch, 5 add, 6 drop, 7 create, 8 release, 9 hand
abbrev pub among : List ℕ → ℕ → Bool
among [] k = false
among (n ∷ ns) k = eqb k n || among ns k

-- a tag that is given is no tag of the hub's; or it is not in a label
abbrev pub tag_unknown : (A : Labels) → Option A.Tag → Bool
tag_unknown A none = false
tag_unknown A (some p) = A.outside p

abbrev pub tag_missing : (A : Labels) → Option A.Tag → A.Label → Bool
tag_missing A none l = false
tag_missing A (some p) l = not (A.has l p)

-- the set field has no meaning for this kind of call
abbrev pub set_unknown : ℕ → ℕ → Bool
set_unknown k n = (among (5 ∷ 6 ∷ []) k && ltb 1 n) || ((eqb k 7 && (ltb n 1 || ltb 2 n)) || (eqb k 9 && ltb 3 n))

module _ {A : Labels} where
  -- where a is the caller's slot and b the other's; a slot above 31 counts as free
  abbrev pub by_number : List A.Group → Slot A → Slot A → Call A → Refusals
  by_number gs a b c =
      let k = kind_of c in
      let n = (fields_of c).set in
      let p = (fields_of c).tag in
      NoProgram if is_free a.kind || is_item a.kind
      else OutOfRange if (among (3 ∷ 4 ∷ 7 ∷ 8 ∷ 9 ∷ []) k && ltb 31 (other_of c)) || (tag_unknown A p || set_unknown k n)
      else SlotFree if among (3 ∷ 4 ∷ 8 ∷ 9 ∷ []) k && is_free b.kind
      else SlotTaken if eqb k 7 && not (is_free b.kind)
      else TooLong if eqb k 1 && ltb 64 (length (moved a b c))
      else NoRoom if eqb k 2 && ltb (length (lent c)) (length a.content)
      else FlowForbidden if (eqb k 3 && not (flow a b)) || (eqb k 4 && not (flow b a))
      else NotReleasable if eqb k 8 && not (eqb (caller_of c) (other_of c) || (is_item b.kind && (A.same a.sec b.sec && A.same a.int b.int)))
      else OtherIsItem if eqb k 9 && is_item b.kind
      else NoRight if (eqb k 5 && tag_missing A p (add_right n a.rights))
      || ((eqb k 6 && tag_missing A p (drop_right n a.rights)) || (eqb k 9 && tag_missing A p (right_at n a.rights)))
      else BreaksGroup if eqb k 9 && not (keeps_all gs (written a b c))
      else allow

  module _ (T : Tables A) where
    -- 99 comes before all others
    abbrev pub all_by_number : T.Table → Call A → Refusals
    all_by_number t c = Formless if not (T.formed t) else by_number (T.groups t) (at T t (caller_of c)) (at T t (other_of c)) c

    -- The first of the list that applies is the verdict of every call
    abbrev pub ListByNumber : Type 0
    ListByNumber = (t : T.Table) (c : Call A) → first (all_by_number t c) ≡ verdict T t c

-- Changes of labels are explicit (003, 3.4.2): whether a send or a fetch is turned down, and by what, is the same whatever
-- rights the two have
pub record RightsUnasked (A : Labels) (gs : List A.Group) (a b : Slot A) (r s : Rights A) (i j : ℕ) : Type 0 where
  pub send : first (refusals gs (with_rights a r) (with_rights b s) (send i j)) ≡ first (refusals gs a b (send i j))
  pub fetch : first (refusals gs (with_rights a r) (with_rights b s) (fetch i j)) ≡ first (refusals gs a b (fetch i j))

abbrev pub FlowIgnoresRights : Labels → Type 0
FlowIgnoresRights A = (gs : List A.Group) (a b : Slot A) (r s : Rights A) (i j : ℕ) → RightsUnasked A gs a b r s i j

-- Kinds 1 to 4 move content, 2 shows
pub record ByKind {A : Labels} (c : Call A) : Type 0 where
  pub moves : moves_content c ≡ among (1 ∷ 2 ∷ 3 ∷ 4 ∷ []) (kind_of c)
  pub shows : is_show c ≡ eqb (kind_of c) 2

abbrev pub KindsMove : Labels → Type 0
KindsMove A = (c : Call A) → ByKind c

-- What may differ between two runs: of a hidden program calls of the kinds 1 to 4, of a hidden item all calls, and of both all
-- previews, whatever the kind. The last two say the same of programs alone
pub record StruckByKind {A : Labels} (T : Tables A) (H : Hidden A) (t : T.Table) (c : Call A) : Type 0 where
  pub calls : struck T H t (call c) ≡ (hides H (caller_of c) (at T t (caller_of c))
      && (is_item (at T t (caller_of c)).kind || (is_program (at T t (caller_of c)).kind && among (1 ∷ 2 ∷ 3 ∷ 4 ∷ []) (kind_of c))))
  pub previews : struck T H t (preview c) ≡ (hides H (caller_of c) (at T t (caller_of c))
      && (is_item (at T t (caller_of c)).kind || is_program (at T t (caller_of c)).kind))
  pub calls_of_programs : struck_of_programs T H t (call c) ≡ (hides H (caller_of c) (at T t (caller_of c))
      && (is_program (at T t (caller_of c)).kind && among (1 ∷ 2 ∷ 3 ∷ 4 ∷ []) (kind_of c)))
  pub previews_of_programs : struck_of_programs T H t (preview c) ≡ (hides H (caller_of c) (at T t (caller_of c))
      && is_program (at T t (caller_of c)).kind)

abbrev pub StruckByNumber : {A : Labels} → Tables A → Type 0
StruckByNumber {A} T = (H : Hidden A) (t : T.Table) (c : Call A) → StruckByKind T H t c

-- the numbers below k that pass a test
unfoldable pub passing : ℕ → (ℕ → Bool) → List ℕ
passing zero f = []
passing (suc k) f = passing k f ++ cond (f k) (k ∷ []) []

-- The numbers that a record's byte can hold and that are listed for calls, and for audits
pub record NumbersListed : Type 0 where
  pub calls : passing 256 listed ≡ 1 ∷ 2 ∷ 3 ∷ 4 ∷ 5 ∷ 6 ∷ 7 ∷ 8 ∷ 9 ∷ 10 ∷ 11 ∷ 99 ∷ []
  pub audits : passing 256 audit_listed ≡ 1 ∷ 12 ∷ 13 ∷ 99 ∷ []

-- A record's number is 99 exactly where the table lacks the form, and 1 exactly where it has the form and the caller is no program.
-- The need is empty under 99, and under 1 the S of a live item alone, or empty
pub record NeedUnder {A : Labels} (T : Tables A) (t : T.Table) (c : Call A) : Type 0 where
  pub is_99 : eqb (get_or (answer T t c).entry 3 0) 99 ≡ not (T.formed t)
  pub is_1 : eqb (get_or (answer T t c).entry 3 0) 1 ≡ (T.formed t && not (is_program (at T t (caller_of c)).kind))
  pub need_99 : get_or (answer T t c).entry 3 0 ≡ 99 → drop 8 (answer T t c).entry ≡ A.tail (fields_of c).tag A.empty
  pub need_1 : get_or (answer T t c).entry 3 0 ≡ 1
      → drop 8 (answer T t c).entry ≡ A.tail (fields_of c).tag (cond (is_item (at T t (caller_of c)).kind) (at T t (caller_of c)).sec A.empty)

abbrev pub NeedByNumber : {A : Labels} → Tables A → Type 0
NeedByNumber {A} T = (t : T.Table) (c : Call A) → NeedUnder T t c

-- A record by its bytes: 0 kind, 1 caller, 2 other, 3 the number returned, 4 bytes moved, 5 tag, 6 set field, 7 zero, from 8 on the
-- need
pub record Bytes {A : Labels} (T : Tables A) (t : T.Table) (c : Call A) : Type 0 where
  pub byte_0 : get_or (answer T t c).entry 0 0 ≡ kind_of c
  pub byte_1 : get_or (answer T t c).entry 1 0 ≡ caller_of c
  pub byte_2 : get_or (answer T t c).entry 2 0 ≡ other_of c
  pub byte_3 : get_or (answer T t c).entry 3 0 ≡ number_of (verdict T t c)
  pub byte_4 : get_or (answer T t c).entry 4 0 ≡ length (moved_by T t c)
  pub byte_5 : get_or (answer T t c).entry 5 0 ≡ A.byte5 (fields_of c).tag (need_of T t c)
  pub byte_6 : get_or (answer T t c).entry 6 0 ≡ (fields_of c).set
  pub byte_7 : get_or (answer T t c).entry 7 0 ≡ 0
  pub from_8 : drop 8 (answer T t c).entry ≡ A.tail (fields_of c).tag (need_of T t c)

abbrev pub RecordBytes : {A : Labels} → Tables A → Type 0
RecordBytes {A} T = (t : T.Table) (c : Call A) → Bytes T t c
