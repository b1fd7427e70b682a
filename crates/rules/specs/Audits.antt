-- Document 01, 'The record', on audits, read a second time: an audit's refusals by number and the records that it shows by their
-- places in the list; and what an audit of a run's own records shows, by the calls of that run.
-- Assumes nothing.
use Rattle.std.specs.Prelude.{◌≡◌, Bool, cond, not, ◌&&◌, ◌||◌, List, [], ◌++◌, ℕ, zero, suc, ◌+◌, ◌*◌, ◌/◌, ◌≤◌, ltb, eqb, length, get_or, take, drop, Ok}
use Rattle.rules.specs.declared.Refusal.TheVariants.{NoProgram, ListNotWhole, NoRoomForRecords, Formless}
use Rattle.rules.specs.Labels.{Labels}
use Rattle.rules.specs.Table.{is_free, is_item, Tables, at}
use Rattle.rules.specs.Calls.{Call, caller_of, other_of}
use Rattle.rules.specs.Refusals.{Refusals, allow, ◌if◌else◌, first, number_of, verdict, step}
use Rattle.rules.specs.Record.{answer, visible, audit}
use Rattle.rules.specs.Runs.{final, trace, Event, call, preview, next, records}

-- f 0, f 1 and so on, n of them, joined
unfoldable pub joined : ℕ → (ℕ → List ℕ) → List ℕ
joined zero f = []
joined (suc n) f = f 0 ++ joined n (λ k. f (suc k))

module _ (A : Labels) where
  -- a record's size, 16 where the need has 8 bytes
  abbrev pub size : ℕ
  size = 8 + A.width

  -- the record at place k of a list
  abbrev pub nth_record : List ℕ → ℕ → List ℕ
  nth_record list k = take size (drop (k * size) list)

  -- the records of the list whose need is within l, in order
  abbrev pub shown_to : A.Label → List ℕ → List ℕ
  shown_to l list = joined (length list / size) (λ k. cond (visible A l (nth_record list k)) (nth_record list k) [])

module _ {A : Labels} (T : Tables A) where
  -- An audit checks 99, 1, 12, 13
  abbrev pub audit_by_number : T.Table → ℕ → List ℕ → List ℕ → Refusals
  audit_by_number t i list buf =
      Formless if not (T.formed t)
      else NoProgram if is_free (at T t i).kind || is_item (at T t i).kind
      else ListNotWhole if not (eqb (length list / size A * size A) (length list))
      else NoRoomForRecords if ltb (length buf) (length (shown_to A (at T t i).sec list))
      else allow

  -- The first of them that applies is the outcome of every audit. An allowed one shows the records within its caller's S, at the
  -- buffer's front, and leaves the rest
  pub record AuditShows (t : T.Table) (i : ℕ) (list buf : List ℕ) : Type 0 where
    pub outcome : (audit T t i list buf).outcome ≡ first (audit_by_number t i list buf)
    pub part : (audit T t i list buf).outcome ≡ Ok tt → (audit T t i list buf).part ≡ shown_to A (at T t i).sec list
    pub front : take (length (audit T t i list buf).part) (audit T t i list buf).buffer ≡ (audit T t i list buf).part
    pub rest : (k : ℕ) → length (audit T t i list buf).part ≤ k → get_or (audit T t i list buf).buffer k 0 ≡ get_or buf k 0

  abbrev pub AuditByNumber : Type 0
  AuditByNumber = (t : T.Table) (i : ℕ) (list buf : List ℕ) → AuditShows t i list buf

  -- ---- the audit of a run's own records

  -- The record of a call is for one whose S is l, by the number returned: 99 is everybody's, and so is 1 where the caller's slot is
  -- free or too high; else its caller's S lies within l and, but for 1, its caller's S after it and its other's S do
  abbrev pub is_for : A.Label → T.Table → Call A → Bool
  is_for l t c =
      let n = number_of (verdict T t c) in
      let a = at T t (caller_of c) in
      (eqb n 99 || (eqb n 1 && is_free a.kind))
      || (A.below a.sec l && (eqb n 1 || (A.below (at T (step T t c) (caller_of c)).sec l && A.below (at T t (other_of c)).sec l)))

  -- the records of a run that are for l, in the order of its calls, joined; a preview has none
  abbrev pub record_for : A.Label → T.Table → Event A → List ℕ
  record_for l t (call c) = cond (is_for l t c) (answer T t c).entry []
  record_for l t (preview c) = []

  abbrev pub records_for : A.Label → T.Table → List (Event A) → List ℕ
  records_for l = trace (next T) (record_for l)

  -- Caller i audits all records of a run with its end table u. He gets the records that are for his S there; he is refused by 99
  -- or 1, or by 13 where exactly these need more bytes than the buffer has
  pub record RunShows (t : T.Table) (es : List (Event A)) (u : T.Table) (i : ℕ) (buf : List ℕ) : Type 0 where
    pub outcome : (audit T u i (records T t es) buf).outcome ≡ first (
        Formless if not (T.formed u)
        else NoProgram if is_free (at T u i).kind || is_item (at T u i).kind
        else NoRoomForRecords if ltb (length buf) (length (records_for (at T u i).sec t es))
        else allow)
    pub part : (audit T u i (records T t es) buf).outcome ≡ Ok tt → (audit T u i (records T t es) buf).part ≡ records_for (at T u i).sec t es

  abbrev pub RunsAudited : Type 0
  RunsAudited = (t : T.Table) (es : List (Event A)) (i : ℕ) (buf : List ℕ) → RunShows t es (final (next T) t es) i buf
