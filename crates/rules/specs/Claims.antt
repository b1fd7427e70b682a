-- What is claimed of the hub's rules, for the tables T. The proofs are under proofs/, for any labels and tables with the laws.
-- Assumes nothing.
use Rattle.std.specs.Prelude.{◌≡◌, Bool, true, false, not, ◌&&◌, ◌||◌, List, [], ◌∷◌, ℕ, ◌≤◌, ltb, leb, eqb, length, get_or, Err}
use Rattle.rules.specs.declared.Refusal.{Refusal}
use Rattle.rules.specs.declared.Refusal.TheVariants.{NoProgram}
use Rattle.rules.specs.Numbers.{number}
use Rattle.rules.specs.Labels.{Labels}
use Rattle.rules.specs.Table.{is_free, is_item, is_program, Tables, at, accepted}
use Rattle.rules.specs.Calls.{Call, kind_of, caller_of, other_of, lent}
use Rattle.rules.specs.Refusals.{verdict, step}
use Rattle.rules.specs.Record.{Answer, answer, visible, audit}
use Rattle.rules.specs.Runs.{Hidden, bears, final, trace, kept, never, Event, call, preview, calls_in, next, records, TablesAgree, hidden_at, struck, struck_of_programs, heard}

-- the numbers of a call's refusals, 1 to 11 and 99, and of an audit's
abbrev pub listed : ℕ → Bool
listed n = (ltb 0 n && leb n 11) || eqb n 99

abbrev pub audit_listed : ℕ → Bool
audit_listed n = eqb n 99 || (eqb n 1 || (eqb n 12 || eqb n 13))

module _ {A : Labels} (T : Tables A) where
  -- ---- Demand 1

  -- A refused call has a listed number, which stands in its record; the table and the lent buffer hold what they held, no
  -- bytes moved, and the part is empty
  pub record Unmoved (t : T.Table) (c : Call A) (n : ℕ) : Type 0 where
    pub number : listed n ≡ true
    pub table : step T t c ≡ t
    pub buffer : (answer T t c).buffer ≡ lent c
    pub part : (answer T t c).part ≡ []
    pub recorded : get_or (answer T t c).entry 3 0 ≡ n
    pub count : get_or (answer T t c).entry 4 0 ≡ 0

  abbrev pub RefusalsMoveNothing : Type 0
  RefusalsMoveNothing = (t : T.Table) (c : Call A) (r : Refusal) → verdict T t c ≡ Err r → Unmoved t c (number r)

  -- A refused audit has a listed number, leaves its buffer and hands back an empty part
  pub record AuditUnmoved (t : T.Table) (i : ℕ) (list buf : List ℕ) (n : ℕ) : Type 0 where
    pub number : audit_listed n ≡ true
    pub buffer : (audit T t i list buf).buffer ≡ buf
    pub part : (audit T t i list buf).part ≡ []

  abbrev pub RefusedAuditsMoveNothing : Type 0
  RefusedAuditsMoveNothing = (t : T.Table) (i : ℕ) (list buf : List ℕ) (r : Refusal) → (audit T t i list buf).outcome ≡ Err r → AuditUnmoved t i list buf (number r)

  -- The part that show or an audit hands back fits the lent buffer, which keeps its length
  pub record PartsFit : Type 0 where
    pub call_part : (t : T.Table) (c : Call A) → length (answer T t c).part ≤ length (lent c)
    pub call_buffer : (t : T.Table) (c : Call A) → length (answer T t c).buffer ≡ length (lent c)
    pub audit_part : (t : T.Table) (i : ℕ) (list buf : List ℕ) → length (audit T t i list buf).part ≤ length buf
    pub audit_buffer : (t : T.Table) (i : ℕ) (list buf : List ℕ) → length (audit T t i list buf).buffer ≡ length buf

  -- ---- Demand 2

  -- No sequence of calls and previews takes an accepted table to one that is not: the form is kept, and no entity breaks a group,
  -- the groups being those of the start
  pub record Kept (t u : T.Table) : Type 0 where
    pub accepted : accepted T u ≡ true
    pub groups : T.groups u ≡ T.groups t

  abbrev pub StaysAccepted : Type 0
  StaysAccepted = (t : T.Table) (es : List (Event A)) → accepted T t ≡ true → Kept t (final (next T) t es)

  -- A record shows to exactly those whose S takes in the S of its caller, before and after the call, and of its other
  -- (003, section 6.4); one whose caller is an item, to those whose S takes in the item's; one of a table that lacks the form, or
  -- whose caller's slot is free or too high, to everybody
  abbrev pub RecordsShow : Type 0
  RecordsShow = (t : T.Table) (c : Call A) (l : A.Label) → visible A l (answer T t c).entry
      ≡ (not (T.formed t && not (is_free (at T t (caller_of c)).kind))
      || (A.below (at T t (caller_of c)).sec l
      && (is_item (at T t (caller_of c)).kind
      || (A.below (at T (step T t c) (caller_of c)).sec l && A.below (at T t (other_of c)).sec l))))

  -- ---- Previews (document 02, change 3)

  -- the answers to calls
  abbrev pub call_answers : T.Table → Event A → List Answer
  call_answers t (call c) = answer T t c ∷ []
  call_answers t (preview c) = []

  -- A run with its previews left out, which is one of calls alone, ends in the same table, answers its calls alike and gives the
  -- same records
  pub record LeftOut (t : T.Table) (es : List (Event A)) : Type 0 where
    pub table : final (next T) t es ≡ final (step T) t (calls_in es)
    pub answers : trace (next T) call_answers t es ≡ trace (step T) (λ u c. answer T u c ∷ []) t (calls_in es)
    pub records : records T t es ≡ trace (step T) (λ u c. (answer T u c).entry) t (calls_in es)

  abbrev pub PreviewsLeaveNothing : Type 0
  PreviewsLeaveNothing = (t : T.Table) (es : List (Event A)) → LeftOut t es

  -- ---- Demand 3

  -- What two runs have in common for those from whom something is hidden: the tables at the end differ only in hidden
  -- contents, and the answers to callers who are not hidden are the same, in order
  pub record RunsAlike (H : Hidden A) (t u : T.Table) (es fs : List (Event A)) : Type 0 where
    pub tables : TablesAgree T H (final (next T) t es) (final (next T) u fs)
    pub answers : trace (next T) (heard T H) t es ≡ trace (next T) (heard T H) u fs

  -- Caller i's audit, with each run's end table and its own full list of records: the number and the part are the same
  pub record AuditsAlike (t u : T.Table) (es fs : List (Event A)) (i : ℕ) (buf buf' : List ℕ) : Type 0 where
    pub outcome : (audit T (final (next T) t es) i (records T t es) buf).outcome ≡ (audit T (final (next T) u fs) i (records T u fs) buf').outcome
    pub part : (audit T (final (next T) t es) i (records T t es) buf).part ≡ (audit T (final (next T) u fs) i (records T u fs) buf').part

  -- A secrecy tag p that no program of the starting table has the right to drop. Two accepted tables that differ only in the contents
  -- of entities bearing it, and two lists of calls and previews, the same once those that may differ are struck out of each
  pub record SecretRuns (differs : T.Table → Event A → Bool) (p : A.Tag) (t u : T.Table) (es fs : List (Event A)) : Type 0 where
    pub left : accepted T t ≡ true
    pub right : accepted T u ≡ true
    pub undroppable : (i : ℕ) → is_program (at T t i).kind ≡ true → A.has (at T t i).rights.sd p ≡ false
    pub tables : TablesAgree T (bears A p) t u
    pub events : kept (next T) differs t es ≡ kept (next T) differs u fs

  -- Nobody without the tag learns anything: not from the tables and answers, and not from an audit, into buffers of one
  -- length, by a caller who is without it in the end tables (their labels are the same)
  pub record Undisclosed (p : A.Tag) (t u : T.Table) (es fs : List (Event A)) : Type 0 where
    pub runs : RunsAlike (bears A p) t u es fs
    pub audits : (i : ℕ) → hidden_at T (bears A p) (final (next T) t es) i ≡ false
        → (buf buf' : List ℕ) → length buf ≡ length buf' → AuditsAlike t u es fs i buf buf'

  -- Every put, show, send and fetch by a program bearing the tag may differ, every call that names an item bearing it as its
  -- caller, and every preview by either
  abbrev pub Secrecy : A.Tag → Type 0
  Secrecy p = (t u : T.Table) (es fs : List (Event A)) → SecretRuns (struck T (bears A p)) p t u es fs → Undisclosed p t u es fs

  -- Such a call by an item fails: in a table in form, every call whose caller is an item is refused by 1
  abbrev pub ItemsRefused : Type 0
  ItemsRefused = (t : T.Table) (c : Call A) → T.formed t ≡ true → is_item (at T t (caller_of c)).kind ≡ true → verdict T t c ≡ Err NoProgram

  -- Where the calls and previews of programs alone may differ: for calls this is demand 3 to the letter. It follows from Secrecy: lists
  -- that agree once these are struck out agree too once those of items are, since at each event that both lists keep, the two tables
  -- have the same items with the same labels
  abbrev pub SecrecyOfPrograms : A.Tag → Type 0
  SecrecyOfPrograms p = (t u : T.Table) (es fs : List (Event A)) → SecretRuns (struck_of_programs T (bears A p)) p t u es fs → Undisclosed p t u es fs

  -- Whoever lacks the tag is answered, in a preview as in the call, and may be the auditor
  pub record OthersHeard (p : A.Tag) (t : T.Table) : Type 0 where
    pub answered : (c : Call A) → A.has (at T t (caller_of c)).sec p ≡ false → heard T (bears A p) t (call c) ≡ answer T t c ∷ []
    pub previewed : (c : Call A) → A.has (at T t (caller_of c)).sec p ≡ false → heard T (bears A p) t (preview c) ≡ answer T t c ∷ []
    pub auditor : (i : ℕ) → A.has (at T t i).sec p ≡ false → hidden_at T (bears A p) t i ≡ false

  abbrev pub OthersAreHeard : A.Tag → Type 0
  OthersAreHeard p = (t : T.Table) → OthersHeard p t

  -- ---- Demand 3 whatever rights there are

  -- an allowed drop of the tag from S, in the table that the call gets: a call of kind 6 that takes it from its caller. A preview
  -- takes nothing
  abbrev pub drops_tag : A.Tag → T.Table → Event A → Bool
  drops_tag p t (call c) = eqb (kind_of c) 6 && (A.has (at T t (caller_of c)).sec p && not (A.has (at T (step T t c) (caller_of c)).sec p))
  drops_tag p t (preview c) = false

  -- As in SecretRuns, but programs may have and hand on the right to drop the tag: only, no allowed drop of it from S is in either
  -- run
  pub record UndroppedRuns (differs : T.Table → Event A → Bool) (p : A.Tag) (t u : T.Table) (es fs : List (Event A)) : Type 0 where
    pub left : accepted T t ≡ true
    pub right : accepted T u ≡ true
    pub undropped_left : never (next T) (drops_tag p) t es ≡ true
    pub undropped_right : never (next T) (drops_tag p) u fs ≡ true
    pub tables : TablesAgree T (bears A p) t u
    pub events : kept (next T) differs t es ≡ kept (next T) differs u fs

  -- Changes of labels are explicit (003, 3.4.2): a right that is not used discloses nothing. Secrecy follows from it
  abbrev pub SecrecyUndropped : A.Tag → Type 0
  SecrecyUndropped p = (t u : T.Table) (es fs : List (Event A)) → UndroppedRuns (struck T (bears A p)) p t u es fs → Undisclosed p t u es fs
