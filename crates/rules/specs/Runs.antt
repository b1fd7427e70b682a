-- Document 01, 'Two runs': runs of calls and previews, what is hidden, what may differ, and what callers hear.
-- Assumes nothing.
use Rattle.std.specs.Prelude.{◌≡◌, Bool, true, false, cond, not, ◌&&◌, List, [], ◌∷◌, ◌++◌, map, ℕ}
use Rattle.rules.specs.declared.Kind.{Kind}
use Rattle.rules.specs.declared.Kind.TheVariants.{Free, Item, Program}
use Rattle.rules.specs.Labels.{Labels}
use Rattle.rules.specs.Table.{is_free, is_program, Slot, Tables, at}
use Rattle.rules.specs.Calls.{Call, caller_of, moves_content}
use Rattle.rules.specs.Refusals.{step}
use Rattle.rules.specs.Record.{Answer, answer}

-- ---- runs of any system: `after s e` is the state that event e hands back

module _ {S E : Type 0} (after : S → E → S) where
  -- the state at the end: each event gets the state that the one before it handed back
  abbrev pub final : S → List E → S
  final s [] = s
  final s (e ∷ es) = final (after s e) es

  -- what a run gives, in order
  abbrev pub trace : {X : Type 0} → (S → E → List X) → S → List E → List X
  trace out s [] = []
  trace out s (e ∷ es) = out s e ++ trace out (after s e) es

  -- the events of a run, without those that are struck out
  abbrev pub kept : (S → E → Bool) → S → List E → List E
  kept struck s [] = []
  kept struck s (e ∷ es) = cond (struck s e) (kept struck (after s e) es) (e ∷ kept struck (after s e) es)

  -- no event of a run passes a test, in the state that it gets
  abbrev pub never : (S → E → Bool) → S → List E → Bool
  never f s [] = true
  never f s (e ∷ es) = not (f s e) && never f (after s e) es

-- ---- the hub's runs: calls, and previews of calls (document 02, change 3)

module _ (A : Labels) where
  pub data Event : Type 0 where
    call : Call A → Event
    preview : Call A → Event

module _ {A : Labels} where
  -- the call that is made, or asked about; and who makes or asks about it
  abbrev pub call_of : Event A → Call A
  call_of (call c) = c
  call_of (preview c) = c

  abbrev pub made_by : Event A → ℕ
  made_by e = caller_of (call_of e)

  -- the calls of a run, its previews left out; and the run of a list of calls
  abbrev pub calls_in : List (Event A) → List (Call A)
  calls_in [] = []
  calls_in (call c ∷ es) = c ∷ calls_in es
  calls_in (preview c ∷ es) = calls_in es

  abbrev pub run_of : List (Call A) → List (Event A)
  run_of = map call

  -- what the list of records gains of the record that is answered: by a preview nothing
  abbrev pub gained : Event A → List ℕ → List ℕ
  gained (call c) entry = entry
  gained (preview c) entry = []

module _ {A : Labels} (T : Tables A) where
  -- the next table: a preview changes none
  abbrev pub next : T.Table → Event A → T.Table
  next t (call c) = step T t c
  next t (preview c) = t

  -- the answer: a preview has that of the call, as on a copy of the table
  abbrev pub answer_to : T.Table → Event A → Answer
  answer_to t e = answer T t (call_of e)

  -- the records of a run, in the order of its calls
  abbrev pub records : T.Table → List (Event A) → List ℕ
  records = trace next (λ t e. gained e (answer_to t e).entry)

-- ---- what is hidden

-- by a slot's number, its S and its I
abbrev pub Hidden : Labels → Type 0
Hidden A = ℕ → A.Label → A.Label → Bool

-- secrecy hides what bears a tag in S
abbrev pub bears : (A : Labels) → A.Tag → Hidden A
bears A p i s int = A.has s p

-- integrity hides what lacks a tag in I
abbrev pub lacks : (A : Labels) → A.Tag → Hidden A
lacks A p i s int = not (A.has int p)

module _ {A : Labels} where
  abbrev pub hides : Hidden A → ℕ → Slot A → Bool
  hides H i e = H i e.sec e.int

  -- The calls that may differ between two runs, by the kind of a hidden caller: a put, show, send or fetch by a program, and by an
  -- item any call (document 02, change 2), since 1 refuses each (ItemsRefused)
  abbrev pub may_differ : Kind → Call A → Bool
  may_differ Free c = false
  may_differ Item c = true
  may_differ Program c = moves_content c

  -- the call is struck out where this is its caller's slot
  abbrev pub struck_by : Hidden A → Slot A → Call A → Bool
  struck_by H a c = hides H (caller_of c) a && may_differ a.kind c

  -- Two slots agree but for the content of a hidden entity
  pub record SlotsAgree (H : Hidden A) (i : ℕ) (x y : Slot A) : Type 0 where
    pub kind : x.kind ≡ y.kind
    pub sec : x.sec ≡ y.sec
    pub int : x.int ≡ y.int
    pub rights : x.rights ≡ y.rights
    pub content : hides H i x ≡ false → x.content ≡ y.content

module _ {A : Labels} (T : Tables A) (H : Hidden A) where
  -- Two tables differ only in the contents of hidden entities: free slots, kinds, all sets, groups and other contents agree
  pub record TablesAgree (t u : T.Table) : Type 0 where
    pub slots : (i : ℕ) → SlotsAgree H i (at T t i) (at T u i)
    pub groups : T.groups t ≡ T.groups u

  -- slot i holds a hidden entity; a free or too high slot holds none
  abbrev pub hidden_at : T.Table → ℕ → Bool
  hidden_at t i = not (is_free (at T t i).kind) && hides H i (at T t i)

  -- What may differ, in the table that the event gets: those calls, and every preview by a hidden caller
  abbrev pub struck : T.Table → Event A → Bool
  struck t (call c) = struck_by H (at T t (caller_of c)) c
  struck t (preview c) = hidden_at t (caller_of c)

  -- Of these what is a hidden program's: demand 3 to the letter for its puts, shows, sends and fetches, and its previews
  abbrev pub struck_of_programs : T.Table → Event A → Bool
  struck_of_programs t e = struck t e && is_program (at T t (made_by e)).kind

  -- the answer to a caller who is not hidden
  abbrev pub heard : T.Table → Event A → List Answer
  heard t e = cond (hidden_at t (made_by e)) [] (answer_to T t e ∷ [])
