-- Document 01, 'Nine calls': their inputs, and what each writes and moves when it is allowed.
-- Assumes nothing.
use Rattle.std.specs.Prelude.{Bool, true, false, cond, List, [], ℕ, eqb}
use Rattle.std.proofs.Math.Option.{Option, none, some}
use Rattle.rules.specs.declared.Kind.{Kind}
use Rattle.rules.specs.declared.Kind.TheVariants.{Item, Program}
use Rattle.rules.specs.Labels.{Labels}
use Rattle.rules.specs.Table.{Rights, Slot, no_rights, free}

-- create's set field: 1 an item, 2 a program
abbrev pub new_kind : ℕ → Kind
new_kind n = cond (eqb n 1) Item Program

module _ (A : Labels) where
  -- The caller comes first, then the other's slot, the set field, the tag; at the end the bytes put or the buffer lent
  pub data Call : Type 0 where
    put : ℕ → List ℕ → Call
    show : ℕ → List ℕ → Call
    send : ℕ → ℕ → Call
    fetch : ℕ → ℕ → Call
    add_tag : ℕ → ℕ → A.Tag → Call
    drop_tag : ℕ → ℕ → A.Tag → Call
    create : ℕ → ℕ → ℕ → Call
    release : ℕ → ℕ → Call
    hand : ℕ → ℕ → ℕ → A.Tag → Call

  -- the fields of a call that its record repeats
  pub record Fields : Type 0 where
    pub kind : ℕ
    pub caller : ℕ
    pub other : ℕ
    pub set : ℕ
    pub tag : Option A.Tag

module _ {A : Labels} where
  abbrev fields : ℕ → ℕ → ℕ → ℕ → Option A.Tag → Fields A
  fields k i j n p = record { kind = k; caller = i; other = j; set = n; tag = p }

  -- kind, caller, other, set field and tag; 255, or none for a tag, where the call does not use the field
  abbrev pub fields_of : Call A → Fields A
  fields_of (put i bs) = fields 1 i 255 255 none
  fields_of (show i buf) = fields 2 i 255 255 none
  fields_of (send i j) = fields 3 i j 255 none
  fields_of (fetch i j) = fields 4 i j 255 none
  fields_of (add_tag i n p) = fields 5 i 255 n (some p)
  fields_of (drop_tag i n p) = fields 6 i 255 n (some p)
  fields_of (create i j n) = fields 7 i j n none
  fields_of (release i j) = fields 8 i j 255 none
  fields_of (hand i j n p) = fields 9 i j n (some p)

  abbrev pub kind_of : Call A → ℕ
  kind_of c = (fields_of c).kind

  abbrev pub caller_of : Call A → ℕ
  caller_of c = (fields_of c).caller

  abbrev pub other_of : Call A → ℕ
  other_of c = (fields_of c).other

  -- ---- set fields

  -- add and drop: 0 secrecy, 1 integrity. The right that each needs, and the slot with that set changed by f
  abbrev pub add_right : ℕ → Rights A → A.Label
  add_right n r = cond (eqb n 0) r.sa r.ia

  abbrev pub drop_right : ℕ → Rights A → A.Label
  drop_right n r = cond (eqb n 0) r.sd r.id

  abbrev pub relabel : ℕ → (A.Label → A.Label) → Slot A → Slot A
  relabel n f e = record {
    kind = e.kind;
    sec = cond (eqb n 0) (f e.sec) e.sec;
    int = cond (eqb n 0) e.int (f e.int);
    rights = e.rights;
    content = e.content;
  }

  -- hand: 0 add to S, 1 drop from S, 2 add to I, 3 drop from I. That right, and the rights with one more of them
  abbrev pub right_at : ℕ → Rights A → A.Label
  right_at n r = cond (eqb n 0) r.sa (cond (eqb n 1) r.sd (cond (eqb n 2) r.ia r.id))

  abbrev pub grant : ℕ → A.Tag → Rights A → Rights A
  grant n p r = record {
    sa = cond (eqb n 0) (A.insert p r.sa) r.sa;
    sd = cond (eqb n 1) (A.insert p r.sd) r.sd;
    ia = cond (eqb n 2) (A.insert p r.ia) r.ia;
    id = cond (eqb n 3) (A.insert p r.id) r.id;
  }

  -- ---- an allowed call

  abbrev pub with_content : Slot A → List ℕ → Slot A
  with_content e bs = record { kind = e.kind; sec = e.sec; int = e.int; rights = e.rights; content = bs }

  abbrev pub with_rights : Slot A → Rights A → Slot A
  with_rights e r = record { kind = e.kind; sec = e.sec; int = e.int; rights = r; content = e.content }

  -- the new entity takes its creator's S and I, empty content and no rights
  abbrev pub created : ℕ → Slot A → Slot A
  created n a = record { kind = new_kind n; sec = a.sec; int = a.int; rights = no_rights; content = [] }

  -- the one slot that it writes
  abbrev pub target : Call A → ℕ
  target (put i bs) = i
  target (show i buf) = i
  target (send i j) = j
  target (fetch i j) = i
  target (add_tag i n p) = i
  target (drop_tag i n p) = i
  target (create i j n) = j
  target (release i j) = j
  target (hand i j n p) = j

  -- what it writes there, where a is the caller's slot and b the other's
  abbrev pub written : Slot A → Slot A → Call A → Slot A
  written a b (put i bs) = with_content a bs
  written a b (show i buf) = a
  written a b (send i j) = with_content b a.content
  written a b (fetch i j) = with_content a b.content
  written a b (add_tag i n p) = relabel n (A.insert p) a
  written a b (drop_tag i n p) = relabel n (A.remove p) a
  written a b (create i j n) = created n a
  written a b (release i j) = free
  written a b (hand i j n p) = with_rights b (grant n p b.rights)

  -- the bytes put, shown, sent or fetched
  abbrev pub moved : Slot A → Slot A → Call A → List ℕ
  moved a b (put i bs) = bs
  moved a b (show i buf) = a.content
  moved a b (send i j) = a.content
  moved a b (fetch i j) = b.content
  moved a b (add_tag i n p) = []
  moved a b (drop_tag i n p) = []
  moved a b (create i j n) = []
  moved a b (release i j) = []
  moved a b (hand i j n p) = []

  -- put, show, send and fetch move content; the others change labels, rights or slots
  abbrev pub moves_content : Call A → Bool
  moves_content (put i bs) = true
  moves_content (show i buf) = true
  moves_content (send i j) = true
  moves_content (fetch i j) = true
  moves_content (add_tag i n p) = false
  moves_content (drop_tag i n p) = false
  moves_content (create i j n) = false
  moves_content (release i j) = false
  moves_content (hand i j n p) = false

  abbrev pub is_show : Call A → Bool
  is_show (put i bs) = false
  is_show (show i buf) = true
  is_show (send i j) = false
  is_show (fetch i j) = false
  is_show (add_tag i n p) = false
  is_show (drop_tag i n p) = false
  is_show (create i j n) = false
  is_show (release i j) = false
  is_show (hand i j n p) = false

  -- what the buffer lent to the call holds
  abbrev pub lent : Call A → List ℕ
  lent (put i bs) = []
  lent (show i buf) = buf
  lent (send i j) = []
  lent (fetch i j) = []
  lent (add_tag i n p) = []
  lent (drop_tag i n p) = []
  lent (create i j n) = []
  lent (release i j) = []
  lent (hand i j n p) = []
