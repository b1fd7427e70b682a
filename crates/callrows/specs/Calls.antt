-- Document 01, 'The text': one line of values of the calls.
-- Assumes nothing.
use Rattle.std.specs.Prelude.{ℕ, ◌≡◌, Bool, true, false, cond, ◌&&◌, Option, None, Some, is_some, unwrap_or, List, [], ◌∷◌, map, length, replicate, eqb}
use Rattle.std.proofs.Math.Option.{none, some}
use Rattle.rules.specs.declared.Call.{Call as Named}
use Rattle.rules.specs.declared.Call.TheVariants.{Put, Show, Send, Fetch, Add, Drop, Create, Release, Hand}
use Rattle.rules.specs.Table.{free}
use Rattle.rules.specs.Calls.{Call, fields_of, kind_of, moved}
use Rattle.label.specs.Calls.{call_with}
use Rattle.label.specs.Words.{words}
use Rattle.text.specs.Ascii.{ascii}
use Rattle.text.specs.Bytes.{eq_bytes}
use Rattle.values.specs.Values.{decimal_of, data_of, dash}
use Rattle.text.specs.Lines.{fields_in, field_at, column_of}
use Rattle.values.specs.Options.{◌>>=◌}
use Rattle.callrows.specs.declared.CallColumns.{CallColumns}
use Rattle.callrows.specs.declared.Uses.{Uses}
use Rattle.callrows.specs.declared.CallRow.{CallRow}

abbrev pub call_names : List (List ℕ)
call_names = fields_in (ascii "call caller other set tag data")

-- the columns under a line of names
unfoldable pub call_columns : List (List ℕ) → CallColumns
call_columns hs = record {
  call = column_of (ascii "call") hs;
  caller = column_of (ascii "caller") hs;
  other = column_of (ascii "other") hs;
  set = column_of (ascii "set") hs;
  tag = column_of (ascii "tag") hs;
  bytes = column_of (ascii "data") hs;
}

-- the call of a name, by a caller, with the other's slot, the set field and the tag as far as it uses them
unfoldable pub call_named : List ℕ → ℕ → ℕ → ℕ → ℕ → Option Named
call_named f i j n p =
    cond (eq_bytes f (ascii "put")) (Some (Put i))
    (cond (eq_bytes f (ascii "show")) (Some (Show i))
    (cond (eq_bytes f (ascii "send")) (Some (Send i j))
    (cond (eq_bytes f (ascii "fetch")) (Some (Fetch i j))
    (cond (eq_bytes f (ascii "add")) (Some (Add i n p))
    (cond (eq_bytes f (ascii "drop")) (Some (Drop i n p))
    (cond (eq_bytes f (ascii "create")) (Some (Create i j n))
    (cond (eq_bytes f (ascii "release")) (Some (Release i j))
    (cond (eq_bytes f (ascii "hand")) (Some (Hand i j n p)) None))))))))

-- which fields a call uses, beside the caller: the other's slot, the set field, the tag, the data
abbrev pub with_uses : Bool → Bool → Bool → Bool → Uses
with_uses o s t b = record { other = o; set = s; tag = t; bytes = b }

abbrev pub uses_of : Named → Uses
uses_of (Put i) = with_uses false false false true
uses_of (Show i) = with_uses false false false false
uses_of (Send i j) = with_uses true false false false
uses_of (Fetch i j) = with_uses true false false false
uses_of (Add i n p) = with_uses false true true false
uses_of (Drop i n p) = with_uses false true true false
uses_of (Create i j n) = with_uses true true false false
uses_of (Release i j) = with_uses true false false false
uses_of (Hand i j n p) = with_uses true true true false

-- what a field says as a number; 255 where it says none, as `-` does
abbrev pub number_in : List ℕ → ℕ
number_in f = unwrap_or (decimal_of 255 f) 255

-- a used field is a number; an unused one is `-`
abbrev pub fits : Bool → List ℕ → Bool
fits used f = cond used (is_some (decimal_of 255 f)) (eq_bytes f dash)

-- put's data; in any other call `-`
unfoldable pub data_if : Bool → List ℕ → Option (List ℕ)
data_if used f = cond used (data_of 255 f) (cond (eq_bytes f dash) (Some []) None)

-- what a line says: a call, and the bytes put; and the call as the rules have it, where show's buffer has 64 bytes
pub record CallSaid : Type 0 where
  pub call : Named
  pub bytes : List ℕ

unfoldable pub show_buffer : List ℕ
show_buffer = replicate 64 0

abbrev pub call_in : CallSaid → Call words
call_in q = call_with q.call q.bytes show_buffer

-- the line whose fields are fs, in the columns cs
unfoldable pub call_of : CallColumns → List (List ℕ) → Option CallSaid
call_of cs fs =
    cond (eqb (length fs) 6)
    (do
      i ← decimal_of 255 (field_at fs cs.caller)
      c ← call_named (field_at fs cs.call) i (number_in (field_at fs cs.other)) (number_in (field_at fs cs.set)) (number_in (field_at fs cs.tag))
      bs ← cond ((fits (uses_of c).other (field_at fs cs.other) && fits (uses_of c).set (field_at fs cs.set)) && fits (uses_of c).tag (field_at fs cs.tag)) (data_if (uses_of c).bytes (field_at fs cs.bytes)) None
      Some (record { call = c; bytes = bs }))
    None

-- what the code answers
abbrev pub as_call_row : CallSaid → CallRow
as_call_row q = record { call = q.call; put = record { items = q.bytes } }

-- ---- claims

-- The fields that a line must give are those that the call's record repeats, each from its own column, and the bytes put.
-- (Between free slots only bytes put move.)
module _ (i j n p : ℕ) (bs : List ℕ) where
  abbrev pub UsesFields : Option Named → Type 0
  UsesFields None = Unit {0}
  UsesFields (Some c) =
      ((fields_of (call_in (record { call = c; bytes = bs }))).caller ≡ i)
      × ((fields_of (call_in (record { call = c; bytes = bs }))).other ≡ cond (uses_of c).other j 255)
      × ((fields_of (call_in (record { call = c; bytes = bs }))).set ≡ cond (uses_of c).set n 255)
      × ((fields_of (call_in (record { call = c; bytes = bs }))).tag ≡ cond (uses_of c).tag (some p) none)
      × (moved free free (call_in (record { call = c; bytes = bs })) ≡ cond (uses_of c).bytes bs [])

abbrev pub UsedFields : Type 0
UsedFields = (f : List ℕ) (i j n p : ℕ) (bs : List ℕ) → UsesFields i j n p bs (call_named f i j n p)

-- The names are those of document 01's calls, 1 to 9
abbrev pub kind_read : Option Named → ℕ
kind_read None = 0
kind_read (Some c) = kind_of (call_with c [] [])

abbrev pub NamedKinds : Type 0
NamedKinds = (i j n p : ℕ)
    → map (λ f. kind_read (call_named f i j n p)) (fields_in (ascii "put show send fetch add drop create release hand"))
    ≡ 1 ∷ 2 ∷ 3 ∷ 4 ∷ 5 ∷ 6 ∷ 7 ∷ 8 ∷ 9 ∷ []
