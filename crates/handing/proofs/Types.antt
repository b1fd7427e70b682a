-- What the walks of `HandingInto.antt` and `HandingIntoPlain.antt` ask of a function's types: of its plain parameters, and of what it hands back.
--     number, declared, chosen     an unsigned number, and a declared struct and a declared enum of plain fields, as parameters
-- Assumes nothing.
use Rattle.std.proofs.Common.{◌≡◌, ℕ, List, [], ◌∷◌, length, MutBor}
use seplogic.Ra.Ura.{Ura}
use lib.Dec.{T as Holds}
use mir.Syntax.{Ty, Width, ty_int}
use mir.Val.{Val, WT, has_ty, vint}
use base.Fml.{Lft}
use types.Logic.{Logic}
use denote.Exit.{unchanged}
use denote.Laws.{Is, Tells, Makes}
use denote.Memory.{lone}
use denote.Plain.{UInt, uint_Makes, uint_Tells, uint_Lawful}
use denote.RattleType.{RattleType}
use denote.Struct.Declared.{Declared, row as row_of, fields}
use denote.Struct.Laws as LL
use denote.Struct.Struct.{Plains}
use denote.Enum.Declared as E
use denote.Enum.Enum.{Few, Plainss}
use denote.Enum.Laws as EL

-- A plain parameter: its row, its MIR type, the machine value of each value, and its laws.
pub record Plainly : Type 2 where
  pub row : RattleType
  pub ty : Ty
  pub val : row.Denot → Val
  pub tells : Tells row (Is row) (λ x. val x ∷ [])
  pub makes : {M : Type 1} {𝓤 : Ura M} (𝓛 : Logic 𝓤) → Makes 𝓛 row (Is row)
  pub typed : {M : Type 1} {𝓤 : Ura M} (𝓛 : Logic 𝓤) (x : row.Denot) (v : Val) → Is row x (v ∷ []) → Holds (has_ty ty v) × WT v

abbrev pub number : Width → Plainly
number w = record {
  row = UInt w;
  ty = ty_int w;
  val = vint w;
  tells = uint_Tells w;
  makes = λ 𝓛. uint_Makes 𝓛 w;
  typed = λ 𝓛 x v is. ((uint_Lawful 𝓛 w).typed x (v ∷ []) is).0;
}

abbrev pub declared : (T : Declared) → LL.Laws T → Plains (fields T) → Plainly
declared T L plain = record {
  row = row_of T;
  ty = lone (row_of T).mir;
  val = LL.val T L;
  tells = LL.tells T L;
  makes = λ 𝓛. LL.makes T plain 𝓛;
  typed = λ 𝓛 x v is. ((LL.lawful T L 𝓛).typed x (v ∷ []) is).0;
}

abbrev pub chosen : (T : E.Declared) → EL.Laws T → Plainss (E.variants T) → Few (E.shape T) → Plainly
chosen T L plain few = record {
  row = E.row T;
  ty = lone (E.row T).mir;
  val = EL.val T L;
  tells = EL.tells T L;
  makes = λ 𝓛. EL.makes T plain 𝓛;
  typed = λ 𝓛 x v is. ((EL.lawful T L 𝓛 few).typed x (v ∷ []) is).0;
}

-- A row, of which nothing is said when the function returns.
abbrev pub quiet : RattleType → RattleType
quiet R = record { Denot = R.Denot; mir = R.mir; written = R.written; reaches = R.reaches; lives = R.lives; own_val = R.own_val; exit = λ k. unchanged; coded = R.coded; shr_at = R.shr_at }

-- What is handed back, borrowed for the lifetime of the buffer: its row, and its MIR type.
pub record Handed : Type 2 where
  pub row : Lft → RattleType
  pub ty : Ty
  pub typed : {M : Type 1} {𝓤 : Ura M} (𝓛 : Logic 𝓤) (κ : Lft) (x : (row κ).Denot) (v : Val) → Is (row κ) x (v ∷ []) → Holds (has_ty ty v) × WT v

-- The buffer x is handed back as r, and holds m.
abbrev pub Refilled : MutBor (List ℕ) → List ℕ → MutBor (List ℕ) → Type 0
Refilled x m r = (r.ghost_name ≡ x.ghost_name) × (r.ref_ptr ≡ x.ref_ptr) × (r.now ≡ m) × (length r.now ≡ length x.now)
