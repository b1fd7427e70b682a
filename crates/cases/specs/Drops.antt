-- The premise of SecrecyUndropped in document 01's words: what takes a tag from S is an allowed drop that names this tag and set 0, a
-- call that is made and no preview.
-- Assumes nothing.
use Rattle.std.specs.Prelude.{◌≡◌, true, ℕ, ◌<◌, Ok}
use Rattle.std.proofs.Math.Option.{some}
use Rattle.rules.specs.Table.{Tables}
use Rattle.rules.specs.Calls.{fields_of, kind_of}
use Rattle.rules.specs.Refusals.{verdict}
use Rattle.rules.specs.Runs.{Event, call, call_of}
use Rattle.rules.specs.Claims.{drops_tag}
use Rattle.label.specs.Words.{words}

module _ (T : Tables words) where
  pub record NamedDrop (p : ℕ) (t : T.Table) (e : Event words) : Type 0 where
    pub made : e ≡ call (call_of e)
    pub allowed : verdict T t (call_of e) ≡ Ok tt
    pub kind : kind_of (call_of e) ≡ 6
    pub set : (fields_of (call_of e)).set ≡ 0
    pub tag : (fields_of (call_of e)).tag ≡ some p

  abbrev pub DropsNamed : Type 0
  DropsNamed = (p : ℕ) → p < 64 → (t : T.Table) (e : Event words) → drops_tag T p t e ≡ true → NamedDrop p t e
