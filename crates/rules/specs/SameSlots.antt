-- What a table answers depends on what stands in its slots and on its groups, and not on how it keeps them.
-- Assumes nothing.
use Rattle.std.specs.Prelude.{◌≡◌, true, List, ℕ}
use Rattle.rules.specs.Labels.{Labels}
use Rattle.rules.specs.Table.{Tables, at}
use Rattle.rules.specs.Record.{Answer}
use Rattle.rules.specs.Runs.{final, trace, Event, next, answer_to}

module _ {A : Labels} (T U : Tables A) where
  -- Two tables in form, perhaps of different kinds, hold the same slots and groups
  pub record HoldSame (t : T.Table) (u : U.Table) : Type 0 where
    pub left : T.formed t ≡ true
    pub right : U.formed u ≡ true
    pub slots : (i : ℕ) → at T t i ≡ at U u i
    pub groups : T.groups t ≡ U.groups u

  -- Then every run gives the same answers from both, whatever f takes of each, by the call or preview that it answers, and leaves tables
  -- that hold the same
  pub record RunSame (t : T.Table) (u : U.Table) (es : List (Event A)) : Type 1 where
    pub answers : (X : Type 0) (f : Event A → Answer → List X) → trace (next T) (λ s e. f e (answer_to T s e)) t es ≡ trace (next U) (λ s e. f e (answer_to U s e)) u es
    pub tables : HoldSame (final (next T) t es) (final (next U) u es)

  abbrev pub AnswersBySlots : Type 1
  AnswersBySlots = (t : T.Table) (u : U.Table) (es : List (Event A)) → HoldSame t u → RunSame t u es
