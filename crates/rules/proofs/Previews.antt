-- A run with its previews left out ends in the same table, answers its calls alike and gives the same records.
-- Assumes nothing.
use mathlib.Core.Path.{◌≡◌, refl, ap}
use mathlib.Core.List.{List, [], ◌∷◌, ◌++◌}
use Prim.Native.Nat.{ℕ}
use Rattle.rules.specs.Labels.{Labels}
use Rattle.rules.specs.Table.{Tables}
use Rattle.rules.specs.Calls.{Call}
use Rattle.rules.specs.Refusals.{step}
use Rattle.rules.specs.Record.{Answer, answer}
use Rattle.rules.specs.Runs.{final, trace, Event, call, preview, run_of, next}
use Rattle.rules.specs.Claims.{PreviewsLeaveNothing}

module _ {A : Labels} (T : Tables A) where
  pub previews_leave_nothing : PreviewsLeaveNothing T
  previews_leave_nothing t [] = record { table = refl; answers = refl; records = refl }
  previews_leave_nothing t (preview c ∷ es) = let r = previews_leave_nothing t es in record { table = r.table; answers = r.answers; records = r.records }
  previews_leave_nothing t (call c ∷ es) = let r = previews_leave_nothing (step T t c) es in
      record {
        table = r.table;
        answers = ap (λ (bs : List Answer). answer T t c ∷ bs) r.answers;
        records = ap (λ (bs : List ℕ). (answer T t c).entry ++ bs) r.records;
      }

-- a run of calls alone ends as these do, one after another, and gives what they give
module _ {A : Labels} (T : Tables A) where
  pub alone_ends : (t : T.Table) (cs : List (Call A)) → final (next T) t (run_of cs) ≡ final (step T) t cs
  alone_ends t [] = refl
  alone_ends t (c ∷ cs) = alone_ends (step T t c) cs

  pub alone_gives : {X : Type 0} (out : T.Table → Event A → List X) (t : T.Table) (cs : List (Call A))
      → trace (next T) out t (run_of cs) ≡ trace (step T) (λ u c. out u (call c)) t cs
  alone_gives out t [] = refl
  alone_gives {X} out t (c ∷ cs) = ap (λ (xs : List X). out t (call c) ++ xs) (alone_gives out (step T t c) cs)
