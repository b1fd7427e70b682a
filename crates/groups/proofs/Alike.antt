-- The check of a table, the same at every table of a run.
-- Assumes nothing.
use mathlib.Core.Path.{◌≡◌, refl, sym, ap, ◌∙◌}
use mathlib.Core.Bool.{Bool, true, false}
use mathlib.Core.List.{List, [], ◌∷◌}
use Rattle.rules.specs.Labels.{Labels}
use Rattle.rules.specs.Table.{Tables}
use Rattle.rules.specs.Calls.{Call}
use Rattle.rules.specs.Refusals.{step}
use Rattle.rules.specs.Runs.{final, Event, call, preview, next}
use Rattle.rules.specs.Laws.{OrderLaws, TableLaws}
use Rattle.rules.proofs.Steps.{step_formed, step_groups}
use Rattle.groups.specs.Check.{check_at}
use Rattle.groups.specs.Claims.{TablesChecked}

reads : {A : Labels} (T : Tables A) (t u : T.Table) (l : A.Label) → T.formed t ≡ T.formed u → T.groups t ≡ T.groups u → check_at T t l ≡ check_at T u l
reads T t u l f g = rw (f, g)

module _ {A : Labels} (O : OrderLaws A) (T : Tables A) (L : TableLaws T) where
  after : (t : T.Table) (c : Call A) (l : A.Label) → check_at T (step T t c) l ≡ check_at T t l
  after t c l = go (T.formed t) refl
    where
      go : (b : Bool) → T.formed t ≡ b → check_at T (step T t c) l ≡ check_at T t l
      go true f = reads T (step T t c) t l (step_formed T O L t c f ∙ sym f) (step_groups T O L t c)
      go false f = let q : step T t c ≡ t = rw f in ap (λ (u : T.Table). check_at T u l) q

  stays : (t : T.Table) (es : List (Event A)) (l : A.Label) → check_at T (final (next T) t es) l ≡ check_at T t l
  stays t [] l = refl
  stays t (call c ∷ es) l = stays (step T t c) es l ∙ after t c l
  stays t (preview c ∷ es) l = stays t es l

pub tables_checked : {A : Labels} → OrderLaws A → (T : Tables A) → TableLaws T → TablesChecked T
tables_checked O T L = record { formless = λ t l f. rw f; in_form = λ t l f. rw f; reads = reads T; stays = stays O T L }
