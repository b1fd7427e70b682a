-- To whom the record of a call shows.
-- Assumes nothing.
use mathlib.Core.Path.{◌≡◌, refl, sym, ◌∙◌}
use mathlib.Core.Bool.{Bool, true, false, cond, not, ◌&&◌, ◌||◌}
use Rattle.std.proofs.Math.Bool.{and-true}
use Rattle.rules.specs.declared.Kind.{Kind}
use Rattle.rules.specs.declared.Kind.TheVariants.{Free, Item, Program}
use Rattle.rules.specs.Labels.{Labels}
use Rattle.rules.specs.Table.{is_free, is_item, Tables, at}
use Rattle.rules.specs.Calls.{Call, fields_of, kind_of, caller_of, other_of}
use Rattle.rules.specs.Refusals.{number_of, verdict, step}
use Rattle.rules.specs.Record.{need_by, need_of, moved_by, visible, answer}
use Rattle.rules.specs.Laws.{OrderLaws}
use Rattle.rules.specs.Claims.{RecordsShow}
use lib.ListN.{length}
use Rattle.rules.proofs.Held.{join_below}

module _ {A : Labels} (O : OrderLaws A) where
  three-below : (a b c l : A.Label) → A.below (A.join (A.join a b) c) l ≡ A.below a l && (A.below b l && A.below c l)
  three-below a b c l = rw (join_below O (A.join a b) c l, join_below O a b l) (assoc (A.below a l))
    where
      assoc : (x : Bool) → x && A.below b l && A.below c l ≡ x && (A.below b l && A.below c l)
      assoc true = refl
      assoc false = refl

  module _ (T : Tables A) where
    -- a record shows to whoever its need is below
    pub shows : (t : T.Table) (c : Call A) (l : A.Label) → visible A l (answer T t c).entry ≡ A.below (need_of T t c) l
    shows t c l = O.entry_shows (kind_of c) (caller_of c) (other_of c) (number_of (verdict T t c)) (length (moved_by T t c)) (fields_of c).set (fields_of c).tag (need_of T t c) l

    pub records_show : RecordsShow T
    records_show t c l = shows t c l ∙ go (T.formed t) (at T t (caller_of c)).kind
      where
        a : A.Label
        a = (at T t (caller_of c)).sec

        b : A.Label
        b = (at T (step T t c) (caller_of c)).sec

        o : A.Label
        o = (at T t (other_of c)).sec

        go : (z : Bool) (k : Kind) → A.below (cond z (need_by A k a b o) A.empty) l
            ≡ not (z && not (is_free k)) || (A.below a l && (is_item k || (A.below b l && A.below o l)))
        go true Free = O.empty_below l
        go true Item = sym (and-true (A.below a l))
        go true Program = three-below a b o l
        go false k = O.empty_below l
