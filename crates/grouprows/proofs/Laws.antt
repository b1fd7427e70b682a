-- What the readings of a line's fields come to.
-- Assumes nothing.
use Rattle.std.proofs.Common.{◌≢◌, ◌≡◌, ◌∙◌, refl, sym, ap, cond, List, ℕ, ◌≤◌, Bool, true, false, arith, length, Option, None, Some}
use lib.Dec.{eqb}
use borrow.Author.Tests.{eq-eqb, ne_eqb}
use Rattle.label.specs.declared.Group.{Group}
use Rattle.label.specs.declared.Label.{Label}
use Rattle.label.specs.Tags.{group_formed}
use Rattle.text.specs.Lines.{ahead, fields_in, field_at, names_once}
use Rattle.text.specs.Split.{split_of, field_by}
use Rattle.text.proofs.Fields.{count_is, field_is}
use Rattle.std.proofs.lemmas.Option.{cond_some, same_Some, option_and_then_some}
use Rattle.values.specs.Options.{◌>>=◌}
use Rattle.values.specs.Values.{hex_set_of}
use Rattle.grouprows.specs.declared.GroupColumns.{GroupColumns}
use Rattle.grouprows.specs.Groups.{plain_names, group_columns, fields_needed, number_said, formed_group, group_of}

-- the line whose fields say these
abbrev pub group_by : Option Label → Option ℕ → Option Group
group_by tags most = do
  g ← tags
  n ← most
  formed_group g n

module _ (cs : GroupColumns) (row : List ℕ) where
  pub row_short : (split_of row).count ≢ fields_needed cs → group_of cs (fields_in row) ≡ None
  unfolding group_of
  row_short n = let h : length (fields_in row) ≢ fields_needed cs = omega (arith, count_is row) in rw (ne_eqb _ _ h)

  -- the fields by where a row has them
  module _ (h : (split_of row).count ≡ fields_needed cs) where
    abbrev field : ℕ → List ℕ
    field k = field_by row (split_of row).starts k

    pub row_group : group_of cs (fields_in row) ≡ group_by (hex_set_of (field cs.tags)) (number_said cs.numbered (field cs.most))
    unfolding group_of
    row_group =
        let n : length (fields_in row) ≡ fields_needed cs = omega (arith, count_is row, h) in
        let f = field_is row (omega (arith, h, few cs.numbered)) in
        rw (eq-eqb _ _ n) (sym (λ i. group_by (hex_set_of (f cs.tags i)) (number_said cs.numbered (f cs.most i))))
      where
        few : (b : Bool) → cond b 2 1 ≤ 2
        few true = omega arith
        few false = omega arith

-- ---- a group that is read has the form, and without the second name its number is 1

-- a row that is a group, by what its fields say
record Said (cs : GroupColumns) (g : Group) : Type 0 where
  formed : group_formed g ≡ true
  number : (f : List ℕ) × (number_said cs.numbered f ≡ Some g.most)

row_said : (cs : GroupColumns) (fs : List (List ℕ)) (g : Group) → group_of cs fs ≡ Some g → Said cs g
unfolding group_of
row_said cs fs g e = go (eqb (length fs) (fields_needed cs)) e
  where
    go : (t : Bool)
        → cond t (do
          g ← hex_set_of (field_at fs cs.tags)
          n ← number_said cs.numbered (field_at fs cs.most)
          formed_group g n) None ≡ Some g
        → Said cs g
    go false q = absurd cc
    go true q =
        option_and_then_some _ (hex_set_of (field_at fs cs.tags)) g q (λ s _ q.
        option_and_then_some _ (number_said cs.numbered (field_at fs cs.most)) g q (λ n m q.
        let r = cond_some (group_formed (record { tags = s; most = n })) (record { tags = s; most = n }) g q in
        rw (← r.1) (record { formed = r.0; number = (field_at fs cs.most, m) })))

pub row_formed : (cs : GroupColumns) (fs : List (List ℕ)) (g : Group) → group_of cs fs ≡ Some g → group_formed g ≡ true
row_formed cs fs g e = (row_said cs fs g e).formed

pub row_one : (cs : GroupColumns) (fs : List (List ℕ)) (g : Group) → cs.numbered ≡ false → group_of cs fs ≡ Some g → g.most ≡ 1
row_one cs fs g p e = let s = row_said cs fs g e in sym (same_Some 1 g.most (ap (λ (b : Bool). number_said b s.number.0) (sym p) ∙ s.number.1))

pub plain_numbers : (group_columns plain_names).numbered ≡ false
unfolding group_columns names_once fields_in ahead
plain_numbers = refl
