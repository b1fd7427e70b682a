-- What the definitions of the entities and groups of a text say at one row.
-- Assumes nothing.
use mathlib.Core.Path.{◌≡◌, refl, sym, ap, ap₂, ◌∙◌}
use mathlib.Core.Bool.{Bool, true, false, cond}
use mathlib.Core.List.{List, [], ◌∷◌, ◌++◌, map, map-append, append_assoc}
use Rattle.std.specs.Prelude.{Option, None, Some}
use Rattle.std.specs.Option.{option_map_or}
use Rattle.std.specs.List.{list_all}
use Rattle.std.proofs.lemmas.List.Folds.{list_all-append}
use Rattle.rules.proofs.Facts.{both}
use lib.Dec.{ltb}
use Prim.Native.Nat.{ℕ, suc, ◌+◌, ◌-◌, ◌≤◌, ◌<◌}
use native.Mathlib.Omega.{arith}
use lib.ListN.{length, set, replicate, length-append, length-map}
use lib.Seq.{set-append_seam}
use borrow.Author.Tests.{lt-ltb, le-ltb}
use Rattle.rules.specs.Table.{is_free}
use Rattle.label.specs.declared.Group.{Group}
use Rattle.label.specs.Tags.{empty}
use Rattle.monitor.specs.declared.Table.{Table}
use Rattle.monitor.specs.Table.{entity_at, empty_table, empty_with}
use Rattle.text.specs.Lines.{Lines, done, cut, line, line_end, fields_in}
use Rattle.text.proofs.Laws.{Over, line_ends, lines_end, next_whole, next_none}
use Rattle.grouprows.specs.declared.GroupColumns.{GroupColumns}
use Rattle.grouprows.specs.Groups.{group_of}
use Rattle.rows.specs.declared.EntityColumns.{EntityColumns}
use Rattle.rows.specs.Entities.{EntitySaid, entity_of}
use Rattle.textblocks.specs.declared.Place.{Place}
use Rattle.textblocks.specs.Blocks.{Inside, Steps, lines_at, rows_at}
use Rattle.load.specs.Tables.{Stored, groups_from, with_entity, fill}

-- ---- rows behind a line of names

module _ (text : List ℕ) (p q : Place) (h : Inside text p) where
  pub none_left : Steps text p None q → Over (lines_at text p.at)
  none_left s = (line_ends text p.at (line_end text p.at) h.0 refl).none s.0

  -- what is made of the rows behind the line at p, where nothing is made of none
  pub behind : {A : Type 0} (f : ℕ → Lines → A) (x : A) → ((n : ℕ) (ls : Lines) → Over ls → f n ls ≡ x)
      → (r : Option (ℕ × List ℕ)) → Steps text p r q → f q.line (lines_at text q.at) ≡ f (p.line + 1) (rows_at text p)
  behind f x z None s =
      let e : lines_at text (line_end text p.at) ≡ done = lines_end text (line_end text p.at) s.0 in
      ap₂ (λ (n : ℕ) (a : ℕ). f n (lines_at text a)) (ap (λ (o : Place). o.line) s.1) (ap (λ (o : Place). o.at) s.1) ∙ z p.line _ (none_left s)
      ∙ sym (rw (next_none text p.at s.0, e) (z (p.line + 1) done tt))
  behind f x z (Some y) s = rw (s.2, next_whole text p.at s.0)

-- ---- groups

module _ (cs : GroupColumns) (gs : List Group) where
  pub groups_over : (ls : Lines) → Over ls → groups_from cs gs ls ≡ gs
  unfolding groups_from
  groups_over done h = refl
  groups_over cut h = refl
  groups_over (line l ls) h = absurd h

  module _ {all : Lines} {l : List ℕ} {ls : Lines} (w : all ≡ line l ls) where
    pub groups_none : group_of cs (fields_in l) ≡ None → groups_from cs gs all ≡ gs
    unfolding groups_from
    groups_none e = rw (w, groups_from, e)

    module _ (g : Group) (e : group_of cs (fields_in l) ≡ Some g) where
      pub groups_full : 8 ≤ length gs → groups_from cs gs all ≡ gs
      unfolding groups_from
      groups_full k = rw (w, groups_from, e, le-ltb _ _ k)

      pub groups_step : length gs < 8 → groups_from cs gs all ≡ groups_from cs (gs ++ (g ∷ [])) ls
      unfolding groups_from
      groups_step k = rw (w, groups_from, e, lt-ltb _ _ k)

-- what is true of each row that is a group is true of each group gathered
module _ (cs : GroupColumns) (p : Group → Bool) (each : (fs : List (List ℕ)) (g : Group) → group_of cs fs ≡ Some g → p g ≡ true) where
  pub gathered : (ls : Lines) (gs : List Group) → list_all p gs ≡ true → list_all p (groups_from cs gs ls) ≡ true
  unfolding groups_from
  gathered done gs h = h
  gathered cut gs h = h
  gathered (line l ls) gs h = go (group_of cs (fields_in l)) refl (ltb (length gs) 8) (λ g. gathered ls (gs ++ (g ∷ [])))
    where
      go : (o : Option Group) → group_of cs (fields_in l) ≡ o → (b : Bool)
          → ((g : Group) → list_all p (gs ++ (g ∷ [])) ≡ true → list_all p (groups_from cs (gs ++ (g ∷ [])) ls) ≡ true)
          → list_all p (option_map_or (λ g. cond b (groups_from cs (gs ++ (g ∷ [])) ls) gs) o gs) ≡ true
      go None q b ih = h
      go (Some g) q true ih = ih g (list_all-append p gs (g ∷ []) ∙ both _ _ h (both (p g) true (each (fields_in l) g q) refl))
      go (Some g) q false ih = h

pub empty-count : (gs : List Group) → (empty_with gs).count ≡ length gs
unfolding empty_with
empty-count gs = refl

-- one group more: its tags and its number each go to the first place that is not used
seam : {A : Type 0} (f : Group → A) (d : A) (gs : List Group) (g : Group) → length gs < 8
    → set (map f gs ++ replicate (8 - length gs) d) (length gs) (f g) ≡ map f (gs ++ (g ∷ [])) ++ replicate (8 - length (gs ++ (g ∷ []))) d
seam f d gs g h =
    let a : 8 - length gs ≡ suc (7 - length gs) = omega arith in
    let b : 8 - length (gs ++ (g ∷ [])) ≡ 7 - length gs = omega (arith, length-append gs (g ∷ [])) in
    rw (a, b, map-append, append_assoc, ← length-map gs f) (set-append_seam (map f gs) d (replicate (7 - length (map f gs)) d) (f g))

pub empty-more : (t : Table) (gs : List Group) (g : Group) → t ≡ empty_with gs → length gs < 8
    → record { entities = t.entities; content = t.content; groups = set t.groups t.count g.tags; most = set t.most t.count g.most; count = t.count + 1 } ≡ empty_with (gs ++ (g ∷ []))
unfolding empty_with
empty-more t gs g e h =
    let p = seam (λ x. x.tags) empty gs g h in
    let n = seam (λ x. x.most) 1 gs g h in
    let q : length gs + 1 ≡ length (gs ++ (g ∷ [])) = omega (arith, length-append gs (g ∷ [])) in
    rw e (λ i. record { entities = empty_table.entities; content = empty_table.content; groups = p i; most = n i; count = q i })

-- what a loop over groups holds: a table with those so far, and the rows that are left
pub record Gathered (cs : GroupColumns) (all : Lines) (t : Table) (left : Lines) : Type 0 where
  pub gs : List Group
  pub kept : t ≡ empty_with gs
  pub says : groups_from cs gs left ≡ groups_from cs [] all

-- ---- entities

module _ (cs : EntityColumns) (n : ℕ) (s : Stored) where
  pub fill_over : (ls : Lines) → Over ls → fill cs n s ls ≡ s
  unfolding fill
  fill_over done h = refl
  fill_over cut h = refl
  fill_over (line l ls) h = absurd h

  module _ {all : Lines} {l : List ℕ} {ls : Lines} (w : all ≡ line l ls) where
    pub fill_none : entity_of cs (fields_in l) ≡ None → fill cs n s all ≡ s
    unfolding fill
    fill_none e = rw (w, fill, e)

    module _ (y : EntitySaid) (e : entity_of cs (fields_in l) ≡ Some y) where
      pub fill_twice : is_free (entity_at s.table y.slot).kind ≡ false → fill cs n s all ≡ record { twice = Some n; breaks = s.breaks; table = s.table }
      unfolding fill
      fill_twice f = rw (w, fill, e) (rw f)

      pub fill_step : is_free (entity_at s.table y.slot).kind ≡ true → fill cs n s all ≡ fill cs (n + 1) (with_entity n s y) ls
      unfolding fill
      fill_step f = rw (w, fill, e) (rw f)
