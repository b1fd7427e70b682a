-- What a row of the entities that has the form says: one of the 32 slots, and an entity in form.
-- Assumes nothing.
use mathlib.Core.Path.{◌≡◌, refl, sym, ap}
use mathlib.Core.Bool.{Bool, true, false, cond}
use mathlib.Core.List.{List}
use Rattle.std.specs.Prelude.{Option, None, Some}
use Rattle.std.specs.Option.{option_map}
use Rattle.std.proofs.lemmas.Option.{cond_some, same_Some, option_and_then_some}
use Prim.Native.Nat.{ℕ, ◌<◌}
use native.Mathlib.Omega.{arith}
use lib.Dec.{eqb}
use lib.ListN.{length}
use Rattle.rules.specs.declared.Kind.{Kind}
use Rattle.label.specs.declared.Label.{Label}
use Rattle.entity.specs.declared.Entity.{Entity}
use Rattle.values.specs.Options.{◌>>=◌}
use Rattle.values.specs.Values.{decimal_of, hex_set_of, data_of}
use Rattle.values.proofs.Laws.{decimal_le}
use Rattle.text.specs.Lines.{field_at}
use Rattle.rows.specs.declared.EntityColumns.{EntityColumns}
use Rattle.rows.specs.declared.EntityRow.{EntityRow}
use Rattle.rows.specs.Entities.{EntitySaid, as_entity_row, kind_named, entity_formed, entity_in, entity_of}

-- what the code answers for a row comes from what the row says
pub row_said : (r : EntityRow) (o : Option EntitySaid) → option_map as_entity_row o ≡ Some r → (y : EntitySaid) × (o ≡ Some y) × (r ≡ as_entity_row y)
row_said r None e = absurd cc
row_said r (Some y) e = (y, refl, cc)

pub row_none : (o : Option EntitySaid) → option_map as_entity_row o ≡ None → o ≡ None
row_none None e = refl
row_none (Some y) e = cc

pub record Sound (y : EntitySaid) : Type 0 where
  pub slot : y.slot < 32
  pub formed : entity_formed y.entity ≡ true
  pub len : y.entity.len ≡ length y.content

len_of : (n : ℕ) (x : Entity) (k : Option Kind) (s i a b c d : Option Label)
    → (do
      k ← k
      s ← s
      i ← i
      a ← a
      b ← b
      c ← c
      d ← d
      Some (record { kind = k; sec = s; int = i; sa = a; sd = b; ia = c; id = d; len = n })) ≡ Some x
    → x.len ≡ n
len_of n x None s i a b c d p = cc
len_of n x (Some k) None i a b c d p = cc
len_of n x (Some k) (Some s) None a b c d p = cc
len_of n x (Some k) (Some s) (Some i) None b c d p = cc
len_of n x (Some k) (Some s) (Some i) (Some a) None c d p = cc
len_of n x (Some k) (Some s) (Some i) (Some a) (Some b) None d p = cc
len_of n x (Some k) (Some s) (Some i) (Some a) (Some b) (Some c) None p = cc
len_of n x (Some k) (Some s) (Some i) (Some a) (Some b) (Some c) (Some d) p = sym (ap (λ (e : Entity). e.len) (same_Some _ x p))

module _ (cs : EntityColumns) (fs : List (List ℕ)) where
  entity-len : (n : ℕ) (x : Entity) → entity_in cs fs n ≡ Some x → x.len ≡ n
  unfolding entity_in
  entity-len n x p =
      len_of n x (kind_named (field_at fs cs.kind)) (hex_set_of (field_at fs cs.sec)) (hex_set_of (field_at fs cs.int)) (hex_set_of (field_at fs cs.sa)) (hex_set_of (field_at fs cs.sd)) (hex_set_of (field_at fs cs.ia)) (hex_set_of (field_at fs cs.id)) p

  pub row_sound : (y : EntitySaid) → entity_of cs fs ≡ Some y → Sound y
  unfolding entity_of
  row_sound y p = go (eqb (length fs) 9) p
    where
      go : (t : Bool)
          → cond t (do
            k ← decimal_of 31 (field_at fs cs.slot)
            bs ← data_of 64 (field_at fs cs.content)
            e ← entity_in cs fs (length bs)
            cond (entity_formed e) (Some (record { slot = k; entity = e; content = bs })) None) None ≡ Some y
          → Sound y
      go false q = absurd cc
      go true q =
          option_and_then_some _ (decimal_of 31 (field_at fs cs.slot)) y q (λ k d q.
          option_and_then_some _ (data_of 64 (field_at fs cs.content)) y q (λ bs _ q.
          option_and_then_some _ (entity_in cs fs (length bs)) y q (λ x g q.
          let r = cond_some (entity_formed x) (record { slot = k; entity = x; content = bs }) y q in
          let m = decimal_le 31 (field_at fs cs.slot) k d in
          rw (← r.1) (record { slot = omega arith; formed = r.0; len = entity-len (length bs) x g }))))
