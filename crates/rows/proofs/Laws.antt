-- What the readings of a line's fields come to.
-- Assumes nothing.
use Rattle.std.proofs.Common.{◌≢◌, ◌≡◌, sym, cond, List, ℕ, arith, length, Option, None, Some}
use borrow.Author.Tests.{eq-eqb, ne_eqb}
use Rattle.rules.specs.declared.Kind.{Kind}
use Rattle.label.specs.declared.Label.{Label}
use Rattle.text.specs.Lines.{fields_in}
use Rattle.text.specs.Split.{split_of, field_by}
use Rattle.text.proofs.Fields.{count_is, field_is}
use Rattle.values.specs.Options.{◌>>=◌}
use Rattle.values.specs.Values.{decimal_of, hex_set_of, data_of}
use Rattle.rows.specs.declared.EntityColumns.{EntityColumns}
use Rattle.rows.specs.Entities.{EntitySaid, kind_named, entity_formed, entity_in, entity_of}

-- the line whose fields say these
abbrev pub entity_by : Option ℕ → Option (List ℕ) → Option Kind → Option Label → Option Label → Option Label → Option Label → Option Label → Option Label → Option EntitySaid
entity_by slot content kind sec int sa sd ia id = do
  k ← slot
  bs ← content
  e ← (do
    t ← kind
    s ← sec
    i ← int
    a ← sa
    b ← sd
    c ← ia
    d ← id
    Some (record { kind = t; sec = s; int = i; sa = a; sd = b; ia = c; id = d; len = length bs }))
  cond (entity_formed e) (Some (record { slot = k; entity = e; content = bs })) None

module _ (cs : EntityColumns) (row : List ℕ) where
  pub row_short : (split_of row).count ≢ 9 → entity_of cs (fields_in row) ≡ None
  unfolding entity_of
  row_short n = let h : length (fields_in row) ≢ 9 = omega (arith, count_is row) in rw (ne_eqb _ _ h)

  -- the fields by where a row has them
  pub row_entity : (split_of row).count ≡ 9
      → entity_of cs (fields_in row)
      ≡ entity_by (decimal_of 31 (field_by row (split_of row).starts cs.slot)) (data_of 64 (field_by row (split_of row).starts cs.content)) (kind_named (field_by row (split_of row).starts cs.kind))
      (hex_set_of (field_by row (split_of row).starts cs.sec)) (hex_set_of (field_by row (split_of row).starts cs.int)) (hex_set_of (field_by row (split_of row).starts cs.sa))
      (hex_set_of (field_by row (split_of row).starts cs.sd)) (hex_set_of (field_by row (split_of row).starts cs.ia)) (hex_set_of (field_by row (split_of row).starts cs.id))
  unfolding entity_of entity_in
  row_entity n =
      let h : length (fields_in row) ≡ 9 = omega (arith, count_is row) in
      let f = field_is row (omega arith) in
      rw (eq-eqb _ _ h)
      (sym (λ i. entity_by (decimal_of 31 (f cs.slot i)) (data_of 64 (f cs.content i)) (kind_named (f cs.kind i)) (hex_set_of (f cs.sec i)) (hex_set_of (f cs.int i)) (hex_set_of (f cs.sa i)) (hex_set_of (f cs.sd i)) (hex_set_of (f cs.ia i)) (hex_set_of (f cs.id i))))
