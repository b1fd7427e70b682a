-- The fields that a line of calls must give are those that the record repeats.
-- Assumes nothing.
use Rattle.std.proofs.Common.{refl, Bool, true, false, cond, None, Some}
use Rattle.rules.specs.declared.Call.TheVariants.{Put, Show, Send, Fetch, Add, Drop, Create, Release, Hand}
use Rattle.text.specs.Ascii.{ascii}
use Rattle.text.specs.Bytes.{eq_bytes}
use Rattle.text.specs.Lines.{fields_in, ahead}
use Rattle.callrows.specs.Calls.{call_named, UsesFields, UsedFields, NamedKinds}

pub used_fields : UsedFields
unfolding call_named
used_fields f i j n p bs =
    go (eq_bytes f (ascii "put")) (eq_bytes f (ascii "show")) (eq_bytes f (ascii "send")) (eq_bytes f (ascii "fetch")) (eq_bytes f (ascii "add")) (eq_bytes f (ascii "drop")) (eq_bytes f (ascii "create")) (eq_bytes f (ascii "release")) (eq_bytes f (ascii "hand"))
  where
    go : (t1 t2 t3 t4 t5 t6 t7 t8 t9 : Bool)
        → UsesFields i j n p bs
        (cond t1 (Some (Put i)) (cond t2 (Some (Show i)) (cond t3 (Some (Send i j)) (cond t4 (Some (Fetch i j)) (cond t5 (Some (Add i n p)) (cond t6 (Some (Drop i n p)) (cond t7 (Some (Create i j n)) (cond t8 (Some (Release i j)) (cond t9 (Some (Hand i j n p)) None)))))))))
    go true t2 t3 t4 t5 t6 t7 t8 t9 = (refl, refl, refl, refl, refl)
    go false true t3 t4 t5 t6 t7 t8 t9 = (refl, refl, refl, refl, refl)
    go false false true t4 t5 t6 t7 t8 t9 = (refl, refl, refl, refl, refl)
    go false false false true t5 t6 t7 t8 t9 = (refl, refl, refl, refl, refl)
    go false false false false true t6 t7 t8 t9 = (refl, refl, refl, refl, refl)
    go false false false false false true t7 t8 t9 = (refl, refl, refl, refl, refl)
    go false false false false false false true t8 t9 = (refl, refl, refl, refl, refl)
    go false false false false false false false true t9 = (refl, refl, refl, refl, refl)
    go false false false false false false false false true = (refl, refl, refl, refl, refl)
    go false false false false false false false false false = tt

pub named_kinds : NamedKinds
unfolding call_named eq_bytes fields_in ahead
named_kinds i j n p = refl
