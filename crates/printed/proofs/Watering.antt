-- The round from its text: reading is computed; the played calls are those of the worked round, whose table holds the same.
-- Assumes nothing.
use mathlib.Core.Path.{◌≡◌, refl, ap, sym, ◌∙◌}
use mathlib.Core.Bool.{Bool, true, false, cond}
use mathlib.Core.List.{List, [], ◌∷◌, ◌++◌}
use Prim.Native.Nat.{ℕ, ◌<◌}
use native.Mathlib.Omega.{arith}
use lib.Dec.{ltb, eqb}
use borrow.Author.Tests.{ltb-true, eqb-true}
use Rattle.rules.specs.Table.{Slot, free, plain, slot_formed}
use Rattle.rules.specs.Refusals.{step}
use Rattle.rules.specs.Runs.{trace, calls_in, run_of, answer_to}
use Rattle.rules.specs.SameSlots.{HoldSame}
use Rattle.rules.proofs.Facts.{and_left, either}
use Rattle.rules.proofs.Plain.{plain_laws}
use Rattle.rules.proofs.Previews.{alone_gives}
use Rattle.rules.proofs.SameSlots.{answers_by_slots}
use Rattle.label.specs.Tags.{label_of, digit_in, with_digit}
use Rattle.label.specs.Words.{words}
use Rattle.label.proofs.Words.{words_order}
use Rattle.entity.specs.declared.Entity.{Entity}
use Rattle.entity.specs.Entity.{slot_of}
use Rattle.block.specs.Block.{block_at}
use Rattle.cases.specs.Rounds.{events, told, round_table, round}
use Rattle.cases.proofs.Sure.{round_told}
use Rattle.cases.proofs.Cases.{computed, round_holds}
use Rattle.monitor.specs.declared.Table.{Table}
use Rattle.monitor.specs.Table.{formed, entity_at, with_slot, empty_table, empty_with, hub}
use Rattle.monitor.proofs.Form.{hub_laws}
use Rattle.monitor.proofs.Empty.{empty-entity, empty_form}
use Rattle.text.specs.Bytes.{eq_bytes, index_of}
use Rattle.values.specs.Values.{digit_of, decimal_from, decimal_of, set_from, hex_set_of, pairs_from, data_of}
use Rattle.text.specs.Lines.{before, lines_of, line_end, line_at, next_line, ahead, fields_in, has_names, names_once, column_of}
use Rattle.callrows.specs.Calls.{call_columns, call_named, data_if, show_buffer, call_of}
use Rattle.grouprows.specs.Groups.{group_columns, group_of}
use Rattle.rows.specs.Entities.{kind_named, entity_formed, entity_columns, entity_in, entity_of}
use Rattle.std.specs.Prelude.{Ok}
use Rattle.textblocks.specs.Blocks.{bytes_past, lines_past, start, past_empty, groups_at, calls_at, group_columns_in, rows_bad, block_bad, entities_bad, groups_bad, calls_bad, bad_line}
use Rattle.textblocks.specs.CallsIn.{calls_from, call_columns_in, calls_of}
use Rattle.load.specs.Tables.{groups_from, breaks_at, with_entity, fill, groups_in, entities_on, entities_in, table_in}
use Rattle.load.specs.Load.{refuse_at, verdict_of, load_of}
use Rattle.print.specs.Lines.{digit_text, hex_text, data_text, call_line}
use Rattle.round.specs.Round.{names_line, answer_line, output_of}
use Rattle.round.proofs.Round.{output_runs}
use Rattle.printed.specs.Watering.{watering, watering_prints, WateringPrinted}

-- what a text is read with
unfoldable pub reading : ℕ
unfolding computed eq_bytes index_of digit_of digit_in with_digit decimal_from decimal_of set_from hex_set_of pairs_from data_of before lines_of line_end line_at next_line ahead fields_in has_names names_once column_of call_columns call_named data_if show_buffer call_of group_columns group_of kind_named entity_formed entity_columns entity_in entity_of bytes_past lines_past start past_empty groups_at calls_at group_columns_in rows_bad block_bad entities_bad groups_bad calls_bad bad_line calls_from call_columns_in calls_of groups_from empty_with breaks_at with_entity fill groups_in entities_on entities_in table_in refuse_at verdict_of entity_at with_slot empty_table
reading = 0

accepted : verdict_of watering ≡ Ok tt
unfolding reading
accepted = refl

calls : calls_of watering ≡ calls_in (events round)
unfolding reading
calls = refl

-- the slots of the round's table, and the table without a slot written
s0 : Slot words
s0 = round_table.slots 0

s1 : Slot words
s1 = round_table.slots 1

s2 : Slot words
s2 = round_table.slots 2

t0 : Table
t0 = empty_with (record { tags = label_of 3; most = 1 } ∷ [])

t1 : Table
t1 = hub.store t0 0 s0

t2 : Table
t2 = hub.store t1 1 s1

t3 : Table
t3 = hub.store t2 2 s2

stored : table_in watering ≡ t3
unfolding reading s0 s1 s2 t0 t1 t2 t3
stored = refl

loaded : (load_of watering).table ≡ t3
unfolding load_of
loaded = rw accepted stored

slot-formed : (k : ℕ) → k < 32 → slot_formed (round_table.slots k) ≡ true
slot-formed k l = (plain_laws words).slot-formed round_table (and_left ((plain words).formed round_table) _ round_holds.accepted) k l

f0 : formed t0 ≡ true
unfolding t0
f0 = empty_form _ (omega arith) refl

f1 : formed t1 ≡ true
unfolding t1 s0
f1 = hub_laws.store_formed t0 0 s0 f0 (omega arith) (slot-formed 0 (omega arith))

f2 : formed t2 ≡ true
unfolding t2 s1
f2 = hub_laws.store_formed t1 1 s1 f1 (omega arith) (slot-formed 1 (omega arith))

f3 : formed t3 ≡ true
unfolding t3 s2
f3 = hub_laws.store_formed t2 2 s2 f2 (omega arith) (slot-formed 2 (omega arith))

three : (i : ℕ) → cond (eqb i 2) s2 (cond (eqb i 1) s1 (cond (eqb i 0) s0 free)) ≡ round_table.slots i
unfolding s0 s1 s2
three i = go (eqb i 0) refl (eqb i 1) refl (eqb i 2) refl
  where
    go : (x : Bool) → eqb i 0 ≡ x → (y : Bool) → eqb i 1 ≡ y → (z : Bool) → eqb i 2 ≡ z → cond (eqb i 2) s2 (cond (eqb i 1) s1 (cond (eqb i 0) s0 free)) ≡ round_table.slots i
    go true p y q z r = rw (eqb-true i 0 p)
    go false p true q z r = rw (eqb-true i 1 q)
    go false p false q true r = rw (eqb-true i 2 r)
    go false p false q false r = rw (p, q, r)

slots : (i : ℕ) → i < 32 → hub.slot t3 i ≡ round_table.slots i
unfolding t0 t1 t2 t3 s0 s1 s2 empty_with
slots i l =
    hub_laws.store_slot t2 2 s2 f2 (omega arith) (slot-formed 2 (omega arith)) i l
    ∙ ap (cond (eqb i 2) s2) (hub_laws.store_slot t1 1 s1 f1 (omega arith) (slot-formed 1 (omega arith)) i l
    ∙ ap (cond (eqb i 1) s1) (hub_laws.store_slot t0 0 s0 f0 (omega arith) (slot-formed 0 (omega arith)) i l ∙ ap (cond (eqb i 0) s0) (empty i l)))
    ∙ three i
  where
    empty : (i : ℕ) → i < 32 → hub.slot t0 i ≡ free
    empty i l = ap (λ (e : Entity). slot_of e (block_at empty_table.content i)) (empty-entity i l)

held : HoldSame hub (plain words) t3 round_table
unfolding t0 t1 t2 t3 s0 s1 s2 with_slot empty_with
held = record {
  left = f3;
  right = and_left ((plain words).formed round_table) _ round_holds.accepted;
  slots = λ i. either (ltb i 32) (λ e. rw e (slots i (ltb-true i 32 e))) (λ e. rw e);
  groups = refl;
}

-- ---- what is printed

lines : trace (step hub) answer_line t3 (calls_in (events round)) ≡ told (λ l. call_line l.entry l.part) round
lines =
    sym (alone_gives hub (λ u e. call_line (answer_to hub u e).entry (answer_to hub u e).part) t3 (calls_in (events round)))
    ∙ (answers_by_slots words_order hub (plain words) hub_laws (plain_laws words) t3 round_table (events round) held).answers ℕ (λ e a. call_line a.entry a.part)
    ∙ round_told (plain words) (plain_laws words) (λ e bs. call_line e bs) round_table round round_holds.plays

spelt : names_line ++ told (λ l. call_line l.entry l.part) round ≡ watering_prints
unfolding digit_text hex_text data_text call_line
spelt = refl

output : output_of watering ≡ watering_prints
output =
    output_runs watering ∙ rw accepted
    (ap (λ (xs : List ℕ). names_line ++ xs) ((let t = loaded in let c = calls in λ z. trace (step hub) answer_line (t z) (c z)) ∙ lines) ∙ spelt)

pub watering_printed : WateringPrinted
watering_printed = record { verdict = accepted; table = rw loaded held; calls = ap run_of calls; output = output }
