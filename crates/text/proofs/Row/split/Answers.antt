use Rattle.std.proofs.Common.{rules, ◌≡◌, ◌<◌, ◌∙◌, sym, refl, length, arith}
use borrow.Author.Tests.{tests}
use lib.ListN.{get_or, length-set, length-append}
use Rattle.std.proofs.lemmas.Iterator.Consumers.{YieldsList-at, YieldsList-turn, YieldsList-end}
use Rattle.text.specs.Lines.{fields_in}
use Rattle.text.specs.Split.{no_starts, split_of}
use Rattle.text.proofs.Fields.{room_of, gives_fields, turn_room, turn_more, turn_full, turn_end}
use Rattle.text.proofs.Row.split.Goals as goal

pub loop-field-init : goal.loop-field-init
unfolding split_of no_starts
loop-field-init c = record { so_far = refl; below = omega arith; places = refl; left = omega (arith, room_of c.args.bytes.now); same = refl }

pub overflow_add-next-in-loop-field : goal.overflow_add-next-in-loop-field
overflow_add-next-in-loop-field c =
    let r = c.args.bytes.now in let l = c.loop-field in let f = c.in-Some.field in
    let t = YieldsList-turn (YieldsList-at c.into_iter-field-iterator.ensures.into_iter_gives (gives_fields _ r c.split-field-items.ensures.rest c.split-field-items.ensures.done c.split-field-items.ensures.closure (λ x b q k. search (rules, tests)))) l.yielded l.field-iterator l.yielded_by c.next.result c.next.new.self f c.in-Some.is c.next.ensures.steps in
    let h : l.count < length (fields_in r) = omega (arith, l.invariant.so_far, t.0) in
    let e : f.now ≡ get_or (fields_in r) l.count f.now = rw l.invariant.so_far t.1 in
    let k = turn_room l.starts l.count l.next f.now (fields_in r) h e in
    omega (arith, k, l.invariant.left)

pub loop-field-preserved-then-count-lt16 : goal.loop-field-preserved-then-count-lt16
loop-field-preserved-then-count-lt16 c =
    let r = c.args.bytes.now in let l = c.loop-field in let f = c.in-Some.field in
    let t = YieldsList-turn (YieldsList-at c.into_iter-field-iterator.ensures.into_iter_gives (gives_fields _ r c.split-field-items.ensures.rest c.split-field-items.ensures.done c.split-field-items.ensures.closure (λ x b q k. search (rules, tests)))) l.yielded l.field-iterator l.yielded_by c.next.result c.next.new.self f c.in-Some.is c.next.ensures.steps in
    let h : l.count < length (fields_in r) = omega (arith, l.invariant.so_far, t.0) in
    let e : f.now ≡ get_or (fields_in r) l.count f.now = rw l.invariant.so_far t.1 in
    let k = turn_room l.starts l.count l.next f.now (fields_in r) h e in
    record {
      so_far = simp length-append (omega (arith, l.invariant.so_far));
      below = omega arith;
      places = length-set l.starts _ _ ∙ l.invariant.places;
      left = omega (arith, k, l.invariant.left);
      same = sym (turn_more l.starts l.count l.next f.now (fields_in r) h e c.if-count-lt16.true) ∙ l.invariant.same;
    }

pub loop-field-preserved : goal.loop-field-preserved
loop-field-preserved c =
    let r = c.args.bytes.now in let l = c.loop-field in let f = c.in-Some.field in
    let t = YieldsList-turn (YieldsList-at c.into_iter-field-iterator.ensures.into_iter_gives (gives_fields _ r c.split-field-items.ensures.rest c.split-field-items.ensures.done c.split-field-items.ensures.closure (λ x b q k. search (rules, tests)))) l.yielded l.field-iterator l.yielded_by c.next.result c.next.new.self f c.in-Some.is c.next.ensures.steps in
    let h : l.count < length (fields_in r) = omega (arith, l.invariant.so_far, t.0) in
    let e : f.now ≡ get_or (fields_in r) l.count f.now = rw l.invariant.so_far t.1 in
    let k = turn_room l.starts l.count l.next f.now (fields_in r) h e in
    record {
      so_far = simp length-append (omega (arith, l.invariant.so_far));
      below = omega arith;
      places = l.invariant.places;
      left = omega (arith, k, l.invariant.left);
      same = sym (turn_full l.starts l.count l.next f.now (fields_in r) h e c.if-count-lt16.false) ∙ l.invariant.same;
    }

pub returns-clause-fields : goal.returns-clause-fields
returns-clause-fields c =
    let r = c.args.bytes.now in let l = c.loop-field in
    let t = YieldsList-end (YieldsList-at c.into_iter-field-iterator.ensures.into_iter_gives (gives_fields _ r c.split-field-items.ensures.rest c.split-field-items.ensures.done c.split-field-items.ensures.closure (λ x b q k. search (rules, tests)))) l.yielded l.field-iterator l.yielded_by c.next.result c.next.new.self c.in-None.is c.next.ensures.steps in
    sym (turn_end l.starts l.count l.next (fields_in r) (omega (arith, l.invariant.so_far, t.1))) ∙ l.invariant.same
