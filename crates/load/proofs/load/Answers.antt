use Rattle.std.proofs.Common.{◌≡◌, ◌∙◌, sym, ap, ap₂, Ok, Err}
use borrow.Author.Tests.{lt-ltb, le-ltb}
use Rattle.rules.specs.declared.Refusal.TheVariants.{TextTooLong, BadLine, SlotTwice, EntityBreaksGroup}
use Rattle.textblocks.specs.Blocks.{bad_line}
use Rattle.load.specs.Tables.{Stored, stored, entities_on, entities_in, table_in}
use Rattle.load.specs.Load.{refuse_at, verdict_of, loaded_with, load_of}
use Rattle.load.proofs.load.Goals as goal

-- `load::load` meets its contract. Assumes nothing.

pub returns-then-text-gt65535 : goal.returns-then-text-gt65535
unfolding load_of verdict_of
returns-then-text-gt65535 c =
    let d = c.empty.ensures in
    (λ i. record { verdict = Err (record { refusal = TextTooLong; line = 0 }); table = d i }) ∙ rw (lt-ltb _ _ c.if-text-gt65535.true)

pub returns-in-Ok : goal.returns-in-Ok
unfolding load_of verdict_of entities_in table_in
returns-in-Ok c =
    let e : stored c.entities_in-marks.result c.entities_in-marks.new.table ≡ entities_in c.args.text.now = c.entities_in-marks.ensures ∙ ap (entities_on c.args.text.now) c.groups_in.ensures in
    let v = c.verdict.ensures ∙ ap (λ (s : Stored). refuse_at BadLine (bad_line c.args.text.now) (refuse_at SlotTwice s.twice (refuse_at EntityBreaksGroup s.breaks (Ok tt)))) e in
    ap₂ loaded_with (sym c.in-Ok.is ∙ v) (ap (λ (s : Stored). s.table) e) ∙ rw (le-ltb _ _ c.if-text-gt65535.false)

pub returns-in-Err : goal.returns-in-Err
unfolding load_of verdict_of entities_in table_in
returns-in-Err c =
    let e : stored c.entities_in-marks.result c.entities_in-marks.new.table ≡ entities_in c.args.text.now = c.entities_in-marks.ensures ∙ ap (entities_on c.args.text.now) c.groups_in.ensures in
    let v = c.verdict.ensures ∙ ap (λ (s : Stored). refuse_at BadLine (bad_line c.args.text.now) (refuse_at SlotTwice s.twice (refuse_at EntityBreaksGroup s.breaks (Ok tt)))) e in
    let d = c.empty-in-Err.ensures in
    (λ i. record { verdict = Err c.in-Err.fault; table = d i })
    ∙ ap₂ loaded_with (sym c.in-Err.is ∙ v) (ap (λ (s : Stored). s.table) e) ∙ rw (le-ltb _ _ c.if-text-gt65535.false)
