use Rattle.std.proofs.Common.{sym, ◌∙◌}
use Rattle.monitor.proofs.AuditLaws.{done_allowed, done_refused}
use Rattle.layout.specs.Struct.{table_of}
use Rattle.hubffi_c.specs.Answers.{audit_answer}
use Rattle.hubffi_c.proofs.hub_audit.Goals as goal

-- `hubffi_c::hub_audit` meets its contract. Assumes nothing.

pub returns-in-Ok : goal.returns-in-Ok
unfolding audit_answer
returns-in-Ok c =
    let a = c.args in
    let e = rw c.table_of-table.ensures at (sym c.audit_into.ensures.value ∙ c.in-Ok.is) in
    let d = done_allowed (table_of a.t) a.caller a.list.now a.out.now c.in-Ok.n e in
    record { value = simp (d.0, d.1); out_after = rw (← c.table_of-table.ensures) c.audit_into.ensures.out_after }

pub returns-in-Err : goal.returns-in-Err
unfolding audit_answer
returns-in-Err c =
    let a = c.args in
    let e = rw c.table_of-table.ensures at (sym c.audit_into.ensures.value ∙ c.in-Err.is) in
    let d = done_refused (table_of a.t) a.caller a.list.now a.out.now c.in-Err.refusal e in
    record { value = simp (c.number.ensures, d.0, d.1); out_after = rw (← c.table_of-table.ensures) c.audit_into.ensures.out_after }
