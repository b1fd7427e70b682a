-- Calls on structs are the rules' own.
-- Assumes nothing.
use Prim.Native.Nat.{ℕ}
use mathlib.Core.Path.{◌≡◌, refl, sym, ap, ◌∙◌}
use mathlib.Core.Bool.{true, false}
use mathlib.Core.List.{List, [], ◌∷◌, ◌++◌}
use Rattle.rules.specs.Numbers.{Outcome}
use Rattle.std.specs.Prelude.{Ok, Err}
use Rattle.rules.specs.declared.Refusal.{Refusal}
use Rattle.rules.specs.Table.{accepted}
use Rattle.rules.specs.Calls.{Call}
use Rattle.rules.specs.Refusals.{number_of, on_allowed, verdict, step}
use Rattle.rules.specs.Record.{answer}
use Rattle.rules.specs.Runs.{final, trace, Event, call, preview, call_of, gained, next, records}
use Rattle.label.specs.Words.{words}
use Rattle.monitor.specs.declared.Table.{Table}
use Rattle.monitor.specs.Table.{formed, hub}
use Rattle.monitor.specs.Calls.{reply, audited}
use Rattle.rules.proofs.Refused.{refusals_move_nothing}
use Rattle.layout.specs.declared.HubTable.{HubTable}
use Rattle.layout.specs.Struct.{kinds_known, table_of, struct_of}
use Rattle.layout.proofs.Claims.{struct_stands}
use Rattle.load.specs.Load.{load_of}
use Rattle.load.proofs.Accepted.{loads_accepted}
use Rattle.hubffi_c.specs.Answers.{answered, reply_to, audit_answer, check_answer, loaded_as}
use Rattle.hubffi_c.specs.Claims.{kept_after, CallsAsRules}
use Rattle.rules.specs.declared.Refusal.TheVariants.{Formless}

struct-step : (s : HubTable) (c : Call words) (v : Outcome) → verdict hub (table_of s) c ≡ v
    → table_of (on_allowed v (struct_of (step hub (table_of s) c)) s) ≡ step hub (table_of s) c
struct-step s c (Ok _) e = struct_stands.table_back (step hub (table_of s) c)
struct-step s c (Err n) e = sym (refusals_move_nothing hub (table_of s) c n e).table

call-table : (s : HubTable) (c : Call words) → table_of (reply_to s c).table ≡ step hub (table_of s) c
unfolding answered reply
call-table s c = struct-step s c (verdict hub (table_of s) c) refl

refused : (s : HubTable) (c : Call words) (n : Refusal) → verdict hub (table_of s) c ≡ Err n → (reply_to s c).table ≡ s
unfolding answered reply
refused s c n e = ap (λ (v : Outcome). on_allowed v (struct_of (step hub (table_of s) c)) s) e

call-runs : (s : HubTable) (es : List (Event words)) → table_of (final kept_after s es) ≡ final (next hub) (table_of s) es
call-runs s [] = refl
call-runs s (call c ∷ es) = call-runs (reply_to s c).table es ∙ ap (λ (t : Table). final (next hub) t es) (call-table s c)
call-runs s (preview c ∷ es) = call-runs s es

call-records : (s : HubTable) (es : List (Event words)) → trace kept_after (λ u e. gained e (reply_to u (call_of e)).entry) s es ≡ records hub (table_of s) es
unfolding answered reply
call-records s [] = refl
call-records s (call c ∷ es) = ap (λ (bs : List ℕ). (answer hub (table_of s) c).entry ++ bs)
    (call-records (reply_to s c).table es ∙ ap (λ (t : Table). records hub t es) (call-table s c))
call-records s (preview c ∷ es) = call-records s es

by_99 : (s : HubTable) (c : Call words) → kinds_known s.slots ≡ false → verdict hub (table_of s) c ≡ Err Formless
by_99 s c h = rw (struct_stands.unknown s h)

unknown-call : (s : HubTable) (c : Call words) → kinds_known s.slots ≡ false → ((reply_to s c).table ≡ s) × ((reply_to s c).number ≡ 99)
unfolding answered reply
unknown-call s c h = (refused s c Formless (by_99 s c h), ap number_of (by_99 s c h))

unknown_audit : (s : HubTable) (i : ℕ) (list buf : List ℕ) → kinds_known s.slots ≡ false → (audit_answer s i list buf).number ≡ 99
unfolding audit_answer audited
unknown_audit s i list buf h = rw (struct_stands.unknown s h)

formless_check : (s : HubTable) (l : ℕ) → formed (table_of s) ≡ false → check_answer s l ≡ record { number = 99; keeps = false; counted = 0 }
unfolding check_answer
formless_check s l h = rw h

loaded : (text : List ℕ) → accepted hub (table_of (loaded_as (load_of text)).table) ≡ true
unfolding loaded_as
loaded text = ap (accepted hub) (struct_stands.table_back (load_of text).table) ∙ loads_accepted text

pub calls_as_rules : CallsAsRules
unfolding answered reply audit_answer audited check_answer loaded_as load_of
calls_as_rules = record {
  table = call-table;
  number = λ s c. refl;
  entry = λ s c. refl;
  refused = refused;
  runs = call-runs;
  records = call-records;
  unknown = unknown-call;
  unknown_audit = unknown_audit;
  audit_number = λ s i list buf. refl;
  audit-len = λ s i list buf. refl;
  check = λ s l h. rw h;
  check_formless = formless_check;
  unknown_check = λ s l h. formless_check s l (struct_stands.unknown s h);
  loads = λ text. struct_stands.table_back (load_of text).table;
  loaded_number = λ text. refl;
  loaded_line = λ text. refl;
  loaded = loaded;
}
