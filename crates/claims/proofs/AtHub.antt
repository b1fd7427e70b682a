-- The claims at the hub's table.
-- Assumes nothing.
use Prim.Native.Nat.{ℕ}
use mathlib.Core.Path.{◌≡◌, refl}
use mathlib.Core.List.{List}
use lib.ListN.{length}
use Rattle.std.specs.Prelude.{Ok, Err}
use Rattle.std.specs.Result.{result_map_both}
use Rattle.rules.specs.Numbers.{Outcome}
use Rattle.rules.specs.Record.{audit}
use Rattle.rules.proofs.Refused.{refusals_move_nothing, refused_audits_move_nothing, parts_fit}
use Rattle.rules.proofs.Groups.{stays_accepted}
use Rattle.rules.proofs.Shows.{records_show}
use Rattle.rules.proofs.Previews.{previews_leave_nothing}
use Rattle.rules.proofs.Secrecy.{secrecy, secrecy_of_programs, others_are_heard, secrecy_undropped}
use Rattle.rules.proofs.ByNumber.{list_by_number, struck_by_number, need_by_number, items_refused, record-bytes}
use Rattle.rules.proofs.Effects.{calls_leave, rights_needed}
use Rattle.rules.proofs.Audits.{audit-by-number, runs_audited}
use Rattle.label.proofs.Words.{words_order, words_tag}
use Rattle.groups.proofs.Alike.{tables_checked}
use Rattle.monitor.specs.declared.Table.{Table}
use Rattle.monitor.specs.Table.{hub}
use Rattle.monitor.specs.Calls.{reply, shown_part, shown_buffer, buffer_after, audited, audit_done}
use Rattle.claims.specs.AtHub.{RunsAsRules, PerformsNamed, AtHub}
use Rattle.monitor.proofs.Form.{hub_laws}
use Rattle.monitor.proofs.AuditLaws.{len_room, done_allowed}

outcome_done : (t : Table) (i : ℕ) (list buf : List ℕ) → result_map_both (λ _. tt) (λ r. r) (audit_done t i list buf) ≡ (audit hub t i list buf).outcome
unfolding audit_done audited
outcome_done t i list buf = go (audit hub t i list buf).outcome
  where
    go : (v : Outcome) → result_map_both (λ _. tt) (λ r. r) (result_map_both (λ _. length (audit hub t i list buf).part) (λ r. r) v) ≡ v
    go (Ok _) = refl
    go (Err r) = refl

pub runs_as_rules : RunsAsRules
unfolding reply shown_part shown_buffer buffer_after audited
runs_as_rules = record {
  table = λ t c. refl;
  outcome = λ t c. refl;
  entry = λ t c. refl;
  part = λ t i buf. refl;
  buffer = λ t i buf. refl;
  filled = λ t c bytes buf. refl;
  shown = λ t i bytes buf. refl;
  unused = λ t c bytes buf e. rw e;
  audits = λ t i list buf. refl;
  audit-len = λ t i list buf. len_room t i list buf;
  audit_outcome = outcome_done;
  audit_filled = λ t i list buf n e. (done_allowed t i list buf n e).1;
}

pub at_hub : AtHub
at_hub = record {
  refusals = refusals_move_nothing hub;
  refused_audits = refused_audits_move_nothing hub;
  parts = parts_fit hub;
  accepted = stays_accepted words_order hub hub_laws;
  records = records_show words_order hub;
  previews = previews_leave_nothing hub;
  secrecy = λ p l. secrecy p (words_tag p l) words_order hub hub_laws;
  items_refused = items_refused hub;
  secrecy_of_programs = λ p l. secrecy_of_programs p (words_tag p l) words_order hub hub_laws;
  others_heard = λ p l. others_are_heard p (words_tag p l) words_order hub hub_laws;
  secrecy_undropped = λ p l. secrecy_undropped p (words_tag p l) words_order hub hub_laws;
  list = list_by_number hub;
  effects = calls_leave words_order hub hub_laws;
  rights = rights_needed hub;
  bytes = record-bytes hub;
  need = need_by_number hub;
  struck = struck_by_number hub;
  audits = audit-by-number hub;
  runs_audited = runs_audited words_order hub;
  checks = tables_checked words_order hub hub_laws;
}

pub performs_named : PerformsNamed
performs_named bs buf = record {
  put = λ i. refl;
  put_bytes = λ i a b. refl;
  show = λ i. refl;
  show-buffer = λ i. refl;
  send = λ i j. refl;
  fetch = λ i j. refl;
  add = λ i n p. refl;
  drop = λ i n p. refl;
  create = λ i j n. refl;
  release = λ i j. refl;
  hand = λ i j n p. refl;
}
