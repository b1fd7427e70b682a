-- The claims for the very functions that run: the rules' claims at the hub's table, and that the calls and audits which run
-- are the rules' own there.
-- Assumes nothing.
use Rattle.std.specs.Prelude.{◌≡◌, false, List, ℕ, ◌<◌, length, Ok}
use Rattle.std.specs.Result.{result_map_both}
use Rattle.rules.specs.declared.Call.{Call as Named}
use Rattle.rules.specs.declared.Call.TheVariants.{Put, Show, Send, Fetch, Add, Drop, Create, Release, Hand}
use Rattle.rules.specs.Table.{Slot}
use Rattle.rules.specs.Calls.{Call, show, moved, is_show, lent}
use Rattle.rules.specs.Refusals.{step}
use Rattle.rules.specs.Record.{answer, audit}
use Rattle.rules.specs.Claims.{RefusalsMoveNothing, RefusedAuditsMoveNothing, PartsFit, StaysAccepted, RecordsShow, PreviewsLeaveNothing, Secrecy, ItemsRefused, SecrecyOfPrograms, OthersAreHeard, SecrecyUndropped}
use Rattle.rules.specs.ByNumber.{ListByNumber, StruckByNumber, NeedByNumber, RecordBytes}
use Rattle.rules.specs.Effects.{CallsLeave, RightsNeeded}
use Rattle.rules.specs.Audits.{AuditByNumber, RunsAudited}
use Rattle.label.specs.Calls.{call_with}
use Rattle.label.specs.Words.{words}
use Rattle.groups.specs.Claims.{TablesChecked}
use Rattle.records.specs.Record.{fields_as, fields_given}
use Rattle.monitor.specs.declared.Table.{Table}
use Rattle.monitor.specs.Table.{hub}
use Rattle.monitor.specs.Calls.{reply, shown_part, shown_buffer, part_after, buffer_after, audited, audit_done}
use Rattle.monitor.specs.Finish.{audit_len}

-- What the contracts of the calls, of previews and of the audit speak of, by the rules. A call that is performed into a lent buffer,
-- or previewed, leaves it as the rules say of show, and as it was otherwise
pub record RunsAsRules : Type 0 where
  pub table : (t : Table) (c : Call words) → (reply t c).table ≡ step hub t c
  pub outcome : (t : Table) (c : Call words) → (reply t c).answer.outcome ≡ (answer hub t c).outcome
  pub entry : (t : Table) (c : Call words) → (reply t c).answer.entry ≡ (answer hub t c).entry
  pub part : (t : Table) (i : ℕ) (buf : List ℕ) → shown_part t i buf ≡ (answer hub t (show i buf)).part
  pub buffer : (t : Table) (i : ℕ) (buf : List ℕ) → shown_buffer t i buf ≡ (answer hub t (show i buf)).buffer
  pub filled : (t : Table) (c : Named) (bytes buf : List ℕ) → part_after t c bytes buf ≡ (answer hub t (call_with c bytes buf)).part
  pub shown : (t : Table) (i : ℕ) (bytes buf : List ℕ) → buffer_after t (Show i) bytes buf ≡ (answer hub t (show i buf)).buffer
  pub unused : (t : Table) (c : Named) (bytes buf : List ℕ) → is_show (call_with c bytes buf) ≡ false → buffer_after t c bytes buf ≡ buf
  pub audits : (t : Table) (i : ℕ) (list buf : List ℕ) → audited t i list buf ≡ audit hub t i list buf
  pub audit-len : (t : Table) (i : ℕ) (list buf : List ℕ) → audit_len t i list (length buf) ≡ length (audit hub t i list buf).part
  pub audit_outcome : (t : Table) (i : ℕ) (list buf : List ℕ) → result_map_both (λ _. tt) (λ r. r) (audit_done t i list buf) ≡ (audit hub t i list buf).outcome
  pub audit_filled : (t : Table) (i : ℕ) (list buf : List ℕ) (n : ℕ) → audit_done t i list buf ≡ Ok n → length (audit hub t i list buf).part ≡ n

-- The calls that `play`, `perform` and previews take as values, each by the kind and the fields that its record has; and put's bytes and show's buffer
pub record CallsNamed (bs buf : List ℕ) : Type 0 where
  pub put : (i : ℕ) → fields_given (call_with (Put i) bs buf) ≡ fields_as 1 i 255 255 255
  pub put_bytes : (i : ℕ) (a b : Slot words) → moved a b (call_with (Put i) bs buf) ≡ bs
  pub show : (i : ℕ) → fields_given (call_with (Show i) bs buf) ≡ fields_as 2 i 255 255 255
  pub show-buffer : (i : ℕ) → lent (call_with (Show i) bs buf) ≡ buf
  pub send : (i j : ℕ) → fields_given (call_with (Send i j) bs buf) ≡ fields_as 3 i j 255 255
  pub fetch : (i j : ℕ) → fields_given (call_with (Fetch i j) bs buf) ≡ fields_as 4 i j 255 255
  pub add : (i n p : ℕ) → fields_given (call_with (Add i n p) bs buf) ≡ fields_as 5 i 255 n p
  pub drop : (i n p : ℕ) → fields_given (call_with (Drop i n p) bs buf) ≡ fields_as 6 i 255 n p
  pub create : (i j n : ℕ) → fields_given (call_with (Create i j n) bs buf) ≡ fields_as 7 i j n 255
  pub release : (i j : ℕ) → fields_given (call_with (Release i j) bs buf) ≡ fields_as 8 i j 255 255
  pub hand : (i j n p : ℕ) → fields_given (call_with (Hand i j n p) bs buf) ≡ fields_as 9 i j n p

abbrev pub PerformsNamed : Type 0
PerformsNamed = (bs buf : List ℕ) → CallsNamed bs buf

-- the three demands, for every table of the hub and every tag; the second reading of each rule; and what a check of the groups answers
pub record AtHub : Type 0 where
  pub refusals : RefusalsMoveNothing hub
  pub refused_audits : RefusedAuditsMoveNothing hub
  pub parts : PartsFit hub
  pub accepted : StaysAccepted hub
  pub records : RecordsShow hub
  pub previews : PreviewsLeaveNothing hub
  pub secrecy : (p : ℕ) → p < 64 → Secrecy hub p
  pub items_refused : ItemsRefused hub
  pub secrecy_of_programs : (p : ℕ) → p < 64 → SecrecyOfPrograms hub p
  pub others_heard : (p : ℕ) → p < 64 → OthersAreHeard hub p
  pub secrecy_undropped : (p : ℕ) → p < 64 → SecrecyUndropped hub p
  pub list : ListByNumber hub
  pub effects : CallsLeave hub
  pub rights : RightsNeeded hub
  pub bytes : RecordBytes hub
  pub need : NeedByNumber hub
  pub struck : StruckByNumber hub
  pub audits : AuditByNumber hub
  pub runs_audited : RunsAudited hub
  pub checks : TablesChecked hub
