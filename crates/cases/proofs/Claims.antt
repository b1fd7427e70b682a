-- The claims at 64-bit labels, for bare tables: no law is left to assume.
-- Assumes nothing.
use Prim.Native.Nat.{ℕ, ◌<◌}
use Rattle.rules.specs.Table.{plain}
use Rattle.rules.specs.Claims.{RefusalsMoveNothing, RefusedAuditsMoveNothing, PartsFit, StaysAccepted, RecordsShow, Secrecy, SecrecyOfPrograms, SecrecyUndropped}
use Rattle.rules.specs.Effects.{CallsLeave}
use Rattle.rules.specs.Audits.{RunsAudited}
use Rattle.rules.proofs.Refused.{refusals_move_nothing, refused_audits_move_nothing, parts_fit}
use Rattle.rules.proofs.Groups.{stays_accepted}
use Rattle.rules.proofs.Shows.{records_show}
use Rattle.rules.proofs.Effects.{calls_leave}
use Rattle.rules.proofs.Audits.{runs_audited}
use Rattle.rules.proofs.Secrecy.{secrecy, secrecy_of_programs, secrecy_undropped}
use Rattle.rules.proofs.Plain.{plain_laws}
use Rattle.label.specs.Words.{words}
use Rattle.label.proofs.Words.{words_order, words_tag}

pub words-refusals : RefusalsMoveNothing (plain words)
words-refusals = refusals_move_nothing (plain words)

pub words-audits : RefusedAuditsMoveNothing (plain words)
words-audits = refused_audits_move_nothing (plain words)

pub words-parts : PartsFit (plain words)
words-parts = parts_fit (plain words)

pub words-accepted : StaysAccepted (plain words)
words-accepted = stays_accepted words_order (plain words) (plain_laws words)

pub words-show : RecordsShow (plain words)
words-show = records_show words_order (plain words)

pub words-secrecy : (p : ℕ) → p < 64 → Secrecy (plain words) p
words-secrecy p l = secrecy p (words_tag p l) words_order (plain words) (plain_laws words)

pub words_programs : (p : ℕ) → p < 64 → SecrecyOfPrograms (plain words) p
words_programs p l = secrecy_of_programs p (words_tag p l) words_order (plain words) (plain_laws words)

pub words_undropped : (p : ℕ) → p < 64 → SecrecyUndropped (plain words) p
words_undropped p l = secrecy_undropped p (words_tag p l) words_order (plain words) (plain_laws words)

pub words_leave : CallsLeave (plain words)
words_leave = calls_leave words_order (plain words) (plain_laws words)

pub words-audited : RunsAudited (plain words)
words-audited = runs_audited words_order (plain words)
