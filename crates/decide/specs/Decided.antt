-- Document 01, 'When a call is turned down': the rules' refusals, on what a call sees of the table.
-- Assumes nothing.
use Rattle.std.specs.Prelude.{ℕ, Bool, cond, not, List, replicate, Ok, Err}
use Rattle.rules.specs.declared.Refusal.{Refusal}
use Rattle.rules.specs.declared.Refusal.TheVariants.{NoProgram, Formless}
use Rattle.rules.specs.Numbers.{Outcome}
use Rattle.rules.specs.Table.{is_program, Slot}
use Rattle.rules.specs.Calls.{Call}
use Rattle.rules.specs.Refusals.{Refusals, allow, ◌if◌else◌, first, refusals}
use Rattle.rules.specs.Record.{audit_refusals}
use Rattle.label.specs.declared.Group.{Group}
use Rattle.label.specs.Words.{words}
use Rattle.entity.specs.declared.Entity.{Entity}
use Rattle.entity.specs.Entity.{rights_of}
use Rattle.decide.specs.declared.Seen.{Seen}

-- the slot of an entity, as far as a decision sees it: of its content only the length
abbrev pub measured : Entity → Slot words
measured e = record { kind = e.kind; sec = e.sec; int = e.int; rights = rights_of e; content = replicate e.len 0 }

-- a call's refusals, 99 first, where the groups are gs; of the calls only hand asks about them
abbrev pub seen_refusals : Seen → List Group → Call words → Refusals
seen_refusals s gs c = Formless if not s.formed else refusals gs (measured s.caller) (measured s.other) c

abbrev pub decided : Seen → List Group → Call words → Outcome
decided s gs c = first (seen_refusals s gs c)

-- 99 and 1, which all calls and audits have in common
abbrev pub caller_decided : Seen → Outcome
caller_decided s = first (Formless if not s.formed else NoProgram if not (is_program s.caller.kind) else allow)

-- an audit's refusals
abbrev pub audit_decided : Seen → Bool → ℕ → ℕ → Outcome
audit_decided s whole room size = first (audit_refusals s.formed (is_program s.caller.kind) whole room size)

-- turned down by one refusal, where it applies
abbrev pub refused_if : Bool → Refusal → Outcome
refused_if b n = cond b (Err n) (Ok tt)
