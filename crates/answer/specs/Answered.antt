-- Document 01, 'The record': the answer to a call, by its fields, what it saw, its outcome and its effect.
-- Assumes nothing.
use Rattle.std.specs.Prelude.{ℕ, Result, cond, min, eqb, is_ok}
use Rattle.rules.specs.Record.{need_by}
use Rattle.label.specs.declared.Label.{Label}
use Rattle.label.specs.Tags.{empty}
use Rattle.label.specs.Words.{words}
use Rattle.decide.specs.declared.Seen.{Seen}
use Rattle.records.specs.declared.Fields.{Fields}
use Rattle.records.specs.Numbers.{number_by}
use Rattle.records.specs.Record.{record_bytes}
use Rattle.answer.specs.declared.Answer.{Answer}
use Rattle.answer.specs.declared.Effect.{Effect}

module _ {E : Type 0} where
  -- the caller's S after a call
  abbrev pub sec_after : Fields → Seen → Result (Unit {0}) E → Effect → Label
  sec_after f s v x = cond (is_ok v) (cond (eqb f.caller x.slot) x.entity.sec s.caller.sec) s.caller.sec

  -- by the number of each refusal
  unfoldable pub answered_by : (E → ℕ) → Fields → Seen → Result (Unit {0}) E → Effect → Answer E
  answered_by n f s v x = record {
    outcome = v;
    entry = record_bytes f (number_by n v) (cond (is_ok v) (min x.moved 64) 0)
        (cond s.formed (need_by words s.caller.kind s.caller.sec (sec_after f s v x) s.other.sec) empty);
  }
