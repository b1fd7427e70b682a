-- Document 02, change 1: what hubtally answers to what hubaudit writes.
-- Assumes nothing.
use Rattle.std.specs.Prelude.{◌≡◌, List, ℕ, Err}
use Rattle.rules.specs.declared.Refusal.{Refusal}
use Rattle.rules.specs.Numbers.{number}
use Rattle.load.specs.declared.Fault.{Fault}
use Rattle.load.specs.Load.{verdict_of}
use Rattle.print.specs.Lines.{refused_line, refused_audit}
use Rattle.page.specs.Page.{page_output}

-- The line of a refused text, and that of a refused audit, are refused by 12 in the place of records, and give no page
pub record RefusalsRefused : Type 0 where
  pub text : (text : List ℕ) (f : Fault Refusal) → verdict_of text ≡ Err f → page_output (refused_line (number f.refusal) f.line) ≡ refused_audit 12
  pub audit : (e : Refusal) → page_output (refused_audit (number e)) ≡ refused_audit 12
