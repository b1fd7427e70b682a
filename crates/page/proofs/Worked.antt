-- Pages, by computing.
-- Assumes nothing.
use Rattle.std.proofs.Common.{refl}
use Rattle.rules.specs.Record.{records_in}
use Rattle.print.specs.Lines.{digits_text, decimal_text, refused_audit}
use Rattle.tally.specs.Tally.{counted_all, with_records}
use Rattle.page.specs.Page.{row_line, row_lines, page_of}
use Rattle.page.specs.Claims.{PagesWorked}

pub pages_worked : PagesWorked
unfolding records_in digits_text decimal_text refused_audit counted_all with_records row_line row_lines page_of
pages_worked = record { none = refl; round = refl; edge = refl; part = refl }
