-- The bytes that are counted of a record; and what an audit shows is whole records.
-- Assumes nothing.
use Rattle.std.proofs.Common.{refl}
use Rattle.visible.specs.Shown.{shown_in}
use Rattle.visible.proofs.Shown.{shown_whole}
use Rattle.tally.specs.Tally.{no_records}
use Rattle.tally.specs.Claims.{BytesCounted, AuditsTallied}
use Rattle.tally.proofs.Pieces.{whole}

pub bytes_counted : BytesCounted
bytes_counted f number moved need = (refl, refl, refl)

pub audits_tallied : AuditsTallied
audits_tallied l list = whole no_records (shown_in l list) (shown_whole l list)
