use Rattle.std.proofs.Common.{take}
use Rattle.firm_notices.specs.Tables.{HoldsText, csv_text}
use Rattle.firm_notices.specs.Notices.{notice_rows}
use Rattle.firm_notices.proofs.open_claims.notices.Given as goal

abbrev pub invariant-loop-claim : goal.invariant-loop-claim
invariant-loop-claim l = record { held : HoldsText l.table (csv_text (notice_rows l.today (take l.claim-index l.claims))) }
