use Rattle.firm_notices.proofs.OneReading.{one_reading_law}
use Rattle.firm_notices.proofs.invoices.invoices_have_one_reading.Goals as goal

pub returns : goal.returns
returns c = record { law = one_reading_law }
