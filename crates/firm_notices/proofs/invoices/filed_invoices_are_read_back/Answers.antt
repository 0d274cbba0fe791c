use Rattle.firm_notices.proofs.OneReading.{filed_law}
use Rattle.firm_notices.proofs.invoices.filed_invoices_are_read_back.Goals as goal

pub returns : goal.returns
returns c = record { law = filed_law }
