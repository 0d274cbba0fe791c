use Rattle.request_text.proofs.ReadBack.{read_back_law}
use Rattle.request_text.proofs.written_requests_are_read_back.Goals as goal

pub returns : goal.returns
returns c = record { law = read_back_law }
