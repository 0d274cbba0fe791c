use Rattle.statement_text.proofs.OneReading.{one_reading_law}
use Rattle.statement_text.proofs.Written.{written_law}
use Rattle.statement_text.proofs.each_statement_has_one_reading.Goals as goal

pub returns : goal.returns
returns c = record { reading = one_reading_law; written = written_law }
