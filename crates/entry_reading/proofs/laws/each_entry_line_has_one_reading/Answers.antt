use Rattle.entry_reading.proofs.Lines.{line_law}
use Rattle.entry_reading.proofs.laws.each_entry_line_has_one_reading.Goals as goal

pub returns : goal.returns
returns c = line_law
