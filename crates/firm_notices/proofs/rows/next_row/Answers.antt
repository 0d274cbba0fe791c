use Rattle.csv.specs.Records.{fields_of}
use Rattle.firm_notices.proofs.Reading.{moves}
use Rattle.firm_notices.proofs.rows.next_row.Goals as goal
use Rattle.firm_notices.proofs.rows.next_row.Goals.{in-Ok, in-Err}

pub returns : goal.returns
returns c = elim c.match-read_byte_record.branch [
  | in-Ok w ↦ rw w.result-is (λ bytes rows at. moves c.args.reader.now c.read_byte_record.new.self (fields_of c.read_byte_record.new.row) w.in-Ok.found bytes rows at (w.in-Ok.ensures.reads at.untrimmed at.ready) (w.in-Ok.ensures.ready at.untrimmed))
  | in-Err w ↦ rw w.result-is tt
]
