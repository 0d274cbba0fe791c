use Rattle.bureau_reports.specs.journal_texts.proofs.Openings.{no_fault}
use Rattle.bureau_commands.proofs.laws.sound_journals_have_no_fault.Goals as goal

pub returns : goal.returns
returns g c = λ disk has. record {
  no_opening = λ un. un.none has.records has.found has.sound;
  no_audit = λ status fault. no_fault (g.D.Disk.seen disk) has fault.cause fault.fault;
}
