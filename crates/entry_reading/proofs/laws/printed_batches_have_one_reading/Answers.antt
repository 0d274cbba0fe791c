use Rattle.entry_reading.proofs.Added.{added_law}
use Rattle.entry_reading.proofs.Texts.{text_law}
use Rattle.entry_reading.proofs.laws.printed_batches_have_one_reading.Goals as goal

pub returns-clause-texts : goal.returns-clause-texts
returns-clause-texts c = text_law

pub returns-clause-added : goal.returns-clause-added
returns-clause-added c = added_law
