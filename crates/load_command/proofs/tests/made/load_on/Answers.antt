use Rattle.journal_texts.specs.bureau_desk.proofs.Opened.{opened_taken}
use Rattle.load_command.proofs.tests.made.load_on.Goals as goal

pub into_parts-journal-requires : goal.into_parts-journal-requires
into_parts-journal-requires c = opened_taken _ c.args.disk c.in-Ok.desk c.in-Ok.ensures.ok
