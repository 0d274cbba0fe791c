use Rattle.journal_texts.specs.bureau_desk.proofs.Opened.{opened_taken}
use Rattle.load_command.proofs.Parts.{opened_so}
use Rattle.load_command.proofs.opening.open_loader.Goals as goal

pub into_parts-journal-requires : goal.into_parts-journal-requires
into_parts-journal-requires g c = opened_taken _ c.args.disk c.in-Ok.desk c.in-Ok.ensures.ok

pub returns : goal.returns
returns g c = record {
  opened = opened_so g.D.Disk.seen c.args.disk c.in-Ok.desk c.opened_with-from.result c.new.result c.into_parts-journal.result.0 c.into_parts-journal.result.1 c.in-Ok.ensures.ok c.opened_with-from.ensures c.new.ensures.journal c.new.ensures.books c.new.ensures.all
      c.into_parts-journal.ensures.disk c.into_parts-journal.ensures.history c.books-books.ensures.keeps c.new.ensures.begins;
  refused = tt;
}
