use Rattle.std.proofs.Common.{◌≡◌, ◌∙◌, refl, sym}
use Rattle.journal_texts.specs.printed_text.specs.declared.exit_status.ExitStatus.TheVariants as statuses
use Rattle.journal_texts.specs.printed_text.specs.Texts.{words_text}
use Rattle.journal_texts.proofs.Written.{no_other, wrote_for, wrote_line}
use Rattle.journal_texts.specs.Calls.{IsReadDue}
use Rattle.load_command.specs.Headline.{HasTakenInOrder}
use Rattle.load_command.specs.Inputs.{IsLoadCallDue, IsInputDue, asked, bad_words}
use Rattle.load_command.proofs.Words.{bytes_of, no_words, some_words}
use Rattle.load_command.proofs.top.answer_words.Goals as goal

-- ---- no words

pub returns-then-is_empty-clause-ran : goal.returns-then-is_empty-clause-ran
returns-then-is_empty-clause-ran g c =
    let Taken = HasTakenInOrder g.D.Disk.seen c.load_source.result.1 (g.K.Sink.held c.args.sink.now) (g.K.Sink.held c.load_source.new.sink) (g.W.Witness.shown c.args.witness.now) (g.W.Witness.shown c.load_source.new.witness) in
    wrote_for (IsReadDue (IsInputDue g.D.Disk.seen Taken c.args.disk c.load_source.result.1) (c.load_source.result.1 ≡ c.args.disk) (g.S.Source.left c.args.source.now) (g.S.Source.left c.load_source.new.source))
    (IsLoadCallDue g.S.Source.left g.D.Disk.seen Taken (bytes_of c.args.words.now) c.args.source.now c.load_source.new.source c.args.disk c.load_source.result.1)
    (g.K.Sink.held c.args.sink.now) (g.K.Sink.held c.load_source.new.sink) c.load_source.result.0
    (asked (no_words c.args.words.now (sym c.is_empty.ensures ∙ c.if-is_empty.true))) c.load_source.ensures.wrote

pub returns-then-is_empty-clause-read_fault : goal.returns-then-is_empty-clause-read_fault
returns-then-is_empty-clause-read_fault g c = c.load_source.ensures.read_fault

pub returns-then-is_empty-clause-write_fault : goal.returns-then-is_empty-clause-write_fault
returns-then-is_empty-clause-write_fault g c = c.load_source.ensures.write_fault

-- ---- some words

pub returns-else-is_empty-clause-ran : goal.returns-else-is_empty-clause-ran
returns-else-is_empty-clause-ran g c =
    wrote_line (IsLoadCallDue g.S.Source.left g.D.Disk.seen (HasTakenInOrder g.D.Disk.seen c.args.disk (g.K.Sink.held c.args.sink.now) (g.K.Sink.held c.tell_words.new.sink) (g.W.Witness.shown c.args.witness.now) (g.W.Witness.shown c.args.witness.now)) (bytes_of c.args.words.now) c.args.source.now c.args.source.now c.args.disk c.args.disk)
    (g.K.Sink.held c.args.sink.now) (g.K.Sink.held c.tell_words.new.sink) statuses.Words words_text c.tell_words.result
    (bad_words (some_words c.args.words.now (sym c.is_empty.ensures ∙ c.if-is_empty.false)) refl refl) c.tell_words.ensures.written

pub returns-else-is_empty-clause-read_fault : goal.returns-else-is_empty-clause-read_fault
returns-else-is_empty-clause-read_fault g c = λ source. absurd (no_other statuses.Source _ _ statuses.Words words_text _ (λ e. cc) (λ e. cc) c.tell_words.ensures.written source)

pub returns-else-is_empty-clause-write_fault : goal.returns-else-is_empty-clause-write_fault
returns-else-is_empty-clause-write_fault g c = c.tell_words.ensures.failed
