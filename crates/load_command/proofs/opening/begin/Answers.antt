use Rattle.std.specs.Prelude.{OnErr, OnOk, drop, take}
use Rattle.std.specs.Io.KnownBytes.{Appends}
use Rattle.std.proofs.Common.{◌≡◌, ◌∙◌, ◌≤◌, [], ◌∷◌, ◌++◌, length, ap, refl, subst, sym, arith}
use Rattle.bureau_edge.specs.Streams.{AppendsPart}
use Rattle.journal_texts.specs.printed_text.specs.declared.exit_status.ExitStatus.TheVariants as statuses
use Rattle.journal_texts.specs.printed_text.specs.Texts.{memory_text}
use Rattle.journal_texts.specs.printed_text.specs.Printing.{printed_of}
use Rattle.journal_texts.specs.printed_text.proofs.Statuses.{sink_told}
use Rattle.journal_texts.specs.DiskTexts.{opening_status, opening_text}
use Rattle.journal_texts.proofs.Openings.{tellable}
use Rattle.journal_texts.proofs.Written.{wrote_line}
use Rattle.load_command.specs.Headline.{HasTakenInOrder}
use Rattle.load_command.specs.Due.{IsLoadNotBegunDue, WroteInOrder, no_output_memory, not_opened}
use Rattle.load_command.proofs.Loaded.{from_few, none_published, wrote_begun}
use Rattle.group_runs.proofs.Answered.{at_err, at_ok}
use Rattle.journal_texts.specs.bureau_desk.specs.claim_history.specs.PoolRounds.{cuts_after}
use Rattle.journal_texts.specs.bureau_desk.specs.limited_book.specs.claim_book.specs.Pools.{BooksView}
use Rattle.load_command.proofs.opening.begin.Goals as goal

-- ---- there was no memory for the text

pub returns-in_default-clause-wrote : goal.returns-in_default-clause-wrote
returns-in_default-clause-wrote g c =
    wrote_line (IsLoadNotBegunDue g.D.Disk.seen (HasTakenInOrder g.D.Disk.seen c.args.disk (g.K.Sink.held c.args.sink.now) (g.K.Sink.held c.tell_no_memory.new.sink) (g.W.Witness.shown c.args.witness.now) (g.W.Witness.shown c.args.witness.now)) c.args.disk c.args.disk) _ _ statuses.Memory memory_text _
    (λ batches. no_output_memory refl) c.tell_no_memory.ensures.written

pub returns-in_default-clause-write_fault : goal.returns-in_default-clause-write_fault
returns-in_default-clause-write_fault g c = c.tell_no_memory.ensures.failed

-- ---- the journal was not opened

pub tell_refused-requires-clause-tellable : goal.tell_refused-requires-clause-tellable
tell_refused-requires-clause-tellable g c = tellable _ _ _ _ c.in-Err.field-0.cause c.in-Err.ensures.refused.has

pub tell_refused-requires-clause-empty : goal.tell_refused-requires-clause-empty
tell_refused-requires-clause-empty g c = c.in-Ok.ensures.empty

pub tell_refused-requires-clause-spare : goal.tell_refused-requires-clause-spare
tell_refused-requires-clause-spare g c = omega (arith, c.in-Ok.ensures.spare)

pub returns-in-Err-clause-wrote : goal.returns-in-Err-clause-wrote
returns-in-Err-clause-wrote g c =
    let cause = c.in-Err.field-0.cause in
    wrote_line (IsLoadNotBegunDue g.D.Disk.seen (HasTakenInOrder g.D.Disk.seen c.in-Err.field-0.disk (g.K.Sink.held c.args.sink.now) (g.K.Sink.held c.tell_refused.new.sink) (g.W.Witness.shown c.args.witness.now) (g.W.Witness.shown c.args.witness.now)) c.args.disk c.in-Err.field-0.disk) _ _ (opening_status cause) (opening_text cause) _
    (λ batches. not_opened cause c.in-Err.ensures.refused) c.tell_refused.ensures.written

pub returns-in-Err-clause-write_fault : goal.returns-in-Err-clause-write_fault
returns-in-Err-clause-write_fault g c = c.tell_refused.ensures.write_fault

-- ---- the lines of the abandonments

pub print_batch-requires-clause-rounds : goal.print_batch-requires-clause-rounds
print_batch-requires-clause-rounds g c =
    let opened = c.in-Ok-open_loader.opened in
    none_published g.D.Disk.seen g.met.D.Disk.reads_now c.args.disk opened.loader opened.from c.in-Ok-open_loader.ensures.opened ∙ ap (λ (b : BooksView). cuts_after opened.from b.members) (sym c.books.ensures.books)

pub print_batch-requires-clause-from : goal.print_batch-requires-clause-from
print_batch-requires-clause-from g c =
    let opened = c.in-Ok-open_loader.opened in
    subst (λ (b : BooksView). opened.from ≤ length b.members) (sym c.books.ensures.books) (from_few g.D.Disk.seen g.met.D.Disk.reads_now c.args.disk opened.loader opened.from c.in-Ok-open_loader.ensures.opened)

pub returns-then-is_err-clause-wrote : goal.returns-then-is_err-clause-wrote
returns-then-is_err-clause-wrote g c =
    let opened = c.in-Ok-open_loader.opened in
    let first = opened.loader in
    let x = g.K.Sink.held c.args.sink.now in
    let y = g.K.Sink.held c.print_batch.new.sink in
    let u = g.W.Witness.shown c.args.witness.now in
    let v = g.W.Witness.shown c.show.new.self in
    let Part : BooksView → Type 0 = λ b. AppendsPart x y (printed_of (take opened.from b.members) (drop opened.from b.members) []) in
    let part : Part first.books = at_err c.print_batch.result (Part first.books) (sym c.is_err.ensures.value ∙ c.if-is_err.true)
    (subst (λ (b : BooksView). OnErr c.print_batch.result (Part b)) c.books.ensures.books c.print_batch.ensures.part) in
    subst (λ (d : g.row.D.Denot). WroteInOrder g.D.Disk.seen d (λ Taken. IsLoadNotBegunDue g.D.Disk.seen Taken c.args.disk d) x y u v statuses.Sink) (sym c.close.ensures)
    (wrote_begun g.D.Disk.seen g.met.D.Disk.reads_now c.args.disk first opened.from c.in-Ok-open_loader.ensures.opened x y u v
    (subst (λ (d : g.row.D.Denot). v ≡ u ++ (record { held = x; disk = d }) ∷ []) c.disk.ensures c.show.ensures) part)

pub returns-then-is_err-clause-write_fault : goal.returns-then-is_err-clause-write_fault
returns-then-is_err-clause-write_fault g c = sink_told _ _ (c.print_batch.ensures.cause.cause (sym c.is_err.ensures.value ∙ c.if-is_err.true))

-- ---- they were printed

pub returns-clause-begun : goal.returns-clause-begun
returns-clause-begun g c =
    let opened = c.in-Ok-open_loader.opened in
    let x = g.K.Sink.held c.args.sink.now in
    let u = g.W.Witness.shown c.args.witness.now in
    let w = g.W.Witness.shown c.show.new.self in
    let Whole : BooksView → Type 0 = λ b. Appends x (g.K.Sink.held c.print_batch.new.sink) (printed_of (take opened.from b.members) (drop opened.from b.members) []) in
    record {
      from = opened.from;
      opened = c.in-Ok-open_loader.ensures.opened;
      shown = subst (λ (d : g.row.D.Denot). w ≡ u ++ (record { held = x; disk = d }) ∷ []) c.disk.ensures c.show.ensures;
      printed = at_ok c.print_batch.result (Whole opened.loader.books) (sym c.is_err.ensures.value ∙ c.if-is_err.false)
          (subst (λ (b : BooksView). OnOk c.print_batch.result (Whole b)) c.books.ensures.books c.print_batch.ensures.ok);
    }
