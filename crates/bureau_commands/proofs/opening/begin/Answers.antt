use Rattle.std.specs.Prelude.{OnErr, OnOk, drop, take}
use Rattle.std.specs.Io.KnownBytes.{Appends}
use Rattle.std.proofs.Common.{◌≡◌, ◌∙◌, ◌≤◌, [], ◌∷◌, ℕ, List, length, ap, refl, subst, sym, arith}
use Rattle.bureau_edge.specs.Streams.{AppendsPart}
use Rattle.live_runs.specs.claim_history.specs.PoolRounds.{cuts_after}
use Rattle.live_runs.specs.printed_text.specs.declared.exit_status.ExitStatus.TheVariants as statuses
use Rattle.live_runs.specs.printed_text.specs.Texts.{memory_text}
use Rattle.live_runs.specs.printed_text.specs.Printing.{printed_of}
use Rattle.live_runs.specs.printed_text.proofs.Statuses.{other_than, sink_told}
use Rattle.bureau_reports.specs.DiskTexts.{opening_status, opening_text}
use Rattle.bureau_commands.specs.Headline.{output_of}
use Rattle.bureau_commands.specs.Due.{IsNotBegunDue, WroteTaking, no_output_memory, not_opened}
use Rattle.bureau_reports.proofs.Viewed.{tellable}
use Rattle.bureau_reports.proofs.Written.{wrote_line}
use Rattle.live_runs.specs.batch_runs.proofs.Batches.{same_opening, shown_at}
use Rattle.live_runs.specs.batch_runs.proofs.Printed.{at_err, at_ok, printed_same}
use Rattle.bureau_reports.specs.journal_texts.proofs.Openings.{opening_one}
use Rattle.bureau_commands.proofs.Served.{begun_few, none_begun, wrote_begun}
use Rattle.bureau_commands.proofs.opening.begin.Goals as goal

-- ---- there was no memory for the text

pub returns-in_default-clause-wrote : goal.returns-in_default-clause-wrote
returns-in_default-clause-wrote g c =
    wrote_line (IsNotBegunDue g.D.Disk.seen (output_of (g.K.Sink.held c.args.sink.now) (g.K.Sink.held c.tell_no_memory.new.sink) (g.W.Witness.shown c.args.witness.now) (g.W.Witness.shown c.args.witness.now)) c.args.disk c.args.disk) _ _ statuses.Memory memory_text _
    ((λ is. cc), (λ batches asked. no_output_memory refl)) c.tell_no_memory.ensures.written

pub returns-in_default-clause-write_fault : goal.returns-in_default-clause-write_fault
returns-in_default-clause-write_fault g c = c.tell_no_memory.ensures.failed

-- ---- no desk was opened

pub tell_refused-requires-clause-tellable : goal.tell_refused-requires-clause-tellable
tell_refused-requires-clause-tellable g c = tellable _ _ _ _ c.in-Err.field-0.cause c.in-Err.ensures.err.has

pub tell_refused-requires-clause-empty : goal.tell_refused-requires-clause-empty
tell_refused-requires-clause-empty g c = c.in-Ok.ensures.empty

pub tell_refused-requires-clause-spare : goal.tell_refused-requires-clause-spare
tell_refused-requires-clause-spare g c = omega (arith, c.in-Ok.ensures.room)

pub returns-in-Err-clause-wrote : goal.returns-in-Err-clause-wrote
returns-in-Err-clause-wrote g c =
    let cause = c.in-Err.field-0.cause in
    wrote_line (IsNotBegunDue g.D.Disk.seen (output_of (g.K.Sink.held c.args.sink.now) (g.K.Sink.held c.tell_refused.new.sink) (g.W.Witness.shown c.args.witness.now) (g.W.Witness.shown c.args.witness.now)) c.args.disk c.in-Err.field-0.disk) _ _ (opening_status cause) (opening_text cause) _
    ((λ is. other_than statuses.Done (statuses.Unsound ∷ statuses.Disk ∷ statuses.Memory ∷ []) (opening_status cause) refl is (opening_one cause)), (λ batches asked. not_opened cause c.in-Err.ensures.err)) c.tell_refused.ensures.written

pub returns-in-Err-clause-write_fault : goal.returns-in-Err-clause-write_fault
returns-in-Err-clause-write_fault g c = c.tell_refused.ensures.write_fault

-- ---- the lines of the abandonments

pub print_added-requires-clause-from : goal.print_added-requires-clause-from
print_added-requires-clause-from g c = subst (λ (n : ℕ). n ≤ length c.in-Ok-open.desk.history) (sym c.opened_with-from.ensures) (begun_few g.D.Disk.seen c.args.disk c.in-Ok-open.desk c.in-Ok-open.ensures.ok)

pub print_added-requires-clause-rounds : goal.print_added-requires-clause-rounds
print_added-requires-clause-rounds g c = none_begun g.D.Disk.seen c.args.disk c.in-Ok-open.desk c.in-Ok-open.ensures.ok ∙ sym (ap (λ (n : ℕ). cuts_after n c.in-Ok-open.desk.history) c.opened_with-from.ensures)

pub print_added-requires-clause-empty : goal.print_added-requires-clause-empty
print_added-requires-clause-empty g c = c.in-Ok.ensures.empty

pub print_added-requires-clause-spare : goal.print_added-requires-clause-spare
print_added-requires-clause-spare g c = c.in-Ok.ensures.room

pub returns-then-is_err-clause-wrote : goal.returns-then-is_err-clause-wrote
returns-then-is_err-clause-wrote g c =
    let first = c.in-Ok-open.desk in
    let line : List ℕ = printed_of (take first.opened_with first.history) (drop first.opened_with first.history) [] in
    let same = printed_same c.opened_with-from.result first.opened_with first.history [] c.opened_with-from.ensures in
    let part : AppendsPart (g.K.Sink.held c.args.sink.now) (g.K.Sink.held c.print_added.new.sink) line =
    at_err c.print_added.result (AppendsPart (g.K.Sink.held c.args.sink.now) (g.K.Sink.held c.print_added.new.sink) line) (sym c.is_err.ensures.value ∙ c.if-is_err.true)
    (subst (λ (t : List ℕ). OnErr c.print_added.result (AppendsPart (g.K.Sink.held c.args.sink.now) (g.K.Sink.held c.print_added.new.sink) t)) same c.print_added.ensures.part) in
    subst (λ (d : g.row.D.Denot). WroteTaking (λ output. IsNotBegunDue g.D.Disk.seen output c.args.disk d) (g.K.Sink.held c.args.sink.now) (g.K.Sink.held c.print_added.new.sink) (g.W.Witness.shown c.args.witness.now) (g.W.Witness.shown c.show.new.self) statuses.Sink) (sym c.close.ensures.disk)
    (wrote_begun g.D.Disk.seen c.args.disk first first c.in-Ok-open.ensures.ok c.close.ensures.keeps c.close.ensures.counted (same_opening first) _ _ _ _ refl part
    (shown_at g.W.Witness.shown c.args.witness.now c.show.new.self (g.K.Sink.held c.args.sink.now) c.disk.result.now first.disk c.show.ensures c.disk.ensures))

pub returns-then-is_err-clause-write_fault : goal.returns-then-is_err-clause-write_fault
returns-then-is_err-clause-write_fault g c = sink_told _ _ (c.print_added.ensures.cause.cause (sym c.is_err.ensures.value ∙ c.if-is_err.true))

-- ---- they were printed

pub returns : goal.returns
returns g c = record {
  begun =
      let first = c.in-Ok-open.desk in
      let line : List ℕ = printed_of (take first.opened_with first.history) (drop first.opened_with first.history) [] in
      let same = printed_same c.opened_with-from.result first.opened_with first.history [] c.opened_with-from.ensures in
      record {
        opening = c.in-Ok-open.ensures.ok;
        keeps = c.books-books.ensures.keeps;
        shown = shown_at g.W.Witness.shown c.args.witness.now c.show.new.self (g.K.Sink.held c.args.sink.now) c.disk.result.now first.disk c.show.ensures c.disk.ensures;
        printed = at_ok c.print_added.result (Appends (g.K.Sink.held c.args.sink.now) (g.K.Sink.held c.print_added.new.sink) line) (sym c.is_err.ensures.value ∙ c.if-is_err.false)
            (subst (λ (t : List ℕ). OnOk c.print_added.result (Appends (g.K.Sink.held c.args.sink.now) (g.K.Sink.held c.print_added.new.sink) t)) same c.print_added.ensures.ok);
      };
  empty = at_ok c.print_added.result (c.print_added.new.buffer.items ≡ []) (sym c.is_err.ensures.value ∙ c.if-is_err.false) c.print_added.ensures.emptied;
  room = c.print_added.ensures.room;
  kept = at_ok c.print_added.result (g.K.Sink.faults c.print_added.new.sink ≡ g.K.Sink.faults c.args.sink.now) (sym c.is_err.ensures.value ∙ c.if-is_err.false) c.print_added.ensures.cause.kept;
  wrote = tt;
  write_fault = tt;
}
