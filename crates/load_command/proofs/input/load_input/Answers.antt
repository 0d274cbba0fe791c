use Rattle.std.proofs.Common.{ℕ, List, refl, subst, sym}
use Rattle.request_text.specs.declared.request.Request.{Request}
use Rattle.request_text.specs.declared.error.RequestError.{RequestError}
use Rattle.request_text.specs.Grammar.{OnBadLine}
use Rattle.load_reading.specs.Reading.{IsFirstBadLoadLine, IsLoadText, IsNoLoadText}
use Rattle.journal_texts.specs.printed_text.specs.declared.exit_status.ExitStatus.TheVariants as statuses
use Rattle.journal_texts.specs.printed_text.specs.Texts.{memory_text}
use Rattle.journal_texts.proofs.Written.{wrote_for, wrote_line}
use Rattle.group_runs.specs.Runs.{CanAllBeLoaded}
use Rattle.load_command.specs.Headline.{HasTakenInOrder}
use Rattle.load_command.specs.Due.{IsLoadDue}
use Rattle.load_command.specs.Inputs.{IsLoadBadLineDue, IsInputDue, batches_read, no_request_memory, not_read}
use Rattle.load_command.proofs.Loadable.{all_loadable}
use Rattle.load_command.proofs.input.load_input.Goals as goal

-- what is known of the error of an input
abbrev Bad : List ℕ → RequestError → Type 0
Bad input error = OnBadLine (λ number cause. IsFirstBadLoadLine input number cause × IsNoLoadText input) error

pub load_requests-requires : goal.load_requests-requires
load_requests-requires g c = record {
  can = subst (λ (bs : List (List Request)). CanAllBeLoaded bs) (sym c.as_slice.ensures.value) (all_loadable c.args.input.now c.in-Ok.batches.items c.in-Ok.ensures.found);
}

pub returns-in-Ok-clause-wrote : goal.returns-in-Ok-clause-wrote
returns-in-Ok-clause-wrote g c =
    let batches = c.as_slice.result.now in
    let text : IsLoadText c.args.input.now batches = subst (λ (bs : List (List Request)). IsLoadText c.args.input.now bs) (sym c.as_slice.ensures.value) c.in-Ok.ensures.found in
    let Taken = HasTakenInOrder g.D.Disk.seen c.load_requests.result.1 (g.K.Sink.held c.args.sink.now) (g.K.Sink.held c.load_requests.new.sink) (g.W.Witness.shown c.args.witness.now) (g.W.Witness.shown c.load_requests.new.witness) in
    wrote_for (IsLoadDue g.D.Disk.seen Taken c.args.disk c.load_requests.result.1 batches) (IsInputDue g.D.Disk.seen Taken c.args.disk c.load_requests.result.1 c.args.input.now)
    (g.K.Sink.held c.args.sink.now) (g.K.Sink.held c.load_requests.new.sink) c.load_requests.result.0 (batches_read batches text) c.load_requests.ensures.wrote

pub returns-in-Ok-clause-write_fault : goal.returns-in-Ok-clause-write_fault
returns-in-Ok-clause-write_fault g c = c.load_requests.ensures.write_fault

pub returns-in-Err-Memory-clause-wrote : goal.returns-in-Err-Memory-clause-wrote
returns-in-Err-Memory-clause-wrote g c =
    wrote_line (IsInputDue g.D.Disk.seen (HasTakenInOrder g.D.Disk.seen c.args.disk (g.K.Sink.held c.args.sink.now) (g.K.Sink.held c.tell_no_memory.new.sink) (g.W.Witness.shown c.args.witness.now) (g.W.Witness.shown c.args.witness.now)) c.args.disk c.args.disk c.args.input.now)
    (g.K.Sink.held c.args.sink.now) (g.K.Sink.held c.tell_no_memory.new.sink) statuses.Memory memory_text c.tell_no_memory.result (no_request_memory refl) c.tell_no_memory.ensures.written

pub returns-in-Err-Memory-clause-write_fault : goal.returns-in-Err-Memory-clause-write_fault
returns-in-Err-Memory-clause-write_fault g c = c.tell_no_memory.ensures.failed

pub tell_bad_line-requires-clause-first : goal.tell_bad_line-requires-clause-first
tell_bad_line-requires-clause-first g c = (subst (Bad c.args.input.now) c.in-Err-BadLine.field-0-is c.in-Err-BadLine.ensures.bad).0

pub tell_bad_line-requires-clause-none : goal.tell_bad_line-requires-clause-none
tell_bad_line-requires-clause-none g c = (subst (Bad c.args.input.now) c.in-Err-BadLine.field-0-is c.in-Err-BadLine.ensures.bad).1

pub returns-in-Err-BadLine-clause-wrote : goal.returns-in-Err-BadLine-clause-wrote
returns-in-Err-BadLine-clause-wrote g c =
    wrote_for (IsLoadBadLineDue c.args.input.now) (IsInputDue g.D.Disk.seen (HasTakenInOrder g.D.Disk.seen c.args.disk (g.K.Sink.held c.args.sink.now) (g.K.Sink.held c.tell_bad_line.new.sink) (g.W.Witness.shown c.args.witness.now) (g.W.Witness.shown c.args.witness.now)) c.args.disk c.args.disk c.args.input.now)
    (g.K.Sink.held c.args.sink.now) (g.K.Sink.held c.tell_bad_line.new.sink) c.tell_bad_line.result (not_read refl) c.tell_bad_line.ensures.wrote

pub returns-in-Err-BadLine-clause-write_fault : goal.returns-in-Err-BadLine-clause-write_fault
returns-in-Err-BadLine-clause-write_fault g c = c.tell_bad_line.ensures.write_fault
