use Rattle.std.proofs.Common.{◌∙◌}
use Rattle.trial_round.proofs.Batch.{batch_is, input_is_no_fault}
use Rattle.trial_round.proofs.input.trial_batch.Goals as goal

pub returns-in-Some : goal.returns-in-Some
returns-in-Some c =
    batch_is c.args.firms c.args.claims c.args.seed c.as_slice.result.now c.in-Ok.batches.items c.pop.new.self.items c.in-Some.batch c.requires c.written_requests_are_read_back.ensures.law
    (c.as_slice.ensures.value ∙ c.in_ok-text.ensures) c.in-Ok.ensures.found c.in-Some.ensures.items

pub unreachable-requires-in-Err-BadLine : goal.unreachable-requires-in-Err-BadLine
unreachable-requires-in-Err-BadLine c =
    let bad = rw c.in-Err-BadLine.field-0-is at c.in-Err-BadLine.ensures.bad in
    input_is_no_fault c.args.firms c.args.claims c.args.seed c.as_slice.result.now c.requires c.written_requests_are_read_back.ensures.law
    (c.as_slice.ensures.value ∙ c.in_ok-text.ensures) bad.1
