use Rattle.std.specs.Prelude.{cond}
use Rattle.std.proofs.Common.{arith}
use Rattle.printed_text.specs.claim_history.specs.declared.entry.Entry.{Entry}
use Rattle.printed_text.specs.claim_history.specs.History.{is_opening}
use Rattle.journal_summaries.proofs.Counted.{at_most_one, sum_next}
use Rattle.journal_summaries.proofs.pool_list.openings.Goals as goal

pub overflow_add-sum : goal.overflow_add-sum
overflow_add-sum c = omega (arith, c.loop-i.invariant.few, c.opening-sum.ensures, at_most_one (is_opening c.index-entries-i.result.reply), c.loop-i-test.true, c.loop-i.auto.i-end)

pub loop-i-preserved : goal.loop-i-preserved
loop-i-preserved c = record {
  sum = sum_next (λ (x : Entry). cond (is_opening x.reply) 1 0) c.args.entries.now c.loop-i.i c.index-entries-i.result c.loop-i.sum c.opening-sum.result c.loop-i-test.true c.index-entries-i.is c.loop-i.invariant.sum c.opening-sum.ensures;
  few = omega (arith, c.loop-i.invariant.few, c.opening-sum.ensures, at_most_one (is_opening c.index-entries-i.result.reply));
}
