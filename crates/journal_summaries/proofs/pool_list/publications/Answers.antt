use Rattle.std.proofs.Common.{arith}
use Rattle.printed_text.specs.claim_history.specs.declared.entry.Entry.{Entry}
use Rattle.printed_text.specs.Printing.{rounds_in}
use Rattle.journal_summaries.proofs.Counted.{one_round, sum_next}
use Rattle.journal_summaries.proofs.pool_list.publications.Goals as goal

pub overflow_add-sum : goal.overflow_add-sum
overflow_add-sum c = omega (arith, c.loop-i.invariant.few, c.publication-sum.ensures, one_round c.index-entries-i.result.reply, c.loop-i-test.true, c.loop-i.auto.i-end)

pub loop-i-preserved : goal.loop-i-preserved
loop-i-preserved c = record {
  sum = sum_next (λ (x : Entry). rounds_in x.reply) c.args.entries.now c.loop-i.i c.index-entries-i.result c.loop-i.sum c.publication-sum.result c.loop-i-test.true c.index-entries-i.is c.loop-i.invariant.sum c.publication-sum.ensures;
  few = omega (arith, c.loop-i.invariant.few, c.publication-sum.ensures, one_round c.index-entries-i.result.reply);
}
