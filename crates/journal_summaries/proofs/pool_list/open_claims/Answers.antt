use Rattle.std.specs.Prelude.{cond}
use Rattle.std.proofs.Common.{arith}
use Rattle.printed_text.specs.claim_history.specs.declared.fact.ClaimFact.{ClaimFact}
use Rattle.printed_text.specs.firm_notices.specs.Notices.{is_open}
use Rattle.journal_summaries.proofs.Counted.{at_most_one, sum_next}
use Rattle.journal_summaries.proofs.pool_list.open_claims.Goals as goal

pub overflow_add-sum : goal.overflow_add-sum
overflow_add-sum c = omega (arith, c.loop-i.invariant.few, c.open_claim-sum.ensures, at_most_one (is_open c.index-claims-i.result), c.loop-i-test.true, c.loop-i.auto.i-end)

pub loop-i-preserved : goal.loop-i-preserved
loop-i-preserved c = record {
  sum = sum_next (λ (x : ClaimFact). cond (is_open x) 1 0) c.args.claims.now c.loop-i.i c.index-claims-i.result c.loop-i.sum c.open_claim-sum.result c.loop-i-test.true c.index-claims-i.is c.loop-i.invariant.sum c.open_claim-sum.ensures;
  few = omega (arith, c.loop-i.invariant.few, c.open_claim-sum.ensures, at_most_one (is_open c.index-claims-i.result));
}
