use Rattle.std.proofs.Common.{◌≢◌, refl}
use Rattle.setoff_model.proofs.Pairs.{pairs_more}
use Rattle.book_tests.proofs.facts.firms_differ.Goals as goal

pub loop-place-preserved : goal.loop-place-preserved
loop-place-preserved c =
    pairs_more (λ a b. a.firm ≢ b.firm) c.args.accounts.now c.loop-place.place c.index-accounts-place.result c.loop-place-test.true c.loop-place.invariant (c.if-not-is_new_firm.ensures refl)
