use Rattle.std.proofs.Common.{◌≢◌, refl}
use Rattle.setoff_model.proofs.Pairs.{pairs_more}
use Rattle.book_tests.proofs.facts.keys_differ.Goals as goal

pub loop-place-preserved : goal.loop-place-preserved
loop-place-preserved c =
    pairs_more (λ a b. a.key ≢ b.key) c.args.claims.now c.loop-place.place c.index-claims-place.result c.loop-place-test.true c.loop-place.invariant (c.if-not-is_new_key.ensures refl)
