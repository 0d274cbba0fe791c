use Rattle.std.proofs.Common.{◌≢◌}
use Rattle.setoff_model.proofs.Pairs.{PairsBelow}
use Rattle.book_tests.proofs.facts.keys_differ.Given as goal

-- no two of those so far are alike
abbrev pub invariant-loop-place : goal.invariant-loop-place
invariant-loop-place l = PairsBelow (λ a b. a.key ≢ b.key) l.claims l.place
