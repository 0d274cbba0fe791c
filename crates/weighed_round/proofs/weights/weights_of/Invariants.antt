use Rattle.std.proofs.Common.{◌≡◌, map, take}
use Rattle.printed_text.specs.round_cut.specs.CutOfFacts.{claims_due}
use Rattle.weighed_round.specs.Weighed.{weight_at}
use Rattle.weighed_round.proofs.weights.weights_of.Given as goal

abbrev pub invariant-loop-claim : goal.invariant-loop-claim
invariant-loop-claim l = record { weights : l.weights.items ≡ map (λ c. weight_at l.today c.due) (claims_due l.today (take l.claim-index l.claims)) }
