use Rattle.setoff_model.proofs.Weighed.{weighted_duality, weighted_slackness}
use Rattle.setoff_model.proofs.WeightedBounded.{weighted_sums_are_bounded}
use Rattle.setoff_model.proofs.Ones.{weights_of_one}
use Rattle.setoff_model.proofs.duality.weighted_duality.Goals as goal

pub returns : goal.returns
returns c = record { laws = weighted_duality; slackness = weighted_slackness; bounded = weighted_sums_are_bounded; of_one = weights_of_one }
