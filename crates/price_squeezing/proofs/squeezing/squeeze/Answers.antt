use Rattle.std.proofs.Common.{arith}
use Rattle.std.proofs.lemmas.Result.{on_ok_weaker}
use Rattle.price_squeezing.proofs.Numbering.{squeezed_to_one}
use Rattle.price_squeezing.proofs.squeezing.squeeze.Goals as goal

pub squeeze_to-requires : goal.squeeze_to-requires
squeeze_to-requires c = omega (arith, c.args.prices.now.small)

pub returns-clause-squeezed : goal.returns-clause-squeezed
returns-clause-squeezed c = on_ok_weaker _ (squeezed_to_one _ _) c.squeeze_to.ensures.squeezed
