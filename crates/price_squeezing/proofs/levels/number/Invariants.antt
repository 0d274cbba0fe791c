use Rattle.price_squeezing.proofs.Numbering.{IsPlacedBelow}
use Rattle.price_squeezing.proofs.levels.number.Given as goal

-- the prices before this one have their numbers, the others are as they were
abbrev pub invariant-loop-price : goal.invariant-loop-price
invariant-loop-price l = IsPlacedBelow l.initial.prices l.prices l.levels l.numbers l.ground l.price-index
