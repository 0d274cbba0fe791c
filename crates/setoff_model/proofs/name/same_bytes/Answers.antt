use Rattle.setoff_model.proofs.SameNames.{same_halves}
use Rattle.setoff_model.proofs.name.same_bytes.Goals as goal

pub returns-then-low_half : goal.returns-then-low_half
returns-then-low_half c =
    same_halves c.args.a.now c.args.b.now c.low_half.result c.high_half.result c.low_half-2.result c.high_half-then-low_half.result
    c.told-a c.told-b c.fits-a c.fits-b c.low_half.ensures c.low_half-2.ensures c.high_half.ensures c.high_half-then-low_half.ensures c.if-low_half.true
