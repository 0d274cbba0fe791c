use Rattle.bureau_commands.proofs.Images.{image_law}
use Rattle.bureau_commands.proofs.laws.each_image_holds_a_beginning.Goals as goal

pub returns : goal.returns
returns g c = image_law g.D.Disk.seen
