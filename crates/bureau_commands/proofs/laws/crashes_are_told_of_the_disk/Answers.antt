use Rattle.bureau_commands.proofs.Tied.{crash_law}
use Rattle.bureau_commands.proofs.laws.crashes_are_told_of_the_disk.Goals as goal

pub returns : goal.returns
returns g c = crash_law g.D.Disk.seen
