use Rattle.bureau_commands.proofs.Histories.{history_law}
use Rattle.bureau_commands.proofs.laws.runs_print_their_history.Goals as goal

pub returns : goal.returns
returns g c = history_law g.D.Disk.seen
