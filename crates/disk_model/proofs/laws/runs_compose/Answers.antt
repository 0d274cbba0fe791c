use Rattle.disk_model.proofs.Runs.{run_law}
use Rattle.disk_model.proofs.laws.runs_compose.Goals as goal

pub returns : goal.returns
returns g c = run_law g.D.Disk.seen
