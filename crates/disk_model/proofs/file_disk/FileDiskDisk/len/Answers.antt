use Rattle.std.proofs.Common.{ℕ, subst}
use Rattle.fault_count.specs.Counts.{IsCounted}
use Rattle.disk_model.specs.Calls.{IsPresent}
use Rattle.disk_model.specs.Untold.{untold}
use Rattle.disk_model.proofs.Moments.{untold_passes}
use Rattle.disk_model.proofs.file_disk.FileDiskDisk.len.Goals as goal

pub returns-clause-crash : goal.returns-clause-crash
returns-clause-crash g c = untold_passes c.args.self.now c.count_fault.new.self (IsPresent (untold c.args.self.now))

pub returns-clause-cause : goal.returns-clause-cause
returns-clause-cause g c = subst (λ (count : ℕ). IsCounted count c.count_fault.new.self c.count_fault.result) c.self.view_is c.count_fault.ensures
