use Rattle.disk_model.specs.MemoryState.{memory_state}
use Rattle.disk_model.proofs.TwoSteps.{PresentIn, failed_passes, looked_passes}
use Rattle.disk_model.proofs.memory_disk.MemoryDiskDisk.read_at.Goals as goal

pub returns-in_err-begin-clause-crash : goal.returns-in_err-begin-clause-crash
returns-in_err-begin-clause-crash c = failed_passes (memory_state c.args.self.now) (memory_state c.begin.new.self) (PresentIn (memory_state c.args.self.now)) (λ d has. has) c.in_err-begin.ensures.err

pub returns-clause-crash : goal.returns-clause-crash
returns-clause-crash c = looked_passes (memory_state c.args.self.now) (memory_state c.begin.new.self) c.in_ok-begin.ensures.ok
