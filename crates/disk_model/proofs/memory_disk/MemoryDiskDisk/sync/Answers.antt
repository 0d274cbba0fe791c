use Rattle.disk_model.specs.MemoryState.{memory_state}
use Rattle.disk_model.proofs.TwoSteps.{PresentIn, failed_passes, synced_passes, synced_only}
use Rattle.disk_model.proofs.memory_disk.MemoryDiskDisk.sync.Goals as goal

pub returns-in_err-begin-clause-crash : goal.returns-in_err-begin-clause-crash
returns-in_err-begin-clause-crash c = failed_passes (memory_state c.args.self.now) (memory_state c.begin.new.self) (PresentIn (memory_state c.args.self.now)) (λ d has. has) c.in_err-begin.ensures.err

pub returns-clause-crash : goal.returns-clause-crash
returns-clause-crash c = synced_passes (memory_state c.args.self.now) (memory_state c.begin.new.self) c.args.self.now.read c.args.self.now.within c.in_ok-begin.ensures.ok

pub returns-clause-durable : goal.returns-clause-durable
returns-clause-durable c = synced_only (memory_state c.args.self.now) (memory_state c.begin.new.self) c.args.self.now.read c.in_ok-begin.ensures.ok
