use Rattle.std.proofs.Common.{false}
use Rattle.disk_model.specs.Memory.{first_of}
use Rattle.disk_model.proofs.TwoSteps.{quiet_read, quiet_within}
use Rattle.disk_model.proofs.memory_disk.MemoryDisk.fail_named.Goals as goal

pub invariant_of-self : goal.invariant_of-self
invariant_of-self c = record {
  read = quiet_read (first_of c.args.self.now.first c.args.self.now.bytes.items) c.args.self.now.bytes.items c.args.self.now.steps.items c.note.new.steps.items false c.args.self.now.read c.in-Ok.ensures.ok;
  within = quiet_within (first_of c.args.self.now.first c.args.self.now.bytes.items) c.args.self.now.bytes.items c.args.self.now.steps.items c.note.new.steps.items false c.args.self.now.within c.in-Ok.ensures.ok;
}
