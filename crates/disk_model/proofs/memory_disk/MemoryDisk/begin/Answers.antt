use Rattle.std.proofs.Common.{◌≡◌, ◌++◌, ◌∷◌, [], subst}
use Rattle.disk_model.specs.declared.step.Step.{Step}
use Rattle.disk_model.specs.declared.step.Step.TheVariants.{Waited}
use Rattle.disk_model.specs.Memory.{first_of}
use Rattle.disk_model.proofs.TwoSteps.{quiet_read, quiet_within}
use Rattle.disk_model.proofs.memory_disk.MemoryDisk.begin.Goals as goal

pub invariant_of-self : goal.invariant_of-self
invariant_of-self c =
    let ok = subst (λ (e : Step). c.note.new.steps.items ≡ c.args.self.now.steps.items ++ Waited ∷ e ∷ []) c.end_of.ensures c.in-Ok.ensures.ok in
    record {
      read = quiet_read (first_of c.args.self.now.first c.args.self.now.bytes.items) c.args.self.now.bytes.items c.args.self.now.steps.items c.note.new.steps.items c.args.syncs c.args.self.now.read ok;
      within = quiet_within (first_of c.args.self.now.first c.args.self.now.bytes.items) c.args.self.now.bytes.items c.args.self.now.steps.items c.note.new.steps.items c.args.syncs c.args.self.now.within ok;
    }
