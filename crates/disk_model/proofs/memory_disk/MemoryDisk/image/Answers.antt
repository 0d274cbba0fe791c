use Rattle.std.proofs.Common.{◌≡◌, ◌∙◌, List, ℕ, true, take, sym, ap, subst}
use Rattle.disk_model.specs.declared.step.Step.{Step}
use Rattle.disk_model.specs.Memory.{first_of}
use Rattle.disk_model.specs.Steps.{all_within}
use Rattle.disk_model.proofs.OneStep.{within_take}
use Rattle.disk_model.proofs.memory_disk.MemoryDisk.image.Goals as goal

pub replay_steps-requires : goal.replay_steps-requires
replay_steps-requires c =
    let start : c.first_bytes-start.result.now ≡ first_of c.args.self.now.first c.args.self.now.bytes.items = c.first_bytes-start.ensures ∙ ap (λ (b : List ℕ). first_of c.args.self.now.first b) c.deref.ensures.value in
    subst (λ (b : List ℕ). all_within b (take c.args.moment c.deref-2.result.now) ≡ true) (sym start)
    (subst (λ (s : List Step). all_within (first_of c.args.self.now.first c.args.self.now.bytes.items) (take c.args.moment s) ≡ true) (sym c.deref-2.ensures.value)
    (within_take (first_of c.args.self.now.first c.args.self.now.bytes.items) c.args.self.now.steps.items c.args.moment c.args.self.now.within))
