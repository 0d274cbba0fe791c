use Rattle.std.proofs.Common.{◌≡◌, ◌∙◌, Ok, inr, ℕ, ◌++◌, ◌∷◌, [], List, length, length-append, ap, subst, arith}
use Rattle.fault_count.specs.Counts.{HasRisen, IsCounted}
use Rattle.disk_model.specs.declared.step.Step.{Step}
use Rattle.disk_model.specs.declared.step.Step.TheVariants.{Waited, Wrote}
use Rattle.disk_model.specs.Memory.{MemoryState, after_refused}
use Rattle.disk_model.specs.Calls.{Torn, After}
use Rattle.disk_model.specs.MemoryState.{memory_state}
use Rattle.disk_model.proofs.Moments.{torn_same}
use Rattle.disk_model.proofs.TwoSteps.{PresentIn, failed_passes, wrote_passes}
use Rattle.disk_model.proofs.memory_disk.MemoryDiskDisk.write_at.Goals as goal

counted_ok : {T E : Type 0} {before after : ℕ} (x : T) → after ≡ before → IsCounted {T = T} {E = E} before after (Ok x)
counted_ok x same = record { later = omega arith; cause = λ err. absurd (cc err) }

pub returns-then-is_named-clause-crash : goal.returns-then-is_named-clause-crash
returns-then-is_named-clause-crash c =
    failed_passes (memory_state c.args.self.now) (memory_state c.fail_named.new.self) (After (Torn c.args.at (length c.args.piece.now)) (PresentIn (memory_state c.args.self.now)))
    (λ d has. (d, has, torn_same c.args.at (length c.args.piece.now) d)) c.fail_named.ensures.failed

pub returns-in-Ok-clause-crash : goal.returns-in-Ok-clause-crash
returns-in-Ok-clause-crash c =
    let kept = c.in-Ok.ensures.ok in
    wrote_passes (memory_state c.args.self.now) (memory_state c.overwrite.new.self) c.args.at kept.0 c.args.piece.now kept.1 kept.2

pub returns-in-Ok-clause-passes : goal.returns-in-Ok-clause-passes
returns-in-Ok-clause-passes c =
    let old = c.args.self.now.steps.items in
    let kept = c.in-Ok.ensures.ok in
    let steps : c.overwrite.new.self.steps.items ≡ old ++ Wrote c.args.at kept.0 ∷ Waited ∷ [] = ap (λ (s : MemoryState). s.steps) kept.2 in
    omega (arith, ap (λ (l : List Step). length l) steps, length-append old (Wrote c.args.at kept.0 ∷ Waited ∷ []))

pub returns-in-Ok-clause-cause : goal.returns-in-Ok-clause-cause
returns-in-Ok-clause-cause c =
    let kept = c.in-Ok.ensures.ok in
    counted_ok c.in-Ok.field-0 (ap (λ (s : MemoryState). s.faults) kept.2)

pub returns-in-Err-clause-err : goal.returns-in-Err-clause-err
returns-in-Err-clause-err c = inr (c.refuse.ensures.failed ∙ ap (λ (s : MemoryState). after_refused s) c.in-Err.ensures.err)

pub returns-in-Err-clause-crash : goal.returns-in-Err-clause-crash
returns-in-Err-clause-crash c =
    failed_passes (memory_state c.args.self.now) (memory_state c.refuse.new.self) (After (Torn c.args.at (length c.args.piece.now)) (PresentIn (memory_state c.args.self.now)))
    (λ d has. (d, has, torn_same c.args.at (length c.args.piece.now) d))
    (inr (c.refuse.ensures.failed ∙ ap (λ (s : MemoryState). after_refused s) c.in-Err.ensures.err))

pub returns-in-Err-clause-cause : goal.returns-in-Err-clause-cause
returns-in-Err-clause-cause c =
    let same : c.overwrite.new.self.faults ≡ c.args.self.now.faults = ap (λ (s : MemoryState). s.faults) c.in-Err.ensures.err in
    record { later = omega (arith, c.refuse.ensures.later); cause = λ err. subst (λ (n : ℕ). HasRisen n c.refuse.new.self.faults) same c.refuse.ensures.rose }
