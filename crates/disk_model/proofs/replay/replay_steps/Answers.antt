use Rattle.std.proofs.Common.{◌≡◌, ◌∙◌, ℕ, List, true, length, get_or, sym, ap, subst}
use Rattle.disk_model.specs.declared.step.Step.{Step}
use Rattle.disk_model.specs.Steps.{reads_then, begins_within, Stepped}
use Rattle.disk_model.proofs.OneStep.{within_at, reads_more, image_more}
use Rattle.disk_model.proofs.replay.replay_steps.Goals as goal

pub next_image-requires-clause-within : goal.next_image-requires-clause-within
next_image-requires-clause-within c =
    let there = c.deref.ensures.value ∙ c.loop-step.invariant.reads in
    let within = within_at c.args.start.now c.args.steps.now c.loop-step.step-index c.step-item.result c.requires c.loop-step-test.true in
    subst (λ (x : Step). begins_within c.deref.result.now x ≡ true) (sym c.step-item.is) (subst (λ (r : List ℕ). begins_within r (get_or c.args.steps.now c.loop-step.step-index c.step-item.result) ≡ true) (sym there) within)

pub next_reads-requires : goal.next_reads-requires
next_reads-requires c =
    let within = within_at c.args.start.now c.args.steps.now c.loop-step.step-index c.step-item.result c.requires c.loop-step-test.true in
    subst (λ (x : Step). begins_within c.loop-step.reads.items x ≡ true) (sym c.step-item.is)
    (subst (λ (r : List ℕ). begins_within r (get_or c.args.steps.now c.loop-step.step-index c.step-item.result) ≡ true) (sym c.loop-step.invariant.reads) within)

pub loop-step-preserved : goal.loop-step-preserved
loop-step-preserved c =
    let old_reads = c.deref.ensures.value ∙ c.loop-step.invariant.reads in
    let next : c.in_ok-reads-2.reads.items ≡ reads_then c.loop-step.reads.items (get_or c.args.steps.now c.loop-step.step-index c.step-item.result) = c.in_ok-reads-2.ensures ∙ ap (λ (x : Step). reads_then c.loop-step.reads.items x) c.step-item.is in
    let step : Stepped c.deref.result.now (get_or c.args.steps.now c.loop-step.step-index c.step-item.result) c.loop-step.image.items c.in_ok-image-2.image.items =
    subst (λ (x : Step). Stepped c.deref.result.now x c.loop-step.image.items c.in_ok-image-2.image.items) c.step-item.is c.in_ok-image-2.ensures.stepped in
    record {
      reads = reads_more c.args.start.now c.args.steps.now c.loop-step.step-index c.step-item.result c.loop-step-test.true c.loop-step.reads.items c.in_ok-reads-2.reads.items c.loop-step.invariant.reads next;
      image = image_more c.args.start.now c.args.steps.now c.loop-step.step-index c.step-item.result c.loop-step-test.true c.deref.result.now c.loop-step.image.items c.in_ok-image-2.image.items old_reads c.loop-step.invariant.image step;
      long = c.in_ok-image-2.ensures.long ∙ ap (λ (r : List ℕ). length (reads_then r c.step-item.result)) c.deref.ensures.value ∙ ap (λ (l : List ℕ). length l) (sym c.in_ok-reads-2.ensures);
    }
