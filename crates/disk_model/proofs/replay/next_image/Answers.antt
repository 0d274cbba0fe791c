use Rattle.std.proofs.Common.{◌∙◌, ℕ, List, length, sym, ap}
use Rattle.disk_model.specs.declared.step.Step.{Step}
use Rattle.disk_model.specs.Steps.{overlay, reads_then}
use Rattle.disk_model.proofs.OneStep.{overlay_long}
use Rattle.disk_model.proofs.replay.next_image.Goals as goal

pub returns-in_ok-overlay_with-in-Wrote-clause-long : goal.returns-in_ok-overlay_with-in-Wrote-clause-long
returns-in_ok-overlay_with-in-Wrote-clause-long c =
    let at = c.in-Wrote.at in
    let piece = c.in-Wrote.piece.items in
    ap (λ (l : List ℕ). length l) c.in_ok-overlay_with-in-Wrote.ensures.ok ∙ ap (λ (p : List ℕ). length (overlay at p c.args.image.items)) c.deref.ensures.value
    ∙ overlay_long at piece c.args.image.items c.args.reads.now c.requires.long ∙ sym (ap (λ (s : Step). length (reads_then c.args.reads.now s)) c.in-Wrote.is)
