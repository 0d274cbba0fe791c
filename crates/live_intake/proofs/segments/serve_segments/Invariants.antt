use Rattle.std.proofs.Common.{◌≡◌, ◌+◌, ◌-◌, ◌*◌, ◌≤◌, None, false, length, vec_capacity}
use Rattle.live_reading.specs.declared.reading.TheConstants.{MOST_ASKED}
use Rattle.live_intake.specs.Batching.{AreReady, HasServedBatch}
use Rattle.live_reading.specs.Reading.{HasTakenPiece}
use Rattle.live_reading.specs.Sparing.{HasSpare}
use Rattle.live_intake.proofs.segments.serve_segments.Given as goal

abbrev pub invariant-loop-stop : goal.invariant-loop-stop
invariant-loop-stop g l = record {
  begun : l.intake.fenced ≡ false;
  ready : AreReady l.service.shared.now.turn l.rings l.lanes;
  room : MOST_ASKED ≤ vec_capacity l.requests;
  taken : HasTakenPiece (g.S.Source.left l.fn.source) (g.S.Source.left l.source) (g.S.Source.faults l.fn.source) (g.S.Source.faults l.source) l.fn.intake l.intake;
  served : HasServedBatch l.service.shared.now.turn (g.S.Source.left l.source) (g.S.Source.faults l.fn.source) (g.S.Source.faults l.source) l.fn.intake l.intake l.rings l.fn.lanes l.lanes l.answers.items None;
  answers : HasSpare l.intake l.answers 0;
}

abbrev pub decreases-loop-stop : goal.decreases-loop-stop
decreases-loop-stop g l = 2 * (l.intake.limit + 1) - (l.intake.read + length l.intake.taken)
