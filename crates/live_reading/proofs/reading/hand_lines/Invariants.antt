use Rattle.std.proofs.Common.{◌≡◌, ◌+◌, ◌<◌, ◌≤◌, None, false, All, length, vec_len, vec_capacity}
use Rattle.live_reading.specs.declared.reading.TheConstants.{MOST_ASKED}
use Rattle.setoff_model.specs.declared.limits.TheConstants.{MOST_LANES}
use Rattle.live_reading.specs.Reading.{HasGoneOn}
use Rattle.live_reading.specs.Rings.{IsOpen}
use Rattle.live_reading.specs.Sparing.{HasSpare, KeepsSpare}
use Rattle.live_reading.proofs.reading.hand_lines.Given as goal

abbrev pub invariant-loop : goal.invariant-loop
invariant-loop g l = record {
  begun : l.intake.fenced ≡ false;
  all : length l.rings ≡ MOST_LANES;
  open_ : All IsOpen l.rings;
  few : vec_len l.requests < MOST_ASKED;
  spare : MOST_ASKED ≤ vec_capacity l.requests;
  gone : HasGoneOn (g.S.Source.left l.fn.source) (g.S.Source.left l.source) (g.S.Source.faults l.fn.source) (g.S.Source.faults l.source) l.fn.intake l.intake l.fn.rings l.rings l.fn.requests.items l.requests.items None;
  items : l.answers.items ≡ l.fn.answers.items;
  len : vec_len l.answers ≡ vec_len l.fn.answers;
  answers : HasSpare l.intake l.answers (vec_len l.requests);
  later : l.fn.intake.read + length l.fn.intake.taken ≤ l.intake.read + length l.intake.taken;
  kept : 0 < l.counter → KeepsSpare l.fn.intake l.intake l.fn.answers l.answers (vec_len l.requests) None;
}
