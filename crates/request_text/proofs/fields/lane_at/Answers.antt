use Rattle.std.proofs.Common.{arith}
use Rattle.request_text.proofs.Words.{no_lane}
use Rattle.request_text.proofs.fields.lane_at.Goals as goal

pub returns-in_default-clause-none : goal.returns-in_default-clause-none
returns-in_default-clause-none c = no_lane c.args.field.now c.in-Some.lane (omega arith) c.in-Some.ensures.found (λ h. absurd (omega (arith, h.1, c.if-lane.false)))

pub returns-in_default-2-clause-none : goal.returns-in_default-2-clause-none
returns-in_default-2-clause-none c = no_lane c.args.field.now c.in-Some.lane (omega arith) c.in-Some.ensures.found (λ h. absurd (omega (arith, h.0, c.if-lane-ge1.false)))
