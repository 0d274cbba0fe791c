use Rattle.std.proofs.Common.{rules, refl}
use Rattle.live_intake.proofs.Taking.{begins, takes_line}
use Rattle.live_intake.proofs.lane.serve_segment.Goals as goal

pub loop-init : goal.loop-init
loop-init g c = begins c.args.service.now.shared.now.turn c.args.lane.now _ c.requires refl refl c.clear.ensures.items c.clear.ensures.len (search rules)

pub loop-preserved : goal.loop-preserved
loop-preserved g c =
    takes_line c.args.service.now.shared.now.turn c.args.lane.now c.loop.lane c.loop.invariant c.in-Line.line c.in-Line.pool c.in-Line.act c.in-Line.ensures.allowed _ c.serve-end.result
    c.in-Line.ensures.taken c.take.ensures.same (search rules) c.serve-end.ensures.ready c.push_reserved.ensures.items c.push_reserved.ensures.len c.push_reserved.ensures.capacity
