use Rattle.std.proofs.Common.{rules, slice_index_or, subst}
use denote.Param.Send.{param_send, param_sync, sendable}
use Rattle.std.proofs.Crossing.{crosses, sync}
use Rattle.std.proofs.Crossing as std
use Rattle.lane_runner.specs.shared_bureau.proofs.Threads.{desk_is_shared, seat_field_of_desk_is_sent}
use Rattle.live_intake.specs.Segments.{HasServedSegment, LiveLane}
use Rattle.live_intake.proofs.Threads.{end_at, handed_is_sent}
use Rattle.live_intake.proofs.fork.serve_lanes.Lts.{arg-0-1, arg-0-2}
use Rattle.live_intake.proofs.fork.serve_lanes.Goals as goal

pub returns : goal.returns
returns g c =
    let L : Type 0 = LiveLane g.row.D.Denot in
    let turn = c.args.service.now.shared.now.turn in (
      search rules,
      λ k d lt. let h = (c.for_each_mut.ensures k d lt).1 in
          subst (λ (x : L). HasServedSegment turn x (slice_index_or c.for_each_mut.new.s k d)) h.argument_is (subst (λ (y : L). HasServedSegment turn h.argument.now y) h.left h.call),
    )

pub for_each_mut-requires-send-T : goal.for_each_mut-requires-send-T
for_each_mut-requires-send-T g c κs within =
    let ends = end_at std.send std.frees in
    let s = seat_field_of_desk_is_sent _ g.D.Disk c.type_bounds.send-D in
    let row = arg-0-1 g.row.D g.row.R g.row.V g.row.G g.row.P g.D.laws g.R.laws g.V.laws g.G.laws g.P.laws g.D.Disk g.D.Disk-dict g.R.Threads g.R.Threads-dict g.R.Wait g.R.Wait-dict g.V.Solver g.V.Solver-dict g.G.Gate g.G.Gate-dict g.P.Pause g.P.Pause-dict κs in
    param_send 1 row (search (ends, handed_is_sent, std.send, crosses, sendable) depth 20)

pub for_each_mut-requires-sync-F : goal.for_each_mut-requires-sync-F
for_each_mut-requires-sync-F g c κs within =
    let s = desk_is_shared _ g.D.Disk c.type_bounds.send-D in
    let runtime = c.type_bounds.sync-R in
    let solver = c.type_bounds.sync-V in
    let gate = c.type_bounds.sync-G in
    let pause = c.type_bounds.sync-P in
    let row = arg-0-2 g.row.D g.row.R g.row.V g.row.G g.row.P g.D.laws g.R.laws g.V.laws g.G.laws g.P.laws g.D.Disk g.D.Disk-dict g.R.Threads g.R.Threads-dict g.R.Wait g.R.Wait-dict g.V.Solver g.V.Solver-dict g.G.Gate g.G.Gate-dict g.P.Pause g.P.Pause-dict κs in
    param_sync 2 row (search (sync, crosses, sendable) depth 20)
