use denote.Param.Send.{param_send, sendable}
use Rattle.std.proofs.Crossing.{crosses, sync}
use Rattle.std.proofs.Crossing as std
use Rattle.lane_runner.specs.shared_bureau.proofs.Threads.{desk_is_shared}
use Rattle.live_intake.proofs.Threads.{end_at, handed_is_sent, lane_is_sent}
use Rattle.live_intake.proofs.segment.run_both.Lts.{arg-0-1}
use Rattle.live_intake.proofs.segment.run_both.Goals as goal

pub join_mut-stop-requires-send-F : goal.join_mut-stop-requires-send-F
join_mut-stop-requires-send-F g c κs within =
    let l = lane_is_sent _ g.D.Disk c.type_bounds.send-D in
    let ends = end_at std.send std.frees in
    let d = desk_is_shared _ g.D.Disk c.type_bounds.send-D in
    let runtime = c.type_bounds.sync-R in
    let solver = c.type_bounds.sync-V in
    let gate = c.type_bounds.sync-G in
    let pause = c.type_bounds.sync-P in
    let row = arg-0-1 g.row.D g.row.R g.row.V g.row.G g.row.P g.row.S g.D.laws g.R.laws g.V.laws g.G.laws g.P.laws g.S.laws g.D.Disk g.D.Disk-dict g.R.Threads g.R.Threads-dict g.R.Wait g.R.Wait-dict g.V.Solver g.V.Solver-dict g.G.Gate g.G.Gate-dict g.P.Pause g.P.Pause-dict g.S.Source g.S.Source-dict κs in
    param_send 1 row (search (handed_is_sent, std.send, sync, crosses, sendable) depth 60)
