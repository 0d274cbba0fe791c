use Rattle.std.proofs.Common.{rules, ◌∙◌, ◌+◌, sym, subst}
use Rattle.lane_runner.proofs.Loops.{IsRunning, begins, has_room, runs_on, runs_own}
use Rattle.lane_runner.proofs.lane_run.run_lane.Goals.{then-request-number, else-request-number}
use Rattle.lane_runner.proofs.lane_run.run_lane.Goals as goal

pub loop-request-init : goal.loop-request-init
loop-request-init g c = begins c.args.service.now.shared.now.turn c.args.requests.now c.args.lane.now c.requires.fit (search rules)

pub push_reserved-requires : goal.push_reserved-requires
push_reserved-requires g c =
    has_room c.args.service.now.shared.now.turn c.args.requests.now c.args.lane.now c.loop-request.request-index c.loop-request.lane c.loop-request.invariant c.request-item.result
    c.loop-request-test.true c.request-item.is (c.if-request-number.true ∙ c.number.ensures)

pub loop-request-preserved : goal.loop-request-preserved
loop-request-preserved g c =
    let turn = c.args.service.now.shared.now.turn in
    let rs = c.args.requests.now in
    let i = c.loop-request.request-index in
    elim c.if-request-number.branch [
      | then-request-number w ↦ subst (IsRunning turn rs c.args.lane.now (i + 1)) (sym w.lane-is)
          (runs_own turn rs c.args.lane.now i c.loop-request.lane c.loop-request.invariant c.request-item.result c.loop-request-test.true c.request-item.is
          (record c.loop-request.lane { seat = w.serve-end.new.seat; ends = w.push_reserved.new.self }) w.serve-end.result (w.if-request-number.true ∙ c.number.ensures)
          w.serve-end.ensures.served w.serve-end.ensures.ready w.push_reserved.ensures.items w.push_reserved.ensures.len w.push_reserved.ensures.capacity)
      | else-request-number w ↦ subst (IsRunning turn rs c.args.lane.now (i + 1)) (sym w.lane-is)
          (runs_on turn rs c.args.lane.now i c.loop-request.lane c.loop-request.invariant c.request-item.result c.loop-request-test.true c.request-item.is
          (λ is. w.if-request-number.false (is ∙ sym c.number.ensures)))
    ]
