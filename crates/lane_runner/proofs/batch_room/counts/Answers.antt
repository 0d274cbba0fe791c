use Rattle.std.proofs.Common.{rules, ◌+◌, ◌-◌, ◌^◌, ◌<◌, ◌≤◌, take, sym, subst, arith}
use Rattle.std.proofs.lemmas.List.{length-take-le}
use Rattle.setoff_model.specs.declared.limits.TheConstants.{MOST_LANES}
use Rattle.served_lines.specs.request_text.specs.declared.request.Request.{Request}
use Rattle.served_lines.proofs.OfLane.{few_of_lane}
use Rattle.lane_runner.proofs.batch_room.counts.Goals as goal

pub overflow_add-counts : goal.overflow_add-counts
overflow_add-counts c =
    let rs = c.args.requests.now in
    let i = c.loop-request.request-index in
    let r = c.request-item.result in
    let l = r.lane - 1 in
    let low = c.if-request-gt0.true in
    let few : r.lane ≤ MOST_LANES = subst (λ (x : Request). x.lane ≤ MOST_LANES) (sym c.request-item.is) (c.requires i r c.loop-request-test.true) in
    let count = c.loop-request.invariant.counted l (omega (arith, low, few)) in
    let fewer = few_of_lane (l + 1) (take i rs) in
    let lt = c.loop-request-test.true in
    let short = length-take-le i rs (omega (arith, lt)) in
    let small : i + 1 < 2 ^ 64 = search rules in
    omega (arith, count, fewer, short, small)
