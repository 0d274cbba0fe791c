use Rattle.std.proofs.Common.{rules, ◌≡◌, ◌∙◌, ◌-◌, ◌^◌, ◌<◌, length, refl, slice_index_or, vec_len, sym, ap, subst, arith}
use Rattle.lane_runner.specs.declared.lane.Lane.{Lane}
use Rattle.lane_runner.proofs.MergedMore.{merged, merges_more, merges_none, next_there}
use Rattle.lane_runner.proofs.merging.merge.Goals as goal

pub loop-request-init : goal.loop-request-init
loop-request-init g c = record {
  merging = merges_none c.args.requests.now c.args.lanes.now _ c.args.answers.now.items (search rules) (search rules);
  len = search rules;
  capacity = refl;
  spare = c.requires.spare;
}

pub index-end-requires : goal.index-end-requires
index-end-requires g c =
    let L : Type 0 = Lane g.row.D.Denot g.row.Q.Denot in
    let told = c.loop-request.told in
    let l = c.request-item.result.lane - 1 in
    let lane = c.index-lanes-lane.result in
    let there = next_there c.args.requests.now c.args.lanes.now c.requires.few c.requires.lanes c.requires.all c.loop-request.request-index told c.args.answers.now.items c.loop-request.answers.items c.loop-request.invariant.merging
    c.request-item.result c.loop-request-test.true c.request-item.is lane c.index-lanes-lane.is in
    let len : length lane.ends.items ≡ vec_len lane.ends = search rules in
    let here : slice_index_or told l 0 < vec_len lane.ends = omega (arith, there, len) in
    subst (λ (x : L). slice_index_or told l 0 < vec_len x.ends) c.index-lanes-lane.is here

pub overflow_add-told : goal.overflow_add-told
overflow_add-told g c =
    let lane = c.index-lanes-lane.result in
    let there = next_there c.args.requests.now c.args.lanes.now c.requires.few c.requires.lanes c.requires.all c.loop-request.request-index c.loop-request.told c.args.answers.now.items c.loop-request.answers.items c.loop-request.invariant.merging
    c.request-item.result c.loop-request-test.true c.request-item.is lane c.index-lanes-lane.is in
    let len : length lane.ends.items ≡ vec_len lane.ends = search rules in
    let small : vec_len lane.ends < 2 ^ 64 = search rules in
    omega (arith, there, len, small)

pub loop-request-preserved : goal.loop-request-preserved
loop-request-preserved g c =
    let L : Type 0 = Lane g.row.D.Denot g.row.Q.Denot in
    let inv = c.loop-request.invariant in
    let r = c.request-item.result in
    let end = c.index-end.result.now in
    let told = c.loop-request.told in
    let l = r.lane - 1 in
    record {
      merging = merges_more c.args.requests.now c.args.lanes.now c.requires.few c.requires.lanes c.requires.all c.loop-request.request-index told c.args.answers.now.items c.loop-request.answers.items inv.merging
          r c.loop-request-test.true c.request-item.is c.index-lanes-lane.result c.index-lanes-lane.is end
          (c.index-end.ensures ∙ ap (λ (x : L). slice_index_or x.ends.items (slice_index_or told l 0) end) (sym c.index-lanes-lane.is)) c.push_reserved.new.self.items c.push_reserved.ensures.items;
      len = omega (arith, c.push_reserved.ensures.len, inv.len);
      capacity = c.push_reserved.ensures.capacity ∙ inv.capacity;
      spare = omega (arith, inv.spare, c.push_reserved.ensures.capacity);
    }

pub returns-clause-merged : goal.returns-clause-merged
returns-clause-merged g c = merged c.args.requests.now c.args.lanes.now c.loop-request.request-index c.loop-request.told c.args.answers.now.items c.loop-request.answers.items c.loop-request.invariant.merging (search rules)
