use Rattle.std.proofs.Common.{rules, ◌≡◌, ◌∙◌, ◌≤◌, List, ◌++◌, All, arith, length, sym, ap, subst, vec_len}
use Rattle.lane_runner.specs.request_text.specs.declared.request.Request.{Request}
use Rattle.lane_runner.specs.Merging.{HasMergedMore, HaveEnds}
use Rattle.live_intake.proofs.Served.{all_among, have_ends, ready_again, served_so}
use Rattle.live_intake.proofs.segments.serve_next.Goals as goal

pub run_segment-ended-requires-clause-all : goal.run_segment-ended-requires-clause-all
run_segment-ended-requires-clause-all g c κs within = sym c.requires.ready.joined.same ∙ c.requires.ready.many

pub run_segment-ended-requires-clause-joined : goal.run_segment-ended-requires-clause-joined
run_segment-ended-requires-clause-joined g c κs within = c.requires.ready.joined

pub run_segment-ended-requires-clause-fit : goal.run_segment-ended-requires-clause-fit
run_segment-ended-requires-clause-fit g c κs within = c.requires.ready.fit

pub merge-requires-clause-few : goal.merge-requires-clause-few
merge-requires-clause-few g c = let t = c.run_segment-ended.ensures.served.all in let m = c.requires.ready.many in search rules

pub merge-requires-clause-lanes : goal.merge-requires-clause-lanes
merge-requires-clause-lanes g c =
    let told = c.run_segment-ended.ensures in
    subst (λ (l : List Request). All (λ r. (1 ≤ r.lane) × (r.lane ≤ length c.run_segment-ended.new.lanes)) l) (sym c.as_slice.ensures.value)
    (all_among c.args.service.now.shared.now.turn c.run_segment-ended.new.requests.items c.args.rings.now c.run_segment-ended.new.rings c.args.lanes.now c.run_segment-ended.new.lanes c.requires.ready told.joined told.served told.own)

pub merge-requires-clause-all : goal.merge-requires-clause-all
merge-requires-clause-all g c =
    let told = c.run_segment-ended.ensures in
    subst (λ (l : List Request). HaveEnds l c.run_segment-ended.new.lanes) (sym c.as_slice.ensures.value)
    (have_ends c.args.service.now.shared.now.turn c.run_segment-ended.new.requests.items c.args.rings.now c.run_segment-ended.new.rings c.args.lanes.now c.run_segment-ended.new.lanes c.requires.ready told.joined told.served)

pub returns-clause-served : goal.returns-clause-served
returns-clause-served g c =
    let told = c.run_segment-ended.ensures in
    let new = c.run_segment-ended.new in
    let merged : HasMergedMore new.requests.items new.lanes new.answers.items c.merge.new.answers.items = subst (λ (l : List Request). HasMergedMore l new.lanes new.answers.items c.merge.new.answers.items) c.as_slice.ensures.value c.merge.ensures.merged in
    record {
      requests = new.requests.items;
      later = merged.later;
      answers_are = merged.is ∙ ap (λ l. l ++ merged.later) told.answers.items;
      ready = ready_again c.args.service.now.shared.now.turn new.requests.items c.args.rings.now new.rings c.args.lanes.now new.lanes c.requires.ready told.joined told.served;
      served = served_so c.args.service.now.shared.now.turn new.requests.items c.args.rings.now new.rings c.args.lanes.now new.lanes c.requires.ready told.joined told.served told.own merged.later merged.have;
      ends = told.ends;
    }

pub run_segment-ended-requires-clause-answers : goal.run_segment-ended-requires-clause-answers
run_segment-ended-requires-clause-answers g c κs within = omega (arith, c.requires.answers, c.clear.ensures.len)

pub merge-requires-clause-spare : goal.merge-requires-clause-spare
merge-requires-clause-spare g c =
    let room = c.run_segment-ended.ensures.answers.room in
    let long : length c.as_slice.result.now ≡ vec_len c.run_segment-ended.new.requests = search rules in
    omega (arith, room, long)

pub returns-clause-answers : goal.returns-clause-answers
returns-clause-answers g c none =
    let spare = c.run_segment-ended.ensures.answers.spare none in
    let long : length c.as_slice.result.now ≡ vec_len c.run_segment-ended.new.requests = search rules in
    omega (arith, spare, long, c.merge.ensures.len, c.merge.ensures.capacity)

pub returns-clause-moves : goal.returns-clause-moves
returns-clause-moves g c none = c.run_segment-ended.ensures.answers.moves none
