use Rattle.std.specs.Prelude.{All, min}
use Rattle.std.proofs.Common.{rules, ◌≡◌, ◌≤◌, ◌<◌, ◌∙◌, ℕ, List, [], ◌∷◌, ◌++◌, length, take, drop, refl, sym, ap, subst, append_assoc, arith}
use Rattle.std.proofs.lemmas.List.{append-nil, take_min}
use Rattle.std.proofs.lemmas.List.Elements.{All-drop, All-take}
use Rattle.request_text.specs.declared.request.Request.{Request}
use Rattle.group_runs.specs.declared.limits.TheConstants.{GROUP_LINES}
use Rattle.group_runs.specs.Lines.{CanBeLoaded}
use Rattle.group_runs.specs.Runs.{HasBrokenAt, HasServedGroup, HaveServedGroups, cut_batch}
use Rattle.group_runs.proofs.Served.{broken_one, broken_then, cut_none, cut_step, drop_min, not_empty, served_none, served_one, served_then}
use Rattle.group_runs.proofs.serving.serve_batch.Goals as goal

pub loop-rest-init : goal.loop-rest-init
loop-rest-init g c = record {
  so_far = (length c.args.requests.now, [], omega arith, refl, served_none g.D.Disk.seen c.args.loader c.args.tally.now (g.K.Sink.held c.args.sink.now) (g.W.Witness.shown c.args.witness.now) c.requires.all);
  can = c.requires.can;
  list = c.requires.list;
  empty = c.requires.empty;
  room = c.requires.spare;
  kept = refl;
}

pub serve_group-requires-clause-can : goal.serve_group-requires-clause-can
serve_group-requires-clause-can g c =
    subst (All CanBeLoaded) (sym c.split_at.ensures.front) (All-take CanBeLoaded c.min.result c.loop-rest.rest.now c.loop-rest.invariant.can)

pub returns-in-Err-clause-broken : goal.returns-in-Err-clause-broken
returns-in-Err-clause-broken g c =
    let rest = c.loop-rest.rest.now in
    let so = c.loop-rest.invariant.so_far in
    let x = g.K.Sink.held c.args.sink.now in
    let y = g.K.Sink.held c.loop-rest.sink in
    let z = g.K.Sink.held c.serve_group.new.sink in
    let u = g.W.Witness.shown c.args.witness.now in
    let v = g.W.Witness.shown c.loop-rest.witness in
    let w = g.W.Witness.shown c.serve_group.new.witness in
    let some : 0 < length rest = not_empty rest c.is_empty.result c.is_empty.ensures c.loop-rest-test.true in
    let step = cut_step so.0 rest some so.2 in
    let mid : c.min.result ≡ min GROUP_LINES (length rest) = search rules in
    let front : c.split_at.result.0.now ≡ take GROUP_LINES rest = c.split_at.ensures.front ∙ ap (λ (n : ℕ). take n rest) mid ∙ take_min GROUP_LINES rest in
    let group = take GROUP_LINES rest in
    let broken = subst (λ (rs : List Request). HasBrokenAt g.D.Disk.seen c.loop-rest.loader rs y z v w c.in-Err.broken) front c.in-Err.ensures.broken in
    record {
      requests = so.1 ++ group ∷ [];
      rest = cut_batch step.0 (drop GROUP_LINES rest);
      in_order = so.3 ∙ ap (λ (l : List (List Request)). so.1 ++ l) step.1 ∙ sym (append_assoc so.1 (group ∷ []) (cut_batch step.0 (drop GROUP_LINES rest)));
      breaks = broken_then g.D.Disk.seen c.args.loader c.loop-rest.loader so.1 c.args.tally.now c.loop-rest.tally x y u v so.4 (group ∷ []) z w c.in-Err.broken
          (broken_one g.D.Disk.seen c.loop-rest.loader group y z v w c.in-Err.broken broken);
    }

pub loop-rest-preserved : goal.loop-rest-preserved
loop-rest-preserved g c =
    let rest = c.loop-rest.rest.now in
    let so = c.loop-rest.invariant.so_far in
    let x = g.K.Sink.held c.args.sink.now in
    let y = g.K.Sink.held c.loop-rest.sink in
    let z = g.K.Sink.held c.serve_group.new.sink in
    let u = g.W.Witness.shown c.args.witness.now in
    let v = g.W.Witness.shown c.loop-rest.witness in
    let w = g.W.Witness.shown c.serve_group.new.witness in
    let some : 0 < length rest = not_empty rest c.is_empty.result c.is_empty.ensures c.loop-rest-test.true in
    let step = cut_step so.0 rest some so.2 in
    let mid : c.min.result ≡ min GROUP_LINES (length rest) = search rules in
    let front : c.split_at.result.0.now ≡ take GROUP_LINES rest = c.split_at.ensures.front ∙ ap (λ (n : ℕ). take n rest) mid ∙ take_min GROUP_LINES rest in
    let back : c.split_at.result.1.now ≡ drop GROUP_LINES rest = c.split_at.ensures.back ∙ ap (λ (n : ℕ). drop n rest) mid ∙ drop_min GROUP_LINES rest in
    let group = take GROUP_LINES rest in
    let one = subst (λ (rs : List Request). HasServedGroup g.D.Disk.seen c.loop-rest.loader c.in-Ok.loader rs c.loop-rest.tally c.serve_group.new.tally y z v w) front c.in-Ok.ensures.served in
    record {
      so_far = (
        step.0,
        so.1 ++ group ∷ [],
        subst (λ (rs : List Request). length rs ≤ step.0) (sym back) step.2,
        so.3 ∙ ap (λ (l : List (List Request)). so.1 ++ l) (step.1 ∙ ap (λ (rs : List Request). group ∷ cut_batch step.0 rs) (sym back)) ∙ sym (append_assoc so.1 (group ∷ []) (cut_batch step.0 c.split_at.result.1.now)),
        served_then g.D.Disk.seen c.args.loader c.loop-rest.loader so.1 c.args.tally.now c.loop-rest.tally x y u v so.4 c.in-Ok.loader (group ∷ []) c.serve_group.new.tally z w
            (served_one g.D.Disk.seen c.loop-rest.loader c.in-Ok.loader group c.loop-rest.tally c.serve_group.new.tally y z v w one),
      );
      can = subst (All CanBeLoaded) (sym c.split_at.ensures.back) (All-drop CanBeLoaded c.min.result rest c.loop-rest.invariant.can);
      list = c.serve_group.ensures.list;
      empty = c.in-Ok.ensures.emptied;
      room = c.serve_group.ensures.room;
      kept = c.in-Ok.ensures.quiet ∙ c.loop-rest.invariant.kept;
    }

pub returns-clause-served : goal.returns-clause-served
returns-clause-served g c =
    let rest = c.loop-rest.rest.now in
    let so = c.loop-rest.invariant.so_far in
    let none : length rest ≡ 0 = search rules in
    let all : cut_batch (length c.args.requests.now) c.args.requests.now ≡ so.1 = so.3 ∙ ap (λ (l : List (List Request)). so.1 ++ l) (cut_none so.0 rest none) ∙ append-nil so.1 in
    subst (λ (l : List (List Request)). HaveServedGroups g.D.Disk.seen c.args.loader c.loop-rest.loader l c.args.tally.now c.loop-rest.tally (g.K.Sink.held c.args.sink.now) (g.K.Sink.held c.loop-rest.sink)
    (g.W.Witness.shown c.args.witness.now) (g.W.Witness.shown c.loop-rest.witness)) (sym all) so.4
