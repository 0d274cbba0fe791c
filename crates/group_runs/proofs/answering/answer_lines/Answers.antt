use Rattle.std.proofs.Common.{rules, ◌≡◌, ◌∙◌, ◌+◌, List, [], ◌∷◌, ◌++◌, take, sym, ap, subst}
use Rattle.std.proofs.lemmas.List.{take_more}
use Rattle.request_text.specs.declared.request.Request.{Request}
use Rattle.group_runs.specs.Runs.{HasAnswered}
use Rattle.group_runs.proofs.Answered.{answered_more}
use Rattle.group_runs.proofs.answering.answer_lines.Goals as goal

pub loop-request-preserved : goal.loop-request-preserved
loop-request-preserved g c =
    let i = c.loop-request.request-index in
    let requests = c.args.requests.now in
    let request = c.request-item.result in
    let item : take (i + 1) requests ≡ take i requests ++ request ∷ [] =
    take_more requests i request c.loop-request-test.true ∙ ap (λ (r : Request). take i requests ++ r ∷ []) (sym c.request-item.is) in
    let pushed : c.push_reserved.new.self.items ≡ c.loop-request.answers.items ++ record { line = request.line; end = c.answer_line-end.result } ∷ [] = search rules in
    record {
      answered = subst (λ (rs : List Request). HasAnswered c.args.loader.now c.answer_line-end.new.loader rs c.push_reserved.new.self.items) (sym item)
          (answered_more c.args.loader.now c.loop-request.loader c.answer_line-end.new.loader (take i requests) c.loop-request.answers.items c.push_reserved.new.self.items request c.answer_line-end.result
          c.loop-request.invariant.answered c.answer_line-end.ensures.taken pushed);
      len = search rules;
      room = search rules;
    }
