use Rattle.std.specs.Prelude.{is_some}
use Rattle.std.proofs.Common.{rules, ◌≡◌, ◌∙◌, ◌+◌, true, false, List, [], ◌∷◌, ◌++◌, take, sym, ap}
use Rattle.std.proofs.lemmas.List.{take_more}
use Rattle.request_text.specs.declared.request.Request.{Request}
use Rattle.group_runs.specs.Lines.{first_close_of}
use Rattle.group_runs.proofs.FirstClose.{can_yet, found_first, none_yet}
use Rattle.group_runs.proofs.closes.first_close.Goals as goal

pub returns-then-is_some-clause-first : goal.returns-then-is_some-clause-first
returns-then-is_some-clause-first c =
    let bs = c.args.batches.now in
    let i = c.loop-batch.batch-index in
    let b = c.batch-item.result in
    let item : take (i + 1) bs ≡ take i bs ++ b ∷ [] = take_more bs i b c.loop-batch-test.true ∙ ap (λ (l : List Request). take i bs ++ l ∷ []) (sym c.batch-item.is) in
    let is : c.first_of-found.result ≡ first_close_of b = c.first_of-found.ensures ∙ ap first_close_of c.requests.ensures.requests in
    let some : is_some c.first_of-found.result ≡ true = search rules in
    found_first bs i b item c.loop-batch.invariant.none c.first_of-found.result is some

pub loop-batch-preserved : goal.loop-batch-preserved
loop-batch-preserved c =
    let bs = c.args.batches.now in
    let i = c.loop-batch.batch-index in
    let b = c.batch-item.result in
    let item : take (i + 1) bs ≡ take i bs ++ b ∷ [] = take_more bs i b c.loop-batch-test.true ∙ ap (λ (l : List Request). take i bs ++ l ∷ []) (sym c.batch-item.is) in
    let is : c.first_of-found.result ≡ first_close_of b = c.first_of-found.ensures ∙ ap first_close_of c.requests.ensures.requests in
    let none : is_some c.first_of-found.result ≡ false = search rules in
    record {
      none = none_yet bs i b item c.loop-batch.invariant.none c.first_of-found.result is none;
      can = can_yet bs i b item c.loop-batch.invariant.none c.first_of-found.result is none c.requests.ensures.in_order c.loop-batch.invariant.can;
    }
