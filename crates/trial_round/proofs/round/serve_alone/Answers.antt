use Rattle.std.specs.Prelude.{Option, Some, None, MatchOption}
use Rattle.std.proofs.Common.{◌≡◌, ◌∙◌, List, [], ◌++◌, length, ap, sym, subst}
use Rattle.claim_history.specs.declared.call.PoolEntry.{PoolEntry}
use Rattle.claim_history.specs.PoolRounds.{cuts_after}
use Rattle.request_text.specs.declared.request.Request.{Request}
use Rattle.lane_runner.specs.served_lines.specs.declared.answer.Answer.{Answer}
use Rattle.lane_runner.specs.served_lines.specs.Served.{IsServed}
use Rattle.trial_round.proofs.round.serve_alone.Goals as goal

served_by : (batch : List Request) (answers : Option (List Answer)) (old new added : List PoolEntry) → old ≡ [] → new ≡ old ++ added → MatchOption answers (added ≡ []) (λ list. IsServed batch list old added) → MatchOption answers (Unit {0}) (λ list. IsServed batch list [] new)
served_by batch None old new added none is served = tt
served_by batch (Some list) old new added none is served =
    subst (IsServed batch list []) (ap (λ (l : List PoolEntry). l ++ added) (sym none) ∙ sym is) (subst (λ (l : List PoolEntry). IsServed batch list l added) none served)

pub returns : goal.returns
returns g c =
    let ran = c.run_batch-end.ensures in
    let old = c.in_ok-desk.desk in
    let end = c.run_batch-end.result in
    let none : old.history ≡ [] = c.in_ok-desk.ensures in
    record {
      served = served_by c.args.batch.now end.answers old.history end.desk.history ran.added none ran.history ran.served;
      rounds = ran.rounds ∙ ap (λ (l : List PoolEntry). cuts_after (length l) end.desk.history) none;
    }
