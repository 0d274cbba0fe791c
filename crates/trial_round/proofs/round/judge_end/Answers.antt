use Rattle.std.specs.Prelude.{Option, Some, MatchOption}
use Rattle.std.proofs.Common.{◌≡◌, ◌∙◌, List, [], ap, sym, subst}
use Rattle.claim_history.specs.declared.call.PoolEntry.{PoolEntry}
use Rattle.claim_history.specs.PoolRounds.{cuts_after}
use Rattle.lane_runner.specs.served_lines.specs.declared.answer.Answer.{Answer}
use Rattle.lane_runner.specs.served_lines.specs.Served.{IsServed}
use Rattle.trial_round.specs.Trial.{trial_batch}
use Rattle.trial_round.proofs.round.judge_end.Goals as goal

asked : (P : List Answer → Type 0) (answers : Option (List Answer)) (list told : List Answer) → answers ≡ Some list → told ≡ list → MatchOption answers (Unit {0}) P → P told
asked P answers list told some is served = subst P (sym is) (subst (λ (a : Option (List Answer)). MatchOption a (Unit {0}) P) some served)

pub judge-requires-clause-size : goal.judge-requires-clause-size
judge-requires-clause-size c = c.requires.size

pub judge-requires-clause-served : goal.judge-requires-clause-served
judge-requires-clause-served c =
    let batch = trial_batch c.args.firms c.args.claims c.args.seed in
    subst (IsServed batch c.list.result.now []) (sym c.books-books.ensures.history)
    (asked (λ (list : List Answer). IsServed batch list [] c.args.end.now.desk.history) c.args.end.now.answers _ c.list.result.now c.in-Some.is c.list.ensures c.requires.served.served)

pub judge-requires-clause-rounds : goal.judge-requires-clause-rounds
judge-requires-clause-rounds c =
    c.rounds-rounds.ensures ∙ c.requires.served.rounds ∙ sym (ap (λ (l : List PoolEntry). cuts_after 0 l) c.books-books.ensures.history)
