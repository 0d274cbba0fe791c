use Rattle.std.proofs.Common.{rules, ◌≡◌, true, sym, subst}
use Rattle.claim_history.specs.declared.act.Act.{Act}
use Rattle.printed_text.specs.act_bodies.specs.Bodies.{is_keepable}
use Rattle.group_runs.proofs.Lines.{keepable_request}
use Rattle.group_runs.proofs.answering.answer_line.Goals as goal

pub take-requires-clause-keepable : goal.take-requires-clause-keepable
take-requires-clause-keepable g c =
    let request = c.args.request.now in
    let asks : c.in-Ok.act ≡ request.act = search rules in
    subst (λ (a : Act). is_keepable (record { caller = request.lane; pool = request.pool; act = a }) ≡ true) (sym asks) (keepable_request request c.requires.can)
