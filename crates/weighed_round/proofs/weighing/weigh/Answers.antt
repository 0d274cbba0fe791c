use Rattle.std.proofs.lemmas.Result.{IfOk-weaker}
use Rattle.std.proofs.Common.{◌∙◌, ℕ, List, subst, sym}
use Rattle.setoff_model.specs.CutView.{obligations}
use Rattle.setoff_model.specs.Weighted.{ProvesWeighted}
use Rattle.printed_text.specs.claim_book.specs.Book.{ledger_of}
use Rattle.weighed_round.proofs.Overdue.{cut_is, text_is, weights_fit, weights_is}
use Rattle.weighed_round.proofs.weighing.weigh.Goals as goal

pub solve_weighted-requires-clause-weights : goal.solve_weighted-requires-clause-weights
solve_weighted-requires-clause-weights c =
    let history = c.args.book.now.history in
    let cut = cut_is c.cut_of_a_history_is_of_its_facts.ensures.cut history c.claims.ensures.legal c.claims.ensures.valid c.args.kind c.args.today _ _ c.in_ok-cut.cut c.claims.ensures.claims c.accounts.ensures.accounts c.in_ok-cut.ensures.cut in
    let weights = weights_is (ledger_of history) c.args.today _ c.in_ok-weights.weights.items c.claims-2.ensures.claims c.in_ok-weights.ensures in
    weights_fit (ledger_of history) c.args.kind c.args.today c.in_ok-cut.cut c.as_slice.result.now cut (c.as_slice.ensures.value ∙ weights)

pub text_of-requires-clause-weights : goal.text_of-requires-clause-weights
text_of-requires-clause-weights c =
    let history = c.args.book.now.history in
    let cut = cut_is c.cut_of_a_history_is_of_its_facts.ensures.cut history c.claims.ensures.legal c.claims.ensures.valid c.args.kind c.args.today _ _ c.in_ok-cut.cut c.claims.ensures.claims c.accounts.ensures.accounts c.in_ok-cut.ensures.cut in
    let weights = weights_is (ledger_of history) c.args.today _ c.in_ok-weights.weights.items c.claims-2.ensures.claims c.in_ok-weights.ensures in
    weights_fit (ledger_of history) c.args.kind c.args.today c.in_ok-cut.cut c.as_slice-2.result.now cut (c.as_slice-2.ensures.value ∙ weights)

pub returns : goal.returns
returns c =
    let history = c.args.book.now.history in
    let cut = cut_is c.cut_of_a_history_is_of_its_facts.ensures.cut history c.claims.ensures.legal c.claims.ensures.valid c.args.kind c.args.today _ _ c.in_ok-cut.cut c.claims.ensures.claims c.accounts.ensures.accounts c.in_ok-cut.ensures.cut in
    let weights = weights_is (ledger_of history) c.args.today _ c.in_ok-weights.weights.items c.claims-2.ensures.claims c.in_ok-weights.ensures in
    IfOk-weaker c.text_of.result _ _
    (λ text said. text_is (ledger_of history) c.args.kind c.args.today c.in_ok-cut.cut c.as_slice-2.result.now c.in_ok-outcome.outcome text.items cut (c.as_slice-2.ensures.value ∙ weights) (subst (λ (ws : List ℕ). ProvesWeighted (obligations c.in_ok-cut.cut) ws c.in_ok-outcome.outcome.discharges c.in_ok-outcome.outcome.prices) (c.as_slice.ensures.value ∙ sym c.as_slice-2.ensures.value) c.in_ok-outcome.ensures.proved) said)
    c.text_of.ensures
