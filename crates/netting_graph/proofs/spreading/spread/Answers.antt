use Rattle.std.proofs.Common.{◌≡◌, ℕ, List, ◌∙◌, subst}
use Rattle.std.proofs.lemmas.Result.{IfOk-weaker}
use Rattle.std.specs.Result.{IfOk}
use Rattle.setoff_model.specs.Setoff.{total_of}
use Rattle.netting_graph.specs.Merging.{IsSpread}
use Rattle.netting_graph.proofs.Kept.{spread_law, bound_law}
use Rattle.netting_graph.proofs.spreading.spread.Goals as goal

pub returns-clause-spread : goal.returns-clause-spread
returns-clause-spread c =
    subst (λ (flows : List ℕ). IfOk c.fill_all.result (λ d. IsSpread c.args.cut.now c.args.net.now flows d.items)) (c.deref_mut.ensures.value ∙ c.in_ok-left.ensures.items) c.fill_all.ensures

pub returns-clause-total : goal.returns-clause-total
returns-clause-total c =
    IfOk-weaker c.fill_all.result (λ d. IsSpread c.args.cut.now c.args.net.now c.args.flows.now d.items) (λ d. total_of d.items ≡ total_of c.args.flows.now)
    (λ d is. spread_law.total c.args.cut.now c.args.net.now c.args.flows.now d.items c.requires.net c.requires.one_each is) (returns-clause-spread c)

pub returns-clause-lawful : goal.returns-clause-lawful
returns-clause-lawful c =
    IfOk-weaker c.fill_all.result (λ d. IsSpread c.args.cut.now c.args.net.now c.args.flows.now d.items) _
    (λ d is lawful. spread_law.lawful c.args.cut.now c.args.net.now c.args.flows.now d.items c.requires.net lawful is) (returns-clause-spread c)

pub returns-clause-greatest : goal.returns-clause-greatest
returns-clause-greatest c =
    IfOk-weaker c.fill_all.result (λ d. IsSpread c.args.cut.now c.args.net.now c.args.flows.now d.items) _
    (λ d is best. bound_law.greatest c.args.cut.now c.args.net.now c.args.flows.now d.items c.requires.net is best) (returns-clause-spread c)
