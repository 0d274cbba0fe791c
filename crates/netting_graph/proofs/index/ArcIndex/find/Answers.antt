use Rattle.std.proofs.Common.{refl, ℕ, subst, MatchOption}
use Rattle.netting_graph.specs.Pairs.{Pairs, IsPairAt}
use Rattle.netting_graph.proofs.Places.{found}
use Rattle.netting_graph.proofs.index.ArcIndex.find.Goals as goal

pub returns : goal.returns
returns c =
    let at = found _ c.self.inside.pairs.keys c.args.debtor c.args.creditor c.get_index_of.result (λ x. refl)
    c.get_index_of.ensures.index c.get_index_of.ensures.found in
    subst (λ (v : Pairs). MatchOption c.get_index_of.result ((a : ℕ) → IsPairAt v c.args.debtor c.args.creditor a → ⊥)
    (IsPairAt v c.args.debtor c.args.creditor)) c.self.view_is at
