use Rattle.std.proofs.Common.{refl, ℕ, ◌++◌, ◌∷◌, [], subst, ap, ◌∙◌, sym}
use Rattle.netting_graph.specs.Pairs.{Pairs, IsPairAt}
use Rattle.netting_graph.proofs.Places.{columns, put_last}
use Rattle.netting_graph.proofs.index.ArcIndex.push.Goals as goal

-- the columns with one more pair
longer : Pairs → ℕ → ℕ → Pairs
longer v debtor creditor = record { debtors = v.debtors ++ debtor ∷ []; creditors = v.creditors ++ creditor ∷ [] }

pub returns : goal.returns
unfolding longer
returns c =
    let pairs = c.self.inside.pairs.keys in
    let none : (a : ℕ) → IsPairAt (columns pairs) c.args.debtor c.args.creditor a → ⊥ =
    subst (λ (v : Pairs). (a : ℕ) → IsPairAt v c.args.debtor c.args.creditor a → ⊥) (sym c.self.view_is) c.requires in
    put_last _ pairs c.insert.new.self.keys c.args.debtor c.args.creditor (λ x. refl) none c.in_ok-insert.ensures.keys
    ∙ ap (λ (v : Pairs). longer v c.args.debtor c.args.creditor) c.self.view_is
