use Rattle.std.proofs.Common.{◌∷◌, [], ◌++◌, refl}
use Rattle.setoff_model.specs.CutView.{obligations}
use Rattle.chain_explain.specs.Chains.{chain_view}
use Rattle.chain_text.proofs.Chained.{all_given, given_of, one_more}
use Rattle.chain_text.proofs.printing.take_rest.Goals as goal

pub loop-chain-preserved : goal.loop-chain-preserved
loop-chain-preserved c =
    let old = c.args.explainer.now in
    let mid = c.loop-chain.explainer in
    let now = c.next.new.self in
    let some = c.loop-chain.invariant.some in
    let x = chain_view c.in-Some.chain now.claims in
    record { some = (some.0 ++ x ∷ [], one_more (obligations old.cut) old mid now some.0 x some.1 (given_of old mid now some.0 x some.1 c.in-Some.ensures.given)) }

pub returns : goal.returns
returns c =
    let some = c.loop-chain.invariant.some in
    let all = all_given c.args.explainer.now c.loop-chain.explainer c.next.new.self some.0 some.1 c.in_default.ensures.given (c.in_default.ensures.none.0 refl) in
    record { chains = some.0; given = all.0; done = all.1 }
