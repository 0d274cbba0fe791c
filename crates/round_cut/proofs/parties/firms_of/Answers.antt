use Rattle.std.specs.Prelude.{map}
use Rattle.std.proofs.Common.{◌∙◌, ap, arith}
use Rattle.std.proofs.lemmas.List.{take_all}
use Rattle.claim_history.specs.declared.fact.AccountFact.{AccountFact}
use Rattle.round_cut.proofs.Indexed.{no_earlier, one_further}
use Rattle.round_cut.proofs.parties.firms_of.Goals as goal

pub push-requires : goal.push-requires
push-requires c =
    no_earlier (λ (a : AccountFact). a.firm) c.args.accounts.now c.loop-account.account-index c.account-item.result c.loop-account-test.true c.account-item.is c.loop-account.firms.names c.loop-account.invariant c.requires

pub loop-account-preserved : goal.loop-account-preserved
loop-account-preserved c =
    c.in_ok-push.ensures ∙ one_further (λ (a : AccountFact). a.firm) c.args.accounts.now c.loop-account.account-index c.account-item.result c.loop-account-test.true c.account-item.is c.loop-account.firms.names c.loop-account.invariant

pub returns : goal.returns
returns c = c.loop-account.invariant ∙ ap (map (λ (a : AccountFact). a.firm)) (take_all c.loop-account.account-index c.args.accounts.now (omega arith))
