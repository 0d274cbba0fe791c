use Rattle.std.proofs.Common.{◌≡◌, ◌+◌, ◌∙◌, ◌++◌, ◌∷◌, [], List, take, sym, ap, arith}
use Rattle.std.proofs.lemmas.List.{take_all}
use Rattle.claim_history.specs.declared.fact.ClaimFact.{ClaimFact}
use Rattle.round_cut.specs.CutOfFacts.{claims_due, parties_in, claims_in}
use Rattle.round_cut.proofs.Growth.{due_yes, due_no, more_parties, more_claims}
use Rattle.round_cut.proofs.building.add_claims.Goals as goal
use Rattle.round_cut.proofs.building.add_claims.Goals.{then-is_due+in_ok-add_claim, else-is_due}

pub loop-claim-preserved : goal.loop-claim-preserved
loop-claim-preserved c =
    let i = c.loop-claim.claim-index in
    let all = c.args.claims.now in
    let x = c.claim-item.result in
    elim c.if-is_due.branch [
      | then-is_due+in_ok-add_claim w ↦
          let more : claims_due c.args.horizon (take (i + 1) all) ≡ claims_due c.args.horizon (take i all) ++ x ∷ [] = due_yes c.args.horizon all i x c.is_due.result c.loop-claim-test.true c.claim-item.is c.is_due.ensures w.if-is_due.true in
          let parties : w.add_claim.new.parties.items ≡ parties_in c.args.accounts.now c.args.kind (claims_due c.args.horizon (take (i + 1) all)) =
          more_parties c.args.accounts.now c.args.kind (claims_due c.args.horizon (take i all)) (claims_due c.args.horizon (take (i + 1) all)) x c.loop-claim.parties.items w.add_claim.new.parties.items more c.loop-claim.invariant.parties w.in_ok-add_claim.ensures.parties in
          let due : w.add_claim.new.due.items ≡ claims_in (claims_due c.args.horizon (take (i + 1) all)) =
          more_claims c.args.accounts.now c.args.kind (claims_due c.args.horizon (take i all)) (claims_due c.args.horizon (take (i + 1) all)) x w.add_claim.new.parties.items c.loop-claim.due.items w.add_claim.new.due.items more parties c.loop-claim.invariant.due w.in_ok-add_claim.ensures.due in
          rw (w.parties-is, w.due-is, w.names-is) (record { names = w.in_ok-add_claim.ensures.names; parties = parties; due = due; few = omega (arith, w.in_ok-add_claim.ensures.len, c.loop-claim.invariant.few) })
      | else-is_due w ↦
          let same : claims_due c.args.horizon (take (i + 1) all) ≡ claims_due c.args.horizon (take i all) = due_no c.args.horizon all i x c.is_due.result c.loop-claim-test.true c.claim-item.is c.is_due.ensures w.if-is_due.false in
          rw (w.parties-is, w.due-is, w.names-is) (record {
            names = c.loop-claim.invariant.names;
            parties = c.loop-claim.invariant.parties ∙ ap (parties_in c.args.accounts.now c.args.kind) (sym same);
            due = c.loop-claim.invariant.due ∙ ap claims_in (sym same);
            few = omega (arith, c.loop-claim.invariant.few);
          })
    ]

pub add_claim-requires-clause-few : goal.add_claim-requires-clause-few
add_claim-requires-clause-few c = omega (arith, c.loop-claim.invariant.few, c.loop-claim-test.true, c.requires.facts.few_claims)

pub returns-clause-parties : goal.returns-clause-parties
returns-clause-parties c =
    let whole : take c.loop-claim.claim-index c.args.claims.now ≡ c.args.claims.now = take_all c.loop-claim.claim-index c.args.claims.now (omega arith) in
    c.loop-claim.invariant.parties ∙ ap (λ (cs : List ClaimFact). parties_in c.args.accounts.now c.args.kind (claims_due c.args.horizon cs)) whole

pub returns-clause-due : goal.returns-clause-due
returns-clause-due c =
    let whole : take c.loop-claim.claim-index c.args.claims.now ≡ c.args.claims.now = take_all c.loop-claim.claim-index c.args.claims.now (omega arith) in
    c.loop-claim.invariant.due ∙ ap (λ (cs : List ClaimFact). claims_in (claims_due c.args.horizon cs)) whole
