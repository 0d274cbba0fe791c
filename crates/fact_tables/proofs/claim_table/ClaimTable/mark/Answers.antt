use Rattle.std.specs.Prelude.{map, take, is_some}
use Rattle.std.proofs.Common.{Bool, ◌<◌, ◌≤◌, ◌||◌, List, length, get_or, sym, ◌∙◌, ap, subst, arith}
use Rattle.setoff_model.specs.declared.cut.CutClaim.{CutClaim}
use Rattle.setoff_model.specs.Same.{same_key}
use Rattle.claim_history.specs.Facts.{claim_place}
use Rattle.claim_history.specs.declared.fact.ClaimFact.{ClaimFact}
use Rattle.fact_tables.specs.Marks.{claims_in}
use Rattle.fact_tables.proofs.Marking.{next_are, all_are}
use Rattle.fact_tables.proofs.Names.{key_flip}
use Rattle.fact_tables.proofs.claim_table.ClaimTable.mark.Goals as goal

pub loop-claim-preserved : goal.loop-claim-preserved
loop-claim-preserved c =
    let claims = c.args.cut.now.claims in
    let i = c.loop-claim.claim-index in
    let x = c.claim-item.result in
    let rows = c.unmark.new.self.facts in
    let lt = subst (λ (cs : List CutClaim). i < length cs) c.claims-claim-items.ensures c.loop-claim-test.true in
    let is = c.claim-item.is ∙ ap (λ (cs : List CutClaim). get_or cs i x) c.claims-claim-items.ensures in
    let test : ClaimFact → Bool = λ r. is_some (claim_place (take i claims) r.key) in
    record {
      facts = c.mark_claim.ensures.facts ∙ c.loop-claim.invariant.facts;
      marks = c.mark_claim.ensures.marks test (c.loop-claim.invariant.marks ∙ ap (map test) (sym c.loop-claim.invariant.facts))
          ∙ ap (map (λ (r : ClaimFact). same_key x.key r.key || test r)) c.loop-claim.invariant.facts
          ∙ next_are (λ (r : ClaimFact). r.key) (λ (y : CutClaim). y.key) same_key key_flip claims rows i x lt is;
      room = c.mark_claim.ensures.room ∙ c.loop-claim.invariant.room;
    }

pub returns-clause-marks : goal.returns-clause-marks
returns-clause-marks c =
    c.loop-claim.invariant.marks
    ∙ all_are (λ (r : ClaimFact). r.key) (λ (y : CutClaim). y.key) same_key key_flip c.args.cut.now.claims c.unmark.new.self.facts c.loop-claim.claim-index (subst (λ (cs : List CutClaim). length cs ≤ c.loop-claim.claim-index) c.claims-claim-items.ensures (omega arith))
    ∙ ap (claims_in c.args.cut.now) c.unmark.ensures.facts
