use Rattle.std.specs.Prelude.{map, slice_index}
use Rattle.std.proofs.Common.{List, ◌<◌, ◌≤◌, length, get_or, ◌∙◌, ap, subst, refl, arith}
use Rattle.setoff_model.specs.declared.cut.CutClaim.{CutClaim}
use Rattle.fact_tables.specs.Tables.{with_receipt}
use Rattle.fact_tables.proofs.Settle.{claim_after, claim_next, claims_whole, map_step, map_start, reduced_none}
use Rattle.fact_tables.proofs.claim_table.ClaimTable.discharge.Goals as goal

pub loop-i-init : goal.loop-i-init
loop-i-init c = record { facts = map_start (claim_after c.args.cut.now c.args.discharges.now 0) c.args.self.now.facts reduced_none; marks = refl; room = refl }

pub loop-i-preserved : goal.loop-i-preserved
loop-i-preserved c =
    let cut = c.args.cut.now in
    let i = c.loop-i.i in
    let x = c.claim-item.result in
    let lt = subst (λ (cs : List CutClaim). i < length cs) c.claims-claim-items.ensures c.loop-i-test.true in
    let is = c.claim-item.is ∙ ap (λ (cs : List CutClaim). get_or cs i x) c.claims-claim-items.ensures in
    record {
      facts = c.settle.ensures.facts
          ∙ ap (map (with_receipt x.key (slice_index c.args.discharges.now i))) c.loop-i.invariant.facts
          ∙ map_step (with_receipt x.key (slice_index c.args.discharges.now i)) (claim_after cut c.args.discharges.now i) _ c.args.self.now.facts
          (claim_next cut c.args.discharges.now i x (slice_index c.args.discharges.now i) c.requires.formed.keys lt is refl);
      marks = c.settle.ensures.marks ∙ c.loop-i.invariant.marks;
      room = c.settle.ensures.room ∙ c.loop-i.invariant.room;
    }

pub returns-clause-facts : goal.returns-clause-facts
returns-clause-facts c =
    c.loop-i.invariant.facts
    ∙ claims_whole c.args.cut.now c.args.discharges.now c.loop-i.i c.args.self.now.facts (subst (λ (cs : List CutClaim). length cs ≤ c.loop-i.i) c.claims-claim-items.ensures (omega arith))
