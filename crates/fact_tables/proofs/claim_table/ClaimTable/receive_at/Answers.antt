use Rattle.std.specs.Prelude.{map, set, position, sum_by}
use Rattle.std.proofs.Common.{ℕ, ◌<◌, ◌^◌, sym, ◌∙◌, ap, ap₂, subst, arith}
use Rattle.std.proofs.lemmas.List.Quantifiers.{position-Some}
use Rattle.setoff_model.specs.Same.{same_key}
use Rattle.claim_history.specs.declared.fact.ClaimFact.{ClaimFact}
use Rattle.fact_tables.specs.Tables.{ClaimsView, reduced, with_receipt}
use Rattle.fact_tables.proofs.Places.{step_at, step_none}
use Rattle.fact_tables.proofs.Summed.{total_kept}
use Rattle.fact_tables.proofs.claim_table.ClaimTable.receive_at.Goals as goal

pub put-requires-clause-small : goal.put-requires-clause-small
put-requires-clause-small c =
    let facts = c.self.inside.facts.items in
    let x = c.index-claim.result.now in
    let y : ClaimFact = record x { left = c.saturating_sub-left.result; part = c.saturating_sub-part.result } in
    let found = ap (λ (t : ClaimsView). position (λ (r : ClaimFact). same_key c.args.key.now r.key) t.facts) c.self.view_is ∙ sym c.requires ∙ c.in-Some.is in
    let kept = total_kept facts c.in-Some.place x y (position-Some (λ (r : ClaimFact). same_key c.args.key.now r.key) facts c.in-Some.place x found).0 c.index-claim.ensures (omega (arith, c.saturating_sub-part.ensures)) in
    subst (λ (t : ClaimsView). sum_by (λ r. r.part) (set t.facts c.in-Some.place y) < 2 ^ 64) c.self.view_is (omega (arith, kept, c.self.invariant.stand.small))

pub returns-in-Some-clause-facts : goal.returns-in-Some-clause-facts
returns-in-Some-clause-facts c =
    let facts = c.self.inside.facts.items in
    let found = ap (λ (t : ClaimsView). position (λ (r : ClaimFact). same_key c.args.key.now r.key) t.facts) c.self.view_is ∙ sym c.requires ∙ c.in-Some.is in
    c.put.ensures.facts ∙ ap (λ (t : ClaimsView). set t.facts c.in-Some.place (record c.index-claim.result.now { left = c.saturating_sub-left.result; part = c.saturating_sub-part.result })) (sym c.self.view_is)
    ∙ ap₂ (λ (left part : ℕ). set facts c.in-Some.place (record c.index-claim.result.now { left = left; part = part })) c.saturating_sub-left.ensures c.saturating_sub-part.ensures
    ∙ ap (λ (x : ClaimFact). set facts c.in-Some.place (reduced c.args.amount x)) c.index-claim.ensures
    ∙ step_at (λ (r : ClaimFact). same_key c.args.key.now r.key) (reduced c.args.amount) facts c.in-Some.place c.index-claim.result.now found (c.self.invariant.stand.once c.args.key.now)
    ∙ ap (λ (t : ClaimsView). map (with_receipt c.args.key.now c.args.amount) t.facts) c.self.view_is

pub returns-in-None-clause-facts : goal.returns-in-None-clause-facts
returns-in-None-clause-facts c =
    step_none (λ (r : ClaimFact). same_key c.args.key.now r.key) (reduced c.args.amount) c.args.self.now.facts (sym c.requires ∙ c.in-None.is)
