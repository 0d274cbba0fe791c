use Rattle.std.specs.Prelude.{map, set, sum_by}
use Rattle.std.proofs.Common.{ℕ, ◌<◌, ◌^◌, List, sym, ◌∙◌, ap, subst}
use Rattle.setoff_model.specs.Same.{same_key}
use Rattle.claim_history.specs.declared.fact.ClaimFact.{ClaimFact}
use Rattle.fact_tables.specs.Tables.{ClaimsView, restated, with_status}
use Rattle.fact_tables.proofs.Places.{step_at, step_none}
use Rattle.name_index.proofs.Rows.{row_place}
use Rattle.fact_tables.proofs.claim_table.ClaimTable.set_status.Goals as goal

pub put-requires-clause-small : goal.put-requires-clause-small
put-requires-clause-small c =
    let facts = c.self.inside.facts.items in
    let found = row_place (λ (r : ClaimFact). r.key) c.self.inside.keys.keys facts c.self.invariant.keys_are (same_key c.args.key.now) _ (sym c.in-Some.is ∙ c.place.ensures) in
    let stepped = ap (λ (t : ClaimsView). set t.facts c.in-Some.place (record c.index.result.now { status = c.args.status; part = c.part_of-part.result })) (sym c.self.view_is)
    ∙ ap (λ (n : ℕ). set facts c.in-Some.place (record c.index.result.now { status = c.args.status; part = n })) c.part_of-part.ensures
    ∙ ap (λ (x : ClaimFact). set facts c.in-Some.place (restated c.args.status c.args.agreed x)) c.index.ensures
    ∙ step_at (λ (r : ClaimFact). same_key c.args.key.now r.key) (restated c.args.status c.args.agreed) facts c.in-Some.place c.index.result.now found (c.self.invariant.stand.once c.args.key.now)
    ∙ ap (λ (t : ClaimsView). map (with_status c.args.key.now c.args.status c.args.agreed) t.facts) c.self.view_is in
    subst (λ (cs : List ClaimFact). sum_by (λ r. r.part) cs < 2 ^ 64) (sym stepped) c.requires.small

pub returns-in-Some-clause-facts : goal.returns-in-Some-clause-facts
returns-in-Some-clause-facts c =
    let facts = c.self.inside.facts.items in
    let found = row_place (λ (r : ClaimFact). r.key) c.self.inside.keys.keys facts c.self.invariant.keys_are (same_key c.args.key.now) _ (sym c.in-Some.is ∙ c.place.ensures) in
    c.put.ensures.facts ∙ ap (λ (t : ClaimsView). set t.facts c.in-Some.place (record c.index.result.now { status = c.args.status; part = c.part_of-part.result })) (sym c.self.view_is)
    ∙ ap (λ (n : ℕ). set facts c.in-Some.place (record c.index.result.now { status = c.args.status; part = n })) c.part_of-part.ensures
    ∙ ap (λ (x : ClaimFact). set facts c.in-Some.place (restated c.args.status c.args.agreed x)) c.index.ensures
    ∙ step_at (λ (r : ClaimFact). same_key c.args.key.now r.key) (restated c.args.status c.args.agreed) facts c.in-Some.place c.index.result.now found (c.self.invariant.stand.once c.args.key.now)
    ∙ ap (λ (t : ClaimsView). map (with_status c.args.key.now c.args.status c.args.agreed) t.facts) c.self.view_is

pub returns-in_default-clause-facts : goal.returns-in_default-clause-facts
returns-in_default-clause-facts c =
    let facts = c.self.inside.facts.items in
    let none = row_place (λ (r : ClaimFact). r.key) c.self.inside.keys.keys facts c.self.invariant.keys_are (same_key c.args.key.now) _ (sym c.in_default.is ∙ c.place.ensures) in
    ap (λ (t : ClaimsView). t.facts) (sym c.self.view_is)
    ∙ step_none (λ (r : ClaimFact). same_key c.args.key.now r.key) (restated c.args.status c.args.agreed) facts none
    ∙ ap (λ (t : ClaimsView). map (with_status c.args.key.now c.args.status c.args.agreed) t.facts) c.self.view_is
