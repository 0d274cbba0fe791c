use Rattle.std.specs.Prelude.{if◌then◌else◌}
use Rattle.std.proofs.Common.{Bool, sym, ◌∙◌, ap, subst}
use Rattle.claim_history.specs.declared.act.Act.{Act}
use Rattle.fact_tables.specs.Sums.{MayStand}
use Rattle.fact_tables.specs.Tables.{claims_after}
use Rattle.fact_tables.proofs.claim_table.ClaimTable.apply.Goals as goal

pub add_claim-requires-clause-stand : goal.add_claim-requires-clause-stand
add_claim-requires-clause-stand c =
    let facts = c.args.self.now.facts in
    let accepted = sym c.accepted.ensures ∙ c.if-not-accepted.false in
    subst MayStand (ap (λ (b : Bool). if b then claims_after c.args.entry.now.act facts else facts) accepted ∙ ap (λ (a : Act). claims_after a facts) c.in-File.is) c.requires.stand
