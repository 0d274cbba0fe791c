use Rattle.std.specs.Prelude.{if◌then◌else◌, Bool, false, ◌++◌, ◌∷◌, []}
use Rattle.std.proofs.Common.{◌<◌, sym, ◌∙◌, ap, subst, refl, arith}
use Rattle.setoff_model.specs.Same.{same_key}
use Rattle.setoff_model.proofs.SameNames.{key_same}
use Rattle.claim_history.specs.declared.fact.ClaimFact.{ClaimFact}
use Rattle.fact_tables.specs.Tables.{ClaimsView, new_claim}
use Rattle.fact_tables.specs.Sums.{MayStand}
use Rattle.name_index.proofs.Rows.{longer}
use Rattle.fact_tables.proofs.Marking.{one_longer}
use Rattle.fact_tables.proofs.Keyed.{is_new}
use Rattle.fact_tables.proofs.Summed.{sums_filed}
use Rattle.fact_tables.proofs.claim_table.ClaimTable.add_claim.Goals as goal

pub add-requires-clause-new : goal.add-requires-clause-new
add-requires-clause-new c =
    let claim = new_claim c.args.key.now c.args.debtor.now c.args.amount c.args.due.now in
    let stand = subst (λ (t : ClaimsView). MayStand (t.facts ++ claim ∷ [])) (sym c.self.view_is) c.requires.stand in
    is_new (λ (r : ClaimFact). r.key) (same_key c.args.key.now) c.self.inside.keys.keys c.self.inside.facts.items claim c.self.invariant.keys_are (key_same c.args.key.now) (stand.once c.args.key.now)

pub invariant_of-self : goal.invariant_of-self
invariant_of-self c =
    let claim = new_claim c.args.key.now c.args.debtor.now c.args.amount c.args.due.now in
    let facts = c.self.inside.facts.items in
    let stand = subst (λ (t : ClaimsView). MayStand (t.facts ++ claim ∷ [])) (sym c.self.view_is) c.requires.stand in
    let marks = c.self.inside.marks.items in
    rw (c.push_reserved-2.ensures.items, c.push_reserved.ensures.items, c.add.ensures.keys)
    (record {
      keys_are = longer (λ (r : ClaimFact). r.key) c.self.inside.keys.keys facts c.self.invariant.keys_are claim;
      one_each = one_longer marks facts false claim c.self.invariant.one_each;
      stand = stand;
      owed_to = sums_filed (λ (r : ClaimFact). r.key.creditor) facts c.self.inside.receivables c.begin.new.self claim c.self.invariant.owed_to refl c.begin.ensures.begun c.begin.ensures.known c.begin.ensures.sums;
      owed_by = sums_filed (λ (r : ClaimFact). r.debtor) facts c.self.inside.payables c.begin-2.new.self claim c.self.invariant.owed_by refl c.begin-2.ensures.begun c.begin-2.ensures.known c.begin-2.ensures.sums;
    })
