-- A claim that is put in another's place.
use Rattle.std.specs.Prelude.{set, sum_by}
use Rattle.std.proofs.Common.{◌≡◌, ℕ, ◌<◌, ◌^◌, List, length, get_or, sym, ◌∙◌, ap, subst}
use Rattle.setoff_model.specs.declared.name.Key.{Key}
use Rattle.claim_history.specs.declared.fact.ClaimFact.{ClaimFact}
use Rattle.fact_tables.specs.Tables.{ClaimsView}
use Rattle.fact_tables.proofs.Summed.{read_at}

-- y in the place of x has its key and its debtor, and the parts together fit
pub record IsPutFor (facts : List ClaimFact) (place : ℕ) (x y : ClaimFact) : Type 0 where
  pub within : place < length facts
  pub key : y.key ≡ (get_or facts place y).key
  pub creditor : y.key.creditor ≡ x.key.creditor
  pub debtor : y.debtor ≡ x.debtor
  pub small : sum_by (λ c. c.part) (set facts place y) < 2 ^ 64

-- what the view of a table says of a claim that is to be put, said of the table's rows
pub put_for : (table view : ClaimsView) (place : ℕ) (x y : ClaimFact) → table ≡ view → place < length view.facts
    → y.key ≡ (get_or view.facts place y).key → y.debtor ≡ (get_or view.facts place y).debtor
    → sum_by (λ c. c.part) (set view.facts place y) < 2 ^ 64 → x ≡ get_or table.facts place x → IsPutFor table.facts place x y
put_for table view place x y same within key debtor small is =
    let lt = subst (λ (t : ClaimsView). place < length t.facts) (sym same) within in
    let old : get_or view.facts place y ≡ x =
    ap (λ (t : ClaimsView). get_or t.facts place y) (sym same) ∙ read_at table.facts place x y lt is in
    record {
      within = lt;
      key = key ∙ ap (λ (t : ClaimsView). (get_or t.facts place y).key) (sym same);
      creditor = ap (λ (k : Key). k.creditor) key ∙ ap (λ (r : ClaimFact). r.key.creditor) old;
      debtor = debtor ∙ ap (λ (r : ClaimFact). r.debtor) old;
      small = subst (λ (t : ClaimsView). sum_by (λ c. c.part) (set t.facts place y) < 2 ^ 64) (sym same) small;
    }
