use Rattle.std.specs.Prelude.{slice_index}
use Rattle.std.proofs.Common.{◌≡◌, ◌<◌, ◌∙◌, ℕ, List, ap, get_or, length, set, subst, sym, arith}
use Rattle.std.proofs.lemmas.Grind.{get_or_default_zero}
use Rattle.setoff_model.specs.declared.cut.CutClaim.{CutClaim}
use Rattle.setoff_model.specs.CutView.{obligations}
use Rattle.setoff_model.proofs.Columns.{claims_long, creditor_in, debtor_in, parties_long}
use Rattle.setoff_model.proofs.Flows.{column}
use Rattle.history_text.specs.Lists.{AreListed}
use Rattle.history_text.proofs.Listing.{one_listed}
use Rattle.history_text.proofs.lists.list_claim.Goals as goal

pub returns : goal.returns
returns c =
    let cut = c.args.cut.now in
    let o = obligations cut in
    let n = c.args.place in
    let claim : CutClaim = c.index-claims-place.result in
    let x = claim.creditor in
    let y = claim.debtor in
    let firsts = c.args.lists.now.firsts.items in
    let credits = c.args.lists.now.credits.items in
    let debts = c.args.lists.now.debts.items in
    let old = c.requires.listed in
    let is : claim ≡ get_or cut.claims n claim = c.index-claims-place.is ∙ ap (λ (cs : List CutClaim). get_or cs n claim) c.claims.ensures in
    let creditor : x ≡ slice_index o.creditors n = sym (column (λ (k : CutClaim). k.creditor) cut.claims n claim is c.requires.place) in
    let debtor : y ≡ slice_index o.debtors n = sym (column (λ (k : CutClaim). k.debtor) cut.claims n claim is c.requires.place) in
    let x_within : x < length o.spends = omega (arith, creditor, creditor_in cut n c.requires.cut c.requires.place, parties_long cut) in
    let y_within : y < length o.spends = omega (arith, debtor, debtor_in cut n c.requires.cut c.requires.place, parties_long cut) in
    let first : c.index.result.now ≡ slice_index firsts x = c.index.ensures ∙ get_or_default_zero firsts x _ (omega (arith, old.first_each, x_within)) in
    let second : c.index-2.result.now ≡ slice_index firsts y = c.index-2.ensures ∙ get_or_default_zero firsts y _ (omega (arith, old.first_each, y_within)) in
    let listed = one_listed o n x y firsts credits debts old (omega (arith, c.requires.place, claims_long cut)) creditor debtor x_within y_within in
    subst (λ (v : ℕ). AreListed o n (set (set firsts x n) y n) (set credits n c.index.result.now) (set debts n v)) (sym second)
    (subst (λ (v : ℕ). AreListed o n (set (set firsts x n) y n) (set credits n v) (set debts n (slice_index firsts y))) (sym first) listed)
