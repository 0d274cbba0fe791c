use Rattle.std.proofs.Common.{◌∙◌, ◌++◌, ◌∷◌, [], ap}
use Rattle.setoff_model.specs.declared.cut.CutClaim.{CutClaim}
use Rattle.round_cut.proofs.Joined.{both_placed}
use Rattle.round_cut.proofs.building.add_claim.Goals as goal

pub returns-clause-due : goal.returns-clause-due
returns-clause-due c =
    c.in_ok-push.ensures.items
    ∙ ap (λ (x : CutClaim). c.args.due.now.items ++ x ∷ [])
    (both_placed c.args.accounts.now c.args.kind c.args.claim.now c.args.parties.now.items c.place_of.new.parties.items c.place_of-2.new.parties.items c.in_ok-debtor.debtor c.in_ok-creditor.creditor
    c.in_ok-debtor.ensures.parties c.in_ok-creditor.ensures.parties c.in_ok-debtor.ensures.place c.in_ok-creditor.ensures.place)
