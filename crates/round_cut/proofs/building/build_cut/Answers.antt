use Rattle.std.proofs.Common.{◌∙◌, List, sym, ap₂, subst}
use Rattle.setoff_model.specs.declared.cut.Party.{Party}
use Rattle.setoff_model.specs.declared.cut.CutClaim.{CutClaim}
use Rattle.setoff_model.specs.CutView.{CutView, WellFormed}
use Rattle.round_cut.proofs.Formed.{formed}
use Rattle.round_cut.proofs.building.build_cut.Goals as goal

pub returns-clause-cut : goal.returns-clause-cut
returns-clause-cut c =
    let made : List Party → List CutClaim → CutView = λ ps cs. record { round = c.args.round; kind = c.args.kind; parties = ps; claims = cs } in
    c.new.ensures ∙ ap₂ made c.in_ok-add_due.ensures.parties c.in_ok-add_due.ensures.due

pub returns-clause-formed : goal.returns-clause-formed
returns-clause-formed c = subst WellFormed (sym (returns-clause-cut c)) (formed c.args.round c.args.claims.now c.args.accounts.now c.args.kind c.args.horizon c.requires)
