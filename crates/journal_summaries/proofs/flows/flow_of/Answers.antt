use Rattle.std.proofs.Common.{◌∙◌, List, ℕ, ap, subst, sym}
use Rattle.setoff_model.specs.CutView.{obligations}
use Rattle.setoff_model.specs.Setoff.{IsLawful}
use Rattle.printed_text.specs.claim_history.specs.Acts.{is_publication}
use Rattle.printed_text.specs.claim_history.specs.States.{discharges_of}
use Rattle.journal_summaries.proofs.Flowing.{added_is, taken_is}
use Rattle.journal_summaries.proofs.flows.flow_of.Goals as goal

pub discharges_in-requires : goal.discharges_in-requires
discharges_in-requires c = ap is_publication (c.requires c.in-Some.cut c.in-Some.is).asks

pub flow_of_round-requires-clause-formed : goal.flow_of_round-requires-clause-formed
flow_of_round-requires-clause-formed c = (c.requires c.in-Some.cut c.in-Some.is).formed

pub flow_of_round-requires-clause-lawful : goal.flow_of_round-requires-clause-lawful
flow_of_round-requires-clause-lawful c =
    let of_it = c.requires c.in-Some.cut c.in-Some.is in
    subst (λ (d : List ℕ). IsLawful (obligations c.in-Some.cut) d) (sym (c.discharges_in.ensures ∙ ap discharges_of of_it.asks)) of_it.lawful

pub returns-in-Some-clause-added : goal.returns-in-Some-clause-added
returns-in-Some-clause-added c =
    c.flow_of_round.ensures.added ∙ added_is c.args.firm.now c.in-Some.cut c.args.cut.now c.args.entry.now c.discharges_in.result.now (c.requires c.in-Some.cut c.in-Some.is) c.in-Some.is c.discharges_in.ensures

pub returns-in-Some-clause-taken : goal.returns-in-Some-clause-taken
returns-in-Some-clause-taken c =
    c.flow_of_round.ensures.taken ∙ taken_is c.args.firm.now c.in-Some.cut c.args.cut.now c.args.entry.now c.discharges_in.result.now (c.requires c.in-Some.cut c.in-Some.is) c.in-Some.is c.discharges_in.ensures
