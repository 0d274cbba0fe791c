use Rattle.std.proofs.Common.{refl}
use Rattle.weighed_round.specs.printed_text.specs.Writing.{broken, whole}
use Rattle.chain_text.specs.Texts.{chains_text}
use Rattle.weighed_round.specs.printed_text.specs.declared.exit_status.ExitStatus.TheVariants as statuses
use Rattle.bureau_reports.proofs.Explained.{explained_due}
use Rattle.weighed_round.specs.printed_text.proofs.Statuses.{none_told, sink_told}
use Rattle.bureau_reports.proofs.explain.explain_checked.Goals as goal

pub returns-in-Ok-print_chains-clause-wrote : goal.returns-in-Ok-print_chains-clause-wrote
returns-in-Ok-print_chains-clause-wrote g c =
    let printed = c.in-Ok-print_chains.ensures.printed in
    record {
      due = statuses.Done;
      text = chains_text c.in-Ok.explainer.cut printed.chains;
      is_due = explained_due c.chains_explain.ensures c.args.input.now c.args.checked.cut c.args.checked.outcome c.requires.stated c.args.checked.proved c.in-Ok.explainer _ c.in-Ok.ensures printed.chains printed.given printed.done;
      is_written = whole printed.ok;
    }

pub returns-in-Ok-print_chains-clause-write_fault : goal.returns-in-Ok-print_chains-clause-write_fault
returns-in-Ok-print_chains-clause-write_fault g c = none_told _ _ _ c.in-Ok-print_chains.ensures.cause.kept (λ is. cc)

pub returns-clause-wrote : goal.returns-clause-wrote
returns-clause-wrote g c =
    let printed = c.in-Err.ensures.printed in
    record {
      due = statuses.Done;
      text = chains_text c.in-Ok.explainer.cut printed.chains;
      is_due = explained_due c.chains_explain.ensures c.args.input.now c.args.checked.cut c.args.checked.outcome c.requires.stated c.args.checked.proved c.in-Ok.explainer _ c.in-Ok.ensures printed.chains printed.given printed.done;
      is_written = broken printed.part;
    }

pub returns-clause-write_fault : goal.returns-clause-write_fault
returns-clause-write_fault g c = sink_told _ _ (c.in-Err.ensures.cause.cause refl)
