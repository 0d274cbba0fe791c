use Rattle.std.proofs.Common.{◌≡◌, ℕ, List, ◌++◌, ap, ◌∙◌, refl, subst}
use Rattle.command_words.specs.declared.input_report.InputReport.TheVariants as inputs
use Rattle.weighed_round.specs.printed_text.specs.declared.exit_status.ExitStatus.{ExitStatus}
use Rattle.weighed_round.specs.printed_text.specs.Texts.{verdict_text, verdict_status}
use Rattle.weighed_round.specs.printed_text.specs.Writing.{IsWritten}
use Rattle.bureau_reports.specs.Inputs.{IsInputDue, reported}
use Rattle.bureau_reports.proofs.Written.{wrote_text}
use Rattle.bureau_reports.proofs.check.check_statement.Goals as goal

pub returns-clause-wrote : goal.returns-clause-wrote
returns-clause-wrote g c =
    let verdict = c.verdict-verdict.result in
    let said : c.as_slice.result.now ≡ verdict_text c.args.cut.now verdict = ◌∙◌ {A = List ℕ} c.as_slice.ensures.value (◌∙◌ {A = List ℕ} c.write_verdict.ensures.text (ap (λ (t : List ℕ). t ++ verdict_text c.args.cut.now verdict) c.in-Ok.ensures.items)) in
    let written = subst (λ (n : ExitStatus). IsWritten (g.K.Sink.held c.args.sink.now) (g.K.Sink.held c.end_with.new.sink) n c.as_slice.result.now c.end_with.result) c.status_of_verdict.ensures c.end_with.ensures.written in
    wrote_text (IsInputDue inputs.Check c.args.input.now) _ _ (verdict_status verdict) (verdict_text c.args.cut.now verdict) c.as_slice.result.now _
    (reported (verdict_status verdict) (verdict_text c.args.cut.now verdict) (record {
      cut = c.args.cut.now;
      outcome = c.args.outcome.now;
      stated = c.requires;
      verdict = verdict;
      verdict_is = c.verdict-verdict.ensures.verdict;
      status_is = refl;
      text_is = refl;
    })) said written
