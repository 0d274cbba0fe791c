use Rattle.std.proofs.Common.{◌≡◌, ℕ, List, ◌++◌, ap, ◌∙◌, inl, refl, subst}
use Rattle.setoff_model.specs.CutView.{CutView}
use Rattle.command_words.specs.declared.input_report.InputReport.TheVariants as inputs
use Rattle.weighed_round.specs.printed_text.specs.declared.exit_status.ExitStatus.{ExitStatus}
use Rattle.weighed_round.specs.printed_text.specs.Texts.{verdict_text, verdict_status}
use Rattle.weighed_round.specs.printed_text.specs.Writing.{IsWritten}
use Rattle.bureau_reports.specs.Inputs.{IsInputDue, IsJudged, reported}
use Rattle.bureau_reports.proofs.Verdicts.{unproved_no}
use Rattle.bureau_reports.proofs.Written.{wrote_text}
use Rattle.bureau_reports.proofs.explain.explain_statement.Goals as goal

pub returns-clause-wrote : goal.returns-clause-wrote
returns-clause-wrote g c =
    let cut = c.args.cut in
    let outcome = c.args.outcome in
    let v = c.in-Err.field-0.verdict in
    let same : c.in-Err.field-0.cut ≡ cut = c.in-Err.ensures.refused_cut in
    let said : c.as_slice.result.now ≡ verdict_text cut v =
    ◌∙◌ {A = List ℕ} c.as_slice.ensures.value (◌∙◌ {A = List ℕ} c.write_verdict.ensures.text (◌∙◌ {A = List ℕ} (ap (λ (t : List ℕ). t ++ verdict_text c.in-Err.field-0.cut v) c.in-Ok.ensures.empty) (ap (λ (k : CutView). verdict_text k v) same))) in
    let judged : IsJudged c.args.input.now (verdict_status v) (verdict_text cut v) = record {
      cut = cut;
      outcome = outcome;
      stated = c.requires;
      verdict = v;
      verdict_is = c.in-Err.ensures.verdict;
      status_is = refl;
      text_is = refl;
    } in
    let written = subst (λ (n : ExitStatus). IsWritten (g.K.Sink.held c.args.sink.now) (g.K.Sink.held c.end_with.new.sink) n c.as_slice.result.now c.end_with.result) c.status_of_verdict.ensures c.end_with.ensures.written in
    wrote_text (IsInputDue inputs.Explain c.args.input.now) _ _ (verdict_status v) (verdict_text cut v) c.as_slice.result.now _
    (reported (verdict_status v) (verdict_text cut v) (inl (unproved_no cut outcome v c.in-Err.ensures.verdict c.in-Err.ensures.refused, judged))) said written
