use Rattle.bureau_reports.proofs.Verdicts.{input_among}
use Rattle.bureau_reports.proofs.input.report_input.Goals as goal

pub returns-in-Check-clause-among : goal.returns-in-Check-clause-among
returns-in-Check-clause-among g c = input_among _ _ _ _ _ c.check_input.ensures.wrote

pub returns-in-Explain-clause-among : goal.returns-in-Explain-clause-among
returns-in-Explain-clause-among g c = input_among _ _ _ _ _ c.explain_input.ensures.wrote

pub returns-in-Import-clause-among : goal.returns-in-Import-clause-among
returns-in-Import-clause-among g c = input_among _ _ _ _ _ c.import_input.ensures.wrote
