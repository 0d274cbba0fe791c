use Rattle.std.proofs.Common.{ℕ, List, ◌++◌, sym, ap, ◌∙◌}
use Rattle.std.specs.Str.Lines.{lines}
use Rattle.statement_text.proofs.Texts.{empty_bad, first_bad, rest_bad}
use Rattle.statement_text.proofs.Causes.{empty_cause, round_cause}
use Rattle.statement_text.proofs.reading.read_statement.Goals as goal

pub returns-in_default-clause-bad : goal.returns-in_default-clause-bad
returns-in_default-clause-bad c = empty_bad (lines c.args.input.now) c.in_default.ensures

pub returns-in-Ok-clause-bad : goal.returns-in-Ok-clause-bad
returns-in-Ok-clause-bad c =
    rest_bad (lines c.args.input.now) _ c.read_rest.result (ap (λ (ls : List (List ℕ)). ls ++ lines c.in-Some.rest.now) c.in-Ok.ensures.first.1 ∙ sym c.in-Some.ensures.0) c.read_rest.ensures.bad

pub returns-in-Err-clause-bad : goal.returns-in-Err-clause-bad
returns-in-Err-clause-bad c = first_bad (lines c.args.input.now) c.in-Some.first.now (lines c.in-Some.rest.now) c.in-Err.e c.in-Some.ensures.0 c.in-Err.ensures.bad

pub returns-in_default-clause-cause : goal.returns-in_default-clause-cause
returns-in_default-clause-cause c = empty_cause (lines c.args.input.now) c.in_default.ensures

pub returns-in-Err-clause-cause : goal.returns-in-Err-clause-cause
returns-in-Err-clause-cause c = round_cause (lines c.args.input.now) c.in-Some.first.now (lines c.in-Some.rest.now) c.in-Err.e c.in-Some.ensures.0 c.in-Err.ensures.cause
