use Rattle.std.proofs.Common.{refl}
use Rattle.statement_text.specs.Lines.{IsLine, IsNoLine}
use Rattle.statement_text.specs.declared.line.Line.TheVariants as line
use Rattle.statement_text.proofs.Causes.{first_cause}
use Rattle.statement_text.proofs.Texts.{no_line_first, from_none, from_some}
use Rattle.statement_text.proofs.reading.begin_text.Goals as goal

pub returns-in-None-clause-bad : goal.returns-in-None-clause-bad
returns-in-None-clause-bad c = (refl, no_line_first c.args.text.now (from_none (IsNoLine c.args.text.now) _ c.in-None.is c.in_ok-line.ensures.none))

pub returns-in-None-clause-cause : goal.returns-in-None-clause-cause
returns-in-None-clause-cause c =
    let none = from_none (IsNoLine c.args.text.now) _ c.in-None.is c.in_ok-line.ensures.none in
    (refl, refl, λ round kind range e. none (line.Head round kind) range e)

pub returns-in-Some-clause-cause : goal.returns-in-Some-clause-cause
returns-in-Some-clause-cause c =
    first_cause c.args.text.now c.in-Some.line c.begin.result (from_some (IsLine c.args.text.now) _ c.in-Some.line c.in-Some.is c.in_ok-line.ensures.found) c.begin.ensures.bad c.begin.ensures.cause
