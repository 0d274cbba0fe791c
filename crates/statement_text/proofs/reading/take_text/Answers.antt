use Rattle.std.proofs.Common.{refl}
use Rattle.statement_text.specs.Lines.{IsLine, IsNoLine}
use Rattle.statement_text.proofs.Texts.{taken, refused, no_line_next, from_some, from_none}
use Rattle.statement_text.proofs.reading.take_text.Goals as goal

pub returns-in-Some-clause-found : goal.returns-in-Some-clause-found
returns-in-Some-clause-found c = taken c.args.draft c.args.text.now c.in-Some.line c.take_line.result (from_some (IsLine c.args.text.now) _ c.in-Some.line c.in-Some.is c.in-Ok.ensures.found) c.take_line.ensures.found

pub returns-in-Some-clause-bad : goal.returns-in-Some-clause-bad
returns-in-Some-clause-bad c =
    refused c.args.draft c.args.text.now c.in-Some.line c.args.number c.take_line.result c.requires (from_some (IsLine c.args.text.now) _ c.in-Some.line c.in-Some.is c.in-Ok.ensures.found) c.take_line.ensures.bad

pub returns-in-None-clause-bad : goal.returns-in-None-clause-bad
returns-in-None-clause-bad c = (refl, no_line_next c.args.draft c.args.text.now c.requires (from_none (IsNoLine c.args.text.now) _ c.in-None.is c.in-Ok.ensures.none))
