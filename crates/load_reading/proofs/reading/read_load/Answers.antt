use Rattle.std.proofs.Common.{subst, sym}
use Rattle.request_text.specs.declared.error.RequestError.{RequestError}
use Rattle.request_text.specs.Grammar.{OnBadLine}
use Rattle.load_reading.specs.Reading.{IsFirstBadLoadLine, IsNoLoadText}
use Rattle.load_reading.proofs.Texts.{is_none, is_some, load_bad, load_text, no_load, none_of}
use Rattle.load_reading.proofs.reading.read_load.Goals as goal

pub returns-in-None-clause-found : goal.returns-in-None-clause-found
returns-in-None-clause-found c =
    load_text c.args.input.now c.in-Ok-read_requests.batches.items c.in-Ok-read_requests.ensures.found (is_none c.args.input.now c.in-Ok.close c.in-None.is c.in-Ok.ensures.none)

pub returns-in-Some-clause-bad : goal.returns-in-Some-clause-bad
returns-in-Some-clause-bad c =
    subst (λ (e : RequestError). OnBadLine (λ number cause. IsFirstBadLoadLine c.args.input.now number cause × IsNoLoadText c.args.input.now) e) (sym c.bad_verb.ensures)
    (load_bad c.args.input.now c.in-Some.line (is_some c.args.input.now c.in-Ok.close c.in-Some.line c.in-Some.is c.in-Ok.ensures.found) c.in-Ok-read_requests.batches.items c.in-Ok-read_requests.ensures.found)

pub returns-in-Err-BadLine-clause-bad : goal.returns-in-Err-BadLine-clause-bad
returns-in-Err-BadLine-clause-bad c = no_load c.args.input.now c.first_bad.result c.first_bad.ensures (none_of c.args.input.now c.in-Err-BadLine.field-0 c.in-Err-BadLine.line c.in-Err-BadLine.cause c.in-Err-BadLine.field-0-is c.in-Err-BadLine.ensures.bad)
