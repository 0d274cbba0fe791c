use Rattle.std.proofs.Common.{subst, sym}
use Rattle.request_text.specs.declared.error.RequestError.{RequestError}
use Rattle.request_text.specs.Grammar.{OnBadLine}
use Rattle.load_reading.specs.Reading.{IsFirstBadLoadLine}
use Rattle.load_reading.proofs.Texts.{bad_after, bad_before, bad_unnamed, is_none, is_some}
use Rattle.load_reading.proofs.reading.first_bad.Goals as goal

pub returns-in_default : goal.returns-in_default
returns-in_default c = bad_unnamed c.args._input.now c.args.line c.args.cause c.requires.first (is_none c.args._input.now c.args.close c.in_default.is c.requires.unnamed)

pub returns-then-is_before : goal.returns-then-is_before
returns-then-is_before c =
    let f = is_some c.args._input.now c.args.close c.in-Some.number c.in-Some.is c.requires.named in
    subst (λ (e : RequestError). OnBadLine (IsFirstBadLoadLine c.args._input.now) e) (sym c.bad_verb.ensures)
    (bad_before c.args._input.now c.args.line c.args.cause c.requires.first c.in-Some.number f (c.is_before.ensures.yes c.if-is_before.true))

pub returns : goal.returns
returns c =
    let f = is_some c.args._input.now c.args.close c.in-Some.number c.in-Some.is c.requires.named in
    bad_after c.args._input.now c.args.line c.args.cause c.requires.first c.in-Some.number f (c.is_before.ensures.no c.if-is_before.false)
