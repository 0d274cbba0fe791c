use Rattle.std.proofs.Common.{◌≡◌, ℕ, ◌+◌, List, ◌∷◌, ◌++◌, ap, ◌∙◌, arith}
use Rattle.std.specs.Str.Lines.{lines}
use Rattle.statement_text.specs.Drafts.{texts_of}
use Rattle.statement_text.proofs.Texts.{ReadUpTo, finish_found, finish_bad, line_bad, ends_early, one_more}
use Rattle.statement_text.proofs.Causes.{finish_cause, line_cause, end_cause}
use Rattle.statement_text.proofs.reading.read_rest.Goals as goal

pub returns-in-Ok-Last-clause-found : goal.returns-in-Ok-Last-clause-found
returns-in-Ok-Last-clause-found c =
    let step = rw c.in-Ok-Last.field-0-is at c.in-Ok-Last.ensures.found in
    let d = c.loop-line.draft in
    let so_far : ReadUpTo (texts_of c.args.head ++ lines c.args.text.now) d (c.in-Some.line.now ∷ lines c.in-Some.after.now) c.loop-line.number = record {
      stated = c.loop-line.invariant.stated;
      read = c.loop-line.invariant.read ∙ ap (λ (ls : List (List ℕ)). texts_of d ++ ls) c.in-Some.ensures.0;
      numbered = c.loop-line.invariant.numbered;
    } in
    finish_found _ d c.in-Ok-Last.whole c.in-Some.line.now (lines c.in-Some.after.now) c.loop-line.number c.finish_draft.result so_far step.0 step.1 c.finish_draft.ensures.found

pub returns-in-Ok-Last-clause-bad : goal.returns-in-Ok-Last-clause-bad
returns-in-Ok-Last-clause-bad c =
    let step = rw c.in-Ok-Last.field-0-is at c.in-Ok-Last.ensures.found in
    let d = c.loop-line.draft in
    let so_far : ReadUpTo (texts_of c.args.head ++ lines c.args.text.now) d (c.in-Some.line.now ∷ lines c.in-Some.after.now) c.loop-line.number = record {
      stated = c.loop-line.invariant.stated;
      read = c.loop-line.invariant.read ∙ ap (λ (ls : List (List ℕ)). texts_of d ++ ls) c.in-Some.ensures.0;
      numbered = c.loop-line.invariant.numbered;
    } in
    let next : c.saturating_add.result ≡ c.loop-line.number + 1 = omega (arith, c.loop-line.invariant.counted, c.in-Some.ensures.1, c.saturating_add.ensures) in
    finish_bad _ d c.in-Some.line.now (lines c.in-Some.after.now) c.loop-line.number c.saturating_add.result c.finish_draft.result so_far step.1 next c.finish_draft.ensures.bad

pub returns-in-Err-clause-bad : goal.returns-in-Err-clause-bad
returns-in-Err-clause-bad c =
    let d = c.loop-line.draft in
    let so_far : ReadUpTo (texts_of c.args.head ++ lines c.args.text.now) d (c.in-Some.line.now ∷ lines c.in-Some.after.now) c.loop-line.number = record {
      stated = c.loop-line.invariant.stated;
      read = c.loop-line.invariant.read ∙ ap (λ (ls : List (List ℕ)). texts_of d ++ ls) c.in-Some.ensures.0;
      numbered = c.loop-line.invariant.numbered;
    } in
    line_bad _ d c.in-Some.line.now (lines c.in-Some.after.now) c.loop-line.number c.in-Err.e so_far c.in-Err.ensures.bad

pub loop-line-preserved : goal.loop-line-preserved
loop-line-preserved c =
    let step = rw c.in-Ok-More.field-0-is at c.in-Ok-More.ensures.found in
    let d = c.loop-line.draft in
    let so_far : ReadUpTo (texts_of c.args.head ++ lines c.args.text.now) d (c.in-Some.line.now ∷ lines c.in-Some.after.now) c.loop-line.number = record {
      stated = c.loop-line.invariant.stated;
      read = c.loop-line.invariant.read ∙ ap (λ (ls : List (List ℕ)). texts_of d ++ ls) c.in-Some.ensures.0;
      numbered = c.loop-line.invariant.numbered;
    } in
    let next : c.saturating_add-number.result ≡ c.loop-line.number + 1 = omega (arith, c.loop-line.invariant.counted, c.in-Some.ensures.1, c.saturating_add-number.ensures) in
    let more = one_more _ d c.in-Ok-More.next c.in-Some.line.now (lines c.in-Some.after.now) c.loop-line.number c.saturating_add-number.result so_far step.0 step.1 next in
    record {
      stated = more.stated;
      read = more.read;
      numbered = more.numbered;
      counted = omega (arith, c.loop-line.invariant.counted, c.in-Some.ensures.1, next);
    }

pub returns-clause-bad : goal.returns-clause-bad
returns-clause-bad c =
    let so_far : ReadUpTo (texts_of c.args.head ++ lines c.args.text.now) c.loop-line.draft (lines c.loop-line.rest.now) c.loop-line.number = record {
      stated = c.loop-line.invariant.stated;
      read = c.loop-line.invariant.read;
      numbered = c.loop-line.invariant.numbered;
    } in
    ends_early _ c.loop-line.draft (lines c.loop-line.rest.now) c.loop-line.number so_far c.in_default.ensures

pub returns-in-Ok-Last-clause-cause : goal.returns-in-Ok-Last-clause-cause
returns-in-Ok-Last-clause-cause c =
    let step = rw c.in-Ok-Last.field-0-is at c.in-Ok-Last.ensures.found in
    let d = c.loop-line.draft in
    let so_far : ReadUpTo (texts_of c.args.head ++ lines c.args.text.now) d (c.in-Some.line.now ∷ lines c.in-Some.after.now) c.loop-line.number = record {
      stated = c.loop-line.invariant.stated;
      read = c.loop-line.invariant.read ∙ ap (λ (ls : List (List ℕ)). texts_of d ++ ls) c.in-Some.ensures.0;
      numbered = c.loop-line.invariant.numbered;
    } in
    let next : c.saturating_add.result ≡ c.loop-line.number + 1 = omega (arith, c.loop-line.invariant.counted, c.in-Some.ensures.1, c.saturating_add.ensures) in
    finish_cause _ d c.in-Some.line.now (lines c.in-Some.after.now) c.loop-line.number c.saturating_add.result c.finish_draft.result so_far step.1 next c.finish_draft.ensures.bad c.finish_draft.ensures.cause

pub returns-in-Err-clause-cause : goal.returns-in-Err-clause-cause
returns-in-Err-clause-cause c =
    let d = c.loop-line.draft in
    let so_far : ReadUpTo (texts_of c.args.head ++ lines c.args.text.now) d (c.in-Some.line.now ∷ lines c.in-Some.after.now) c.loop-line.number = record {
      stated = c.loop-line.invariant.stated;
      read = c.loop-line.invariant.read ∙ ap (λ (ls : List (List ℕ)). texts_of d ++ ls) c.in-Some.ensures.0;
      numbered = c.loop-line.invariant.numbered;
    } in
    line_cause _ d c.in-Some.line.now (lines c.in-Some.after.now) c.loop-line.number c.in-Err.e so_far c.in-Err.ensures.cause

pub returns-clause-cause : goal.returns-clause-cause
returns-clause-cause c =
    let so_far : ReadUpTo (texts_of c.args.head ++ lines c.args.text.now) c.loop-line.draft (lines c.loop-line.rest.now) c.loop-line.number = record {
      stated = c.loop-line.invariant.stated;
      read = c.loop-line.invariant.read;
      numbered = c.loop-line.invariant.numbered;
    } in
    end_cause _ c.loop-line.draft (lines c.loop-line.rest.now) c.loop-line.number so_far c.in_default.ensures
