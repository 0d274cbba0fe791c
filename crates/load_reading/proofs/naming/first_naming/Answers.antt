use Rattle.std.proofs.Common.{◌≡◌, ◌+◌, sym, subst, arith}
use Rattle.load_reading.proofs.Closes.{PassesNone, names_none, none_named, passes_next}
use Rattle.load_reading.proofs.naming.first_naming.Goals as goal

pub loop-line-preserved : goal.loop-line-preserved
loop-line-preserved c =
    let next : c.saturating_add-number.result ≡ c.loop-line.number + 1 = omega (arith, c.loop-line.invariant.counted, c.in-Some.ensures.1, c.saturating_add-number.ensures) in
    let passed = passes_next c.args.input.now c.loop-line.rest.now c.in-Some.line.now c.in-Some.after.now c.loop-line.number c.loop-line.invariant.passed c.in-Some.ensures.0
    (none_named c.names_close.result c.as_slice.result.now c.in_ok-fields.fields.items c.in-Some.line.now c.as_slice.ensures.value c.in_ok-fields.ensures c.if-names_close.false c.names_close.ensures) in
    record {
      passed = subst (PassesNone c.args.input.now c.in-Some.after.now) (sym next) passed;
      counted = omega (arith, c.loop-line.invariant.counted, c.in-Some.ensures.1, next);
    }

pub returns-clause-none : goal.returns-clause-none
returns-clause-none c = names_none c.args.input.now c.loop-line.rest.now c.loop-line.number c.loop-line.invariant.passed c.in_default.ensures
