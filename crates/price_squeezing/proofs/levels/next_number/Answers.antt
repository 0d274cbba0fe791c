use Rattle.std.proofs.Common.{◌≡◌, ◌-◌, ◌<◌, length, ap, sym, ◌∙◌, arith}
use Rattle.std.proofs.lemmas.Int.{ints}
use Rattle.setoff_model.specs.Setoff.{price_at}
use Rattle.price_squeezing.proofs.Numbering.{number_is, step_is, step_alike, times_more}
use Rattle.price_squeezing.proofs.levels.next_number.Goals as goal

-- the last number and the step after it, and how far their sum is
small : goal.overflow_add-result
small c =
    let last : length c.args.numbers.now - 1 < length c.args.numbers.now = omega (arith, c.if-place-eq0.false) in
    let at = number_is c.args.widest c.args.levels.now c.args.numbers.now (length c.args.numbers.now) c.requires.rising (omega (arith, c.requires.within)) c.requires.numbered (length c.args.numbers.now - 1) last in
    let low = at.0 in
    let high = at.1 in
    let up = c.requires.rising (length c.args.numbers.now - 1) (length c.args.numbers.now) last c.requires.within in
    let step = step_is c.args.widest _ _ (omega (arith, ints, up, c.level_at-below.ensures, c.level_at-2.ensures)) c.step_between.ensures in
    let some = step.0 in
    let most = step.1 in
    let fits = c.requires.small (length c.args.numbers.now) c.requires.within in
    let split = times_more c.args.widest (length c.args.numbers.now) (omega (arith, c.if-place-eq0.false)) in
    omega (arith, ints, c.level_at.ensures, low, high, some, most, fits, split)

pub overflow_add-result : goal.overflow_add-result
overflow_add-result c = small c

pub returns-clause-step : goal.returns-clause-step
returns-clause-step c k e =
    let last : length c.args.numbers.now - 1 < length c.args.numbers.now = omega (arith, e) in
    let here : length c.args.numbers.now - 1 ≡ k = omega (arith, e) in
    let at = number_is c.args.widest c.args.levels.now c.args.numbers.now (length c.args.numbers.now) c.requires.rising (omega (arith, c.requires.within)) c.requires.numbered (length c.args.numbers.now - 1) last in
    let low = at.0 in
    let high = at.1 in
    let up = c.requires.rising (length c.args.numbers.now - 1) (length c.args.numbers.now) last c.requires.within in
    let step = step_is c.args.widest _ _ (omega (arith, ints, up, c.level_at-below.ensures, c.level_at-2.ensures)) c.step_between.ensures in
    let some = step.0 in
    let most = step.1 in
    let fits = c.requires.small (length c.args.numbers.now) c.requires.within in
    let split = times_more c.args.widest (length c.args.numbers.now) (omega (arith, e)) in
    let above = c.level_at-2.ensures ∙ ap (price_at c.args.levels.now) (sym e) in
    let below = c.level_at-below.ensures ∙ ap (price_at c.args.levels.now) here in
    let number = c.level_at.ensures ∙ ap (price_at c.args.numbers.now) here in
    step_alike c.args.widest _ _ _ _ (omega (arith, ints, above, below)) (omega (arith, ints, c.level_at.ensures, number, low, high, some, most, fits, split)) c.step_between.ensures
