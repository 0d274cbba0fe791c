use Rattle.std.specs.Prelude.{ℤ, Contains}
use Rattle.std.proofs.Common.{arith, rules, length, subst, sym, ◌∙◌}
use Rattle.std.proofs.lemmas.Int.{ints, to_z-of_z}
use mir.Syntax.{w64}
use mir.Val.{SFits}
use Rattle.setoff_model.specs.Setoff.{price_at}
use Rattle.setoff_model.proofs.Circulation.{price_past}
use Rattle.price_squeezing.proofs.Numbering.{placed_from, placed_more, number_is, squeezed, near}
use Rattle.price_squeezing.proofs.levels.number.Goals as goal

pub place_of-start-requires-clause-among : goal.place_of-start-requires-clause-among
place_of-start-requires-clause-among c =
    subst (λ (v : ℤ). Contains c.args.levels.now v) (price_past c.args.prices.now (length c.args.prices.now) (omega arith))
    (c.requires.levels.has (length c.args.prices.now))

pub place_of-place-requires-clause-among : goal.place_of-place-requires-clause-among
place_of-place-requires-clause-among c =
    let fits : SFits w64 (price_at c.loop-price.prices c.loop-price.price-index) = search rules in
    let e = to_z-of_z w64 (price_at c.loop-price.prices c.loop-price.price-index) fits in
    let was = c.loop-price.invariant.kept c.loop-price.price-index (omega arith) in
    subst (λ (v : ℤ). Contains c.args.levels.now v) (sym (e ∙ was)) (c.requires.levels.has c.loop-price.price-index)

pub overflow_sub-price : goal.overflow_sub-price
overflow_sub-price c =
    let own = number_is c.args.widest c.args.levels.now c.args.numbers.now (length c.args.levels.now) c.requires.levels.rising (omega arith) c.requires.numbers c.place_of-place.result c.place_of-place.ensures.within in
    let ground = number_is c.args.widest c.args.levels.now c.args.numbers.now (length c.args.levels.now) c.requires.levels.rising (omega arith) c.requires.numbers c.place_of-start.result c.place_of-start.ensures.within in
    let o0 = own.0 in
    let o1 = own.1 in
    let g0 = ground.0 in
    let g1 = ground.1 in
    let fits = c.requires.small c.place_of-place.result c.place_of-place.ensures.within in
    let fits_g = c.requires.small c.place_of-start.result c.place_of-start.ensures.within in
    omega (arith, ints, c.level_at.ensures, c.level_at-ground.ensures, o0, o1, g0, g1, fits, fits_g)

pub loop-price-preserved : goal.loop-price-preserved
loop-price-preserved c =
    let fits : SFits w64 (price_at c.loop-price.prices c.loop-price.price-index) = search rules in
    let e = to_z-of_z w64 (price_at c.loop-price.prices c.loop-price.price-index) fits in
    let own = number_is c.args.widest c.args.levels.now c.args.numbers.now (length c.args.levels.now) c.requires.levels.rising (omega arith) c.requires.numbers c.place_of-place.result c.place_of-place.ensures.within in
    let ground = number_is c.args.widest c.args.levels.now c.args.numbers.now (length c.args.levels.now) c.requires.levels.rising (omega arith) c.requires.numbers c.place_of-start.result c.place_of-start.ensures.within in
    let o0 = own.0 in
    let o1 = own.1 in
    let g0 = ground.0 in
    let g1 = ground.1 in
    let small = c.requires.small c.place_of-place.result c.place_of-place.ensures.within in
    let small_g = c.requires.small c.place_of-start.result c.place_of-start.ensures.within in
    placed_more c.args.prices.now c.loop-price.prices c.args.levels.now c.args.numbers.now _ c.loop-price.price-index c.place_of-place.result _ c.loop-price.invariant
    (omega (arith, c.loop-price.invariant.long)) c.place_of-place.ensures.within (c.place_of-place.ensures.at ∙ e)
    (omega (arith, ints, c.level_at.ensures, c.level_at-ground.ensures, o0, o1, g0, g1, small, small_g))

pub returns-clause-squeezed : goal.returns-clause-squeezed
returns-clause-squeezed c =
    let ground = number_is c.args.widest c.args.levels.now c.args.numbers.now (length c.args.levels.now) c.requires.levels.rising (omega arith) c.requires.numbers c.place_of-start.result c.place_of-start.ensures.within in
    let g0 = ground.0 in
    let g1 = ground.1 in
    let small_g = c.requires.small c.place_of-start.result c.place_of-start.ensures.within in
    squeezed c.args.widest c.args.prices.now c.loop-price.prices c.args.levels.now c.args.numbers.now c.place_of-start.result c.requires.levels c.requires.numbers
    c.loop-price.invariant.long c.place_of-start.ensures.within c.place_of-start.ensures.at
    (λ f lt. placed_from _ _ _ _ _ _ f (omega (arith, ints, c.level_at-ground.ensures, g0, g1, small_g)) (c.loop-price.invariant.done f (omega arith)))

pub returns-clause-near : goal.returns-clause-near
returns-clause-near c =
    let ground = number_is c.args.widest c.args.levels.now c.args.numbers.now (length c.args.levels.now) c.requires.levels.rising (omega arith) c.requires.numbers c.place_of-start.result c.place_of-start.ensures.within in
    let g0 = ground.0 in
    let g1 = ground.1 in
    let small_g = c.requires.small c.place_of-start.result c.place_of-start.ensures.within in
    near c.args.widest c.args.prices.now c.loop-price.prices c.args.levels.now c.args.numbers.now c.place_of-start.result c.requires.levels c.requires.numbers
    c.loop-price.invariant.long c.place_of-start.ensures.within
    (λ f lt. placed_from _ _ _ _ _ _ f (omega (arith, ints, c.level_at-ground.ensures, g0, g1, small_g)) (c.loop-price.invariant.done f (omega arith)))
