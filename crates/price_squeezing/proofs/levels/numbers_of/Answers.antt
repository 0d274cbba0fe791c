use Rattle.std.specs.Prelude.{ℤ}
use Rattle.std.proofs.Common.{List, subst, sym, ◌∙◌, ◌+◌, arith, rules}
use Rattle.std.proofs.lemmas.Int.{to_z-of_z}
use mir.Syntax.{w64}
use mir.Val.{SFits}
use Rattle.price_squeezing.specs.Levels.{AreNumbered}
use Rattle.price_squeezing.proofs.Numbering.{numbered_more}
use Rattle.price_squeezing.proofs.levels.numbers_of.Goals as goal

pub loop-place-preserved : goal.loop-place-preserved
loop-place-preserved c =
    let fits : SFits w64 c.next_number-number.result = search rules in
    let e = to_z-of_z w64 c.next_number-number.result fits in
    let long = c.loop-place.invariant.one_each in
    let first = rw c.deref.ensures.value at c.next_number-number.ensures.first in
    let step = rw c.deref.ensures.value at c.next_number-number.ensures.step in
    subst (λ (t : List ℤ). AreNumbered c.args.widest c.args.levels.now t (c.loop-place.place + 1)) (sym c.in_ok-push.ensures.items)
    (numbered_more c.args.widest c.args.levels.now c.loop-place.numbers.items c.loop-place.place _ c.loop-place.invariant
    (λ none. e ∙ first (omega (arith, long, none)))
    (λ k next. rw (← next, e) (step k (omega (arith, long, next)))))
