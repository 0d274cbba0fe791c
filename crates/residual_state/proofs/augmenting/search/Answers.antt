use Rattle.std.proofs.Common.{◌∙◌, arith}
use Rattle.residual_state.proofs.Working.{stays_repriced}
use Rattle.residual_state.proofs.augmenting.search.Goals as goal

pub raise_and_label-requires-clause-state : goal.raise_and_label-requires-clause-state
raise_and_label-requires-clause-state c =
    let is = c.requires.state in
    (is.0, stays_repriced _ _ c.loop-place.invariant.repriced c.loop-place.invariant.sound is.0 is.1)

pub returns-in-Some-clause-wanting : goal.returns-in-Some-clause-wanting
returns-in-Some-clause-wanting c = rw c.in-Some.is at c.in_ok-place.ensures.met

pub returns-in-Some-2-clause-repriced : goal.returns-in-Some-2-clause-repriced
returns-in-Some-2-clause-repriced c =
    let before = c.loop-place.invariant.repriced in
    let last = c.in_ok-place-2.ensures.repriced in
    record { edges = last.edges ∙ before.edges; flows = last.flows ∙ before.flows; excess = last.excess ∙ before.excess }

pub returns-in-Some-2-clause-sound : goal.returns-in-Some-2-clause-sound
returns-in-Some-2-clause-sound c = c.in_ok-place-2.ensures.sound

pub returns-in-Some-2-clause-search : goal.returns-in-Some-2-clause-search
returns-in-Some-2-clause-search c = c.in_ok-place-2.ensures.search

pub returns-in-Some-2-clause-wanting : goal.returns-in-Some-2-clause-wanting
returns-in-Some-2-clause-wanting c = rw c.in-Some-2.is at c.in_ok-place-2.ensures.met

pub loop-place-preserved : goal.loop-place-preserved
loop-place-preserved c =
    let before = c.loop-place.invariant.repriced in
    let last = c.in_ok-place-2.ensures.repriced in
    let first_grown = c.in_ok-place.ensures.grown.found in
    let last_grown = c.in_ok-place-2.ensures.grown.found in
    record {
      repriced = record { edges = last.edges ∙ before.edges; flows = last.flows ∙ before.flows; excess = last.excess ∙ before.excess };
      sound = c.in_ok-place-2.ensures.sound;
      some = omega (arith, first_grown, last_grown, c.loop-place.invariant.some);
      search = c.in_ok-place-2.ensures.search;
      unmet = rw c.in_default-2.is at c.in_ok-place-2.ensures.met;
    }
