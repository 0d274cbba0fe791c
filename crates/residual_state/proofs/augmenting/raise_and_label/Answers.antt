use Rattle.std.proofs.Common.{length, refl, ◌∙◌, ap, arith}
use Rattle.std.proofs.lemmas.List.{length-map}
use Rattle.residual_network.specs.declared.edge.Edge.{Edge}
use Rattle.residual_state.proofs.Passing.{next_of, none_of, raise_small, raise_least, search_repriced, next_even, leads_somewhere}
use Rattle.residual_state.proofs.augmenting.raise_and_label.Goals as goal

pub raise_prices-requires-clause-small : goal.raise_prices-requires-clause-small
raise_prices-requires-clause-small c =
    let next = next_of _ _ _ _ _ _ _ _ _ c.deref.ensures.value c.deref-2.ensures.value c.deref-3.ensures.value c.deref-4.ensures.value c.in-Some.ensures in
    raise_small c.args.state.now c.args.labels.now.labelled.items c.in-Some.next c.requires.state.1.sound next

pub raise_prices-requires-clause-least : goal.raise_prices-requires-clause-least
raise_prices-requires-clause-least c =
    let next = next_of _ _ _ _ _ _ _ _ _ c.deref.ensures.value c.deref-2.ensures.value c.deref-3.ensures.value c.deref-4.ensures.value c.in-Some.ensures in
    rw c.deref-in-Some.ensures.value (raise_least c.args.state.now c.args.labels.now.labelled.items c.in-Some.next c.requires.state.1.sound next)

pub label_far-requires-clause-search : goal.label_far-requires-clause-search
label_far-requires-clause-search c =
    let raised = rw c.deref-in-Some.ensures.value at c.in_ok-raise_prices-in-Some.ensures.raised in
    search_repriced c.args.state.now c.raise_prices.new.state c.args.labels.now raised.0 c.in-Some.next.raise c.requires.state.1.sound c.requires.search raised.1 raised.2 c.in_ok-raise_prices-in-Some.ensures.repriced

pub label_far-requires-clause-even : goal.label_far-requires-clause-even
label_far-requires-clause-even c =
    let next = next_of _ _ _ _ _ _ _ _ _ c.deref.ensures.value c.deref-2.ensures.value c.deref-3.ensures.value c.deref-4.ensures.value c.in-Some.ensures in
    let raised = rw c.deref-in-Some.ensures.value at c.in_ok-raise_prices-in-Some.ensures.raised in
    next_even c.args.state.now c.raise_prices.new.state c.args.labels.now raised.0 c.in-Some.next.raise c.requires.state.1.sound c.requires.search raised.1 raised.2 c.in_ok-raise_prices-in-Some.ensures.repriced c.in-Some.next next refl

pub unreachable-requires : goal.unreachable-requires
unreachable-requires c =
    let none = none_of _ _ _ _ _ _ c.deref.ensures.value c.deref-2.ensures.value c.deref-4.ensures.value c.in-None.ensures in
    leads_somewhere c.requires.state.0 c.args.state.now c.args.labels.now c.requires.state.1 c.requires.search c.requires.unmet c.requires.some none

pub next_arc-requires-clause-one_each : goal.next_arc-requires-clause-one_each
next_arc-requires-clause-one_each c =
    let caps = length-map c.args.state.now.edges.items (λ (e : Edge). e.capacity) in
    omega (arith, ap length c.deref.ensures.value, ap length c.deref-2.ensures.value, c.requires.state.1.sound.flow.one_each, caps)

pub next_arc-requires-clause-among : goal.next_arc-requires-clause-among
next_arc-requires-clause-among c =
    rw (c.deref.ensures.value, c.deref-4.ensures.value, c.requires.search.agree.mark_each) c.requires.state.1.sound.among

pub next_arc-requires-clause-near : goal.next_arc-requires-clause-near
next_arc-requires-clause-near c = rw c.deref-3.ensures.value c.requires.state.1.sound.near

pub raise_prices-requires-clause-sound : goal.raise_prices-requires-clause-sound
raise_prices-requires-clause-sound c = c.requires.state.1.sound

pub raise_prices-requires-clause-each : goal.raise_prices-requires-clause-each
raise_prices-requires-clause-each c = ap length c.deref-in-Some.ensures.value ∙ c.requires.search.agree.mark_each

pub label_far-requires-clause-sound : goal.label_far-requires-clause-sound
label_far-requires-clause-sound c = c.in_ok-raise_prices-in-Some.ensures.sound

pub label_far-requires-clause-unmet : goal.label_far-requires-clause-unmet
label_far-requires-clause-unmet c = rw c.in_ok-raise_prices-in-Some.ensures.repriced.excess c.requires.unmet

pub label_far-requires-clause-within : goal.label_far-requires-clause-within
label_far-requires-clause-within c =
    let next = next_of _ _ _ _ _ _ _ _ _ c.deref.ensures.value c.deref-2.ensures.value c.deref-3.ensures.value c.deref-4.ensures.value c.in-Some.ensures in
    omega (arith, next.within, ap length c.in_ok-raise_prices-in-Some.ensures.repriced.edges)
