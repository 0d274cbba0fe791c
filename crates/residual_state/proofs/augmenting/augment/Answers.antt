use Rattle.std.proofs.Common.{List, subst, sym}
use Rattle.residual_state.specs.declared.label.Label.{Label}
use Rattle.residual_state.specs.Edges.{graph}
use Rattle.residual_state.specs.Labels.{AreEven}
use Rattle.residual_state.proofs.augmenting.augment.Goals as goal

pub move_to_label-requires-clause-even : goal.move_to_label-requires-clause-even
move_to_label-requires-clause-even c =
    subst (λ (found : List Label). AreEven (graph c.search.new.state.edges.items) c.search.new.state.prices.items found) (sym c.deref-2.ensures.value) c.in_ok-place.ensures.search.even

pub move_to_label-requires-clause-forest : goal.move_to_label-requires-clause-forest
move_to_label-requires-clause-forest c = rw c.deref-2.ensures.value c.in_ok-place.ensures.search.forest

pub move_to_label-requires-clause-roots : goal.move_to_label-requires-clause-roots
move_to_label-requires-clause-roots c = rw c.deref-2.ensures.value c.in_ok-place.ensures.search.roots

pub move_to_label-requires-clause-within : goal.move_to_label-requires-clause-within
move_to_label-requires-clause-within c = rw c.deref-2.ensures.value c.in_ok-place.ensures.wanting.within

pub move_to_label-requires-clause-wants : goal.move_to_label-requires-clause-wants
move_to_label-requires-clause-wants c = rw c.deref-2.ensures.value c.in_ok-place.ensures.wanting.wants
