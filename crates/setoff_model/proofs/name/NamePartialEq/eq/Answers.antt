use Rattle.std.proofs.Common.{◌∙◌, ap₂, arith}
use Rattle.setoff_model.specs.Same.{same_name}
use Rattle.setoff_model.proofs.SameNames.{same_padded}
use Rattle.setoff_model.proofs.name.NamePartialEq.eq.Goals as goal

pub returns-then-self-other : goal.returns-then-self-other
returns-then-self-other c =
    c.same_bytes.ensures ∙ same_padded c.self.inside.len c.other.inside.len c.self.inside.bytes c.other.inside.bytes c.self.invariant c.other.invariant (omega (arith, c.if-self-other.true)) ∙ ap₂ same_name c.self.view_is c.other.view_is
