use Rattle.std.specs.Prelude.{take}
use Rattle.std.proofs.Common.{◌≡◌, ◌∙◌, ap, arith}
use Rattle.std.proofs.lemmas.Grind.{common_steps}
use Rattle.residual_state.proofs.Found.{found}
use Rattle.residual_state.proofs.state.found_at_rest.Goals as goal

pub returns : goal.returns
returns c = λ g is claims.
    let flows : c.truncate.new.self.items ≡ take c.args.claims c.args.state.flows.items = grind (arith, common_steps) in
    found g c.args.state c.truncate.new.self.items is c.requires.rest (flows ∙ ap (λ n. take n c.args.state.flows.items) claims)
