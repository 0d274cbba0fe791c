use Rattle.std.proofs.Common.{List, ℕ, Bor, map, ap, subst, sym, [], ◌∷◌, arith}
use Rattle.std.specs.Prelude.{codes, IfNone, IfSome}
use Rattle.statement_text.specs.Lines.{AreFields, AreNoFields}
use Rattle.setoff_model.proofs.Lists.{five}
use Rattle.statement_text.proofs.fields.claim_of.Goals as goal

pub returns-clause-found : goal.returns-clause-found
returns-clause-found c =
    let none : Bor (List ℕ) = record { ref_ptr = (0, 0); now = [] } in
    let all = ap (map (λ (f : Bor (List ℕ)). f.now)) (five none c.args.args.now (omega (arith, c.in-len5.len_at_least)) (omega (arith, c.in-len5.len_below))) in
    subst (λ (args : List (List ℕ)). IfSome c.read_claim.result (AreFields (codes "CLAIM" ∷ args))) (sym all) c.read_claim.ensures.found

pub returns-clause-none : goal.returns-clause-none
returns-clause-none c =
    let none : Bor (List ℕ) = record { ref_ptr = (0, 0); now = [] } in
    let all = ap (map (λ (f : Bor (List ℕ)). f.now)) (five none c.args.args.now (omega (arith, c.in-len5.len_at_least)) (omega (arith, c.in-len5.len_below))) in
    subst (λ (args : List (List ℕ)). IfNone c.read_claim.result (AreNoFields (codes "CLAIM" ∷ args))) (sym all) c.read_claim.ensures.none
