use Rattle.std.proofs.Common.{List, ℕ, Bor, map, ap, subst, sym, [], arith}
use Rattle.std.specs.Prelude.{IfErr}
use Rattle.request_text.specs.Causes.{HasArgsCause, forms_of}
use Rattle.request_text.specs.declared.verb.Verb.TheVariants as verbs
use Rattle.setoff_model.proofs.Lists.{five}
use Rattle.request_text.proofs.fields.file_act.Goals as goal

pub returns-clause-bad : goal.returns-clause-bad
returns-clause-bad c =
    let none : Bor (List ℕ) = record { ref_ptr = (0, 0); now = [] } in
    let all = ap (map (λ (f : Bor (List ℕ)). f.now)) (five none c.args.args.now (omega (arith, c.in-len5.len_at_least)) (omega (arith, c.in-len5.len_below))) in
    subst (λ (args : List (List ℕ)). IfErr c.file_of_fields.result (HasArgsCause (forms_of verbs.File) args)) (sym all) c.file_of_fields.ensures.bad
