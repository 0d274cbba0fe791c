use Rattle.std.proofs.Common.{◌++◌, ◌∙◌, List, ℕ, ap, drop, take, arith}
use Rattle.history_text.specs.Histories.{told_members}
use Rattle.history_text.specs.Since.{no_act_text}
use Rattle.history_text.proofs.Behind.{wrote_no_act, wrote_since}
use Rattle.history_text.proofs.since.print_since.Goals as goal

pub returns-then-len-acts-clause-wrote : goal.returns-then-len-acts-clause-wrote
returns-then-len-acts-clause-wrote g c =
    wrote_no_act c.args.acts c.args.pool.now c.args.books.now.members _ _ c.end_with.result c.as_slice.result.now (omega (arith, c.if-len-acts.true, c.len.ensures.len))
    (c.as_slice.ensures.value ∙ c.write_no_act.ensures ∙ ap (λ (front : List ℕ). front ++ no_act_text c.args.acts) c.requires.empty) c.end_with.ensures.written

pub returns-clause-wrote : goal.returns-clause-wrote
returns-clause-wrote g c =
    let members = told_members c.args.pool.now c.args.books.now.members in
    wrote_since c.args.acts c.args.pool.now c.args.books.now.members _ _ c.print_from.result (take c.told_among-from.result members) (drop c.told_among-from.result members) (omega (arith, c.if-len-acts.false, c.len.ensures.len))
    c.told_among-from.ensures.first c.told_among-from.ensures.behind c.print_from.ensures.wrote
