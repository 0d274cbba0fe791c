use Rattle.std.proofs.Common.{◌∙◌, ℕ, ap, sym, subst}
use Rattle.std.specs.Prelude.{List}
use Rattle.setoff_model.specs.CutView.{CutView}
use Rattle.claim_history.specs.declared.entry.Entry.{Entry}
use Rattle.claim_history.specs.Pools.{entries_in}
use Rattle.claim_history.specs.PoolRounds.{cuts_after}
use Rattle.trial_round.specs.Round.{HasRound}
use Rattle.trial_round.specs.Trial.{trial_cut}
use Rattle.trial_round.proofs.Bound.{none_full}
use Rattle.trial_round.proofs.Found.{has_round}
use Rattle.trial_round.proofs.round.judge.Goals as goal

pub sums_of_round-requires : goal.sums_of_round-requires
sums_of_round-requires c =
    let members = c.args.books.now.members in
    let cut = trial_cut c.args.firms c.args.claims c.args.seed in
    let full = none_full c.args.firms c.args.claims c.args.seed c.args.answers.now members c.requires.size c.no_line_is_full_within_the_bound.ensures c.requires.served c.len-len.ensures.legal c.len-len.ensures.valid in
    let round = has_round c.args.firms c.args.claims c.args.seed c.args.answers.now members c.requires.served (sym c.some_memory.ensures ∙ c.if-some_memory.false) full c.len-len.ensures.legal c.len-len.ensures.valid
    (sym c.some_device.ensures ∙ c.if-some_device.false) c.each_pool_has_its_history.ensures.main c.publications_are_greatest.ensures c.cut_of_a_history_is_of_its_facts.ensures.formed in
    subst (λ (cuts : List CutView). HasRound cut c.history-history.result.now cuts) (sym c.requires.rounds)
    (subst (λ (es : List Entry). HasRound cut es (cuts_after 0 members)) (sym (c.history-history.ensures.entries ∙ c.book.ensures ∙ ap (λ (pool : List ℕ). entries_in pool members) c.main_pool_name.ensures)) round)
