use Rattle.std.proofs.Common.{sym, ◌∙◌, ap, subst}
use Rattle.setoff_model.specs.CutView.{WellFormed}
use Rattle.claim_book.specs.Book.{open_cut_of}
use Rattle.claim_book.specs.claim_history.specs.Pools.{entries_in}
use Rattle.claim_book.specs.claim_history.specs.States.{state_of}
use Rattle.claim_book.specs.claim_history.proofs.Open.{open_of}
use Rattle.limited_book.proofs.need.endings_in.Goals as goal

pub endings_of-requires : goal.endings_of-requires
endings_of-requires c =
    let members = c.args.books.now.members in
    let pool = c.args.pool.now in
    let history = entries_in pool members in
    let found = open_of (state_of history).open_round c.in-Some.cut.now (c.in-Some.ensures ∙ ap open_cut_of c.book.ensures) in
    let pools = c.each_pool_has_its_history.ensures.pools in
    subst WellFormed (sym found.2) (c.open_cut_is_well_formed.ensures history (pools.legal members pool c.len-len.ensures.legal) (pools.valid members pool c.len-len.ensures.valid) found.0 found.1)
