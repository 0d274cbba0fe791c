use Rattle.std.proofs.Common.{◌≡◌, ℕ, ◌+◌, ◌∙◌, sym, ap, subst, arith}
use Rattle.setoff_model.specs.CutView.{WellFormed}
use Rattle.claim_book.specs.claim_history.specs.declared.record_bytes.TheConstants.{RECORD_HEAD, CLOSE_BODY}
use Rattle.claim_book.specs.claim_history.specs.Needs.{endings_entries}
use Rattle.claim_book.specs.claim_history.specs.Pools.{entries_in, open_round_in, state_in}
use Rattle.claim_book.specs.claim_history.specs.PoolNeeds.{needed_bytes_of, needed_entries_of, pool_bytes, pool_endings_bytes}
use Rattle.claim_book.specs.Pools.{BooksView}
use Rattle.limited_book.proofs.Needs.{cut_is, fits_so, full_so, opening, opening_bytes, opening_entries}
use Rattle.limited_book.proofs.limited.LimitedBooks.fits_opening.Goals as goal

pub endings_of-later-requires : goal.endings_of-later-requires
endings_of-later-requires c =
    let members = c.args.self.now.members in
    let call = c.args.call.now in
    let pools = c.each_pool_has_its_history.ensures.pools in
    let opens = opening members call c.requires.opens in
    let formed = c.cut_of_a_history_is_of_its_facts.ensures.formed (entries_in call.pool members) ((state_in members call.pool).openings + 1) opens.kind opens.horizon (pools.legal members call.pool c.used-used.ensures.legal) (pools.valid members call.pool c.used-used.ensures.valid) in
    subst WellFormed (sym (cut_is members call c.requires.opens c.args.cut.now c.requires.cut)) formed

pub returns-clause-fits : goal.returns-clause-fits
returns-clause-fits c =
    let members = c.args.self.now.members in
    let call = c.args.call.now in
    let now_entries = c.endings_in-now.ensures.entries ∙ ap (λ (b : BooksView). endings_entries (open_round_in b.members call.pool)) c.self.view_is in
    let now_bytes = c.endings_in-now.ensures.bytes ∙ ap (λ (b : BooksView). pool_endings_bytes call.pool (open_round_in b.members call.pool)) c.self.view_is in
    let entries = opening_entries members call c.requires.opens _ _ _ _ c.used-used.ensures.entries c.reserved-reserved.ensures.entries now_entries c.endings_of-later.ensures.entries in
    let own : RECORD_HEAD + CLOSE_BODY + c.pool_bytes.result ≡ RECORD_HEAD + CLOSE_BODY + pool_bytes call.pool = ap (λ (n : ℕ). RECORD_HEAD + CLOSE_BODY + n) c.pool_bytes.ensures.bytes in
    let bytes = opening_bytes members call c.requires.opens c.args.cut.now _ _ _ _ _ c.requires.cut c.used-used.ensures.bytes own c.reserved-reserved.ensures.bytes now_bytes c.endings_of-later.ensures.bytes in
    let entries_are : c.used-used.result.entries + 1 + c.replace_part-rest.result.entries ≡ needed_entries_of members call = omega (arith, entries, c.replace_part-rest.ensures.entries) in
    let bytes_are : c.used-used.result.bytes + (RECORD_HEAD + CLOSE_BODY + c.pool_bytes.result) + c.replace_part-rest.result.bytes ≡ needed_bytes_of members call = omega (arith, bytes, c.replace_part-rest.ensures.bytes) in
    fits_so members call _ _ entries_are bytes_are c.within_limits.result c.within_limits.ensures.within

pub returns-clause-full : goal.returns-clause-full
returns-clause-full c =
    let members = c.args.self.now.members in
    let call = c.args.call.now in
    let now_entries = c.endings_in-now.ensures.entries ∙ ap (λ (b : BooksView). endings_entries (open_round_in b.members call.pool)) c.self.view_is in
    let now_bytes = c.endings_in-now.ensures.bytes ∙ ap (λ (b : BooksView). pool_endings_bytes call.pool (open_round_in b.members call.pool)) c.self.view_is in
    let entries = opening_entries members call c.requires.opens _ _ _ _ c.used-used.ensures.entries c.reserved-reserved.ensures.entries now_entries c.endings_of-later.ensures.entries in
    let own : RECORD_HEAD + CLOSE_BODY + c.pool_bytes.result ≡ RECORD_HEAD + CLOSE_BODY + pool_bytes call.pool = ap (λ (n : ℕ). RECORD_HEAD + CLOSE_BODY + n) c.pool_bytes.ensures.bytes in
    let bytes = opening_bytes members call c.requires.opens c.args.cut.now _ _ _ _ _ c.requires.cut c.used-used.ensures.bytes own c.reserved-reserved.ensures.bytes now_bytes c.endings_of-later.ensures.bytes in
    let entries_are : c.used-used.result.entries + 1 + c.replace_part-rest.result.entries ≡ needed_entries_of members call = omega (arith, entries, c.replace_part-rest.ensures.entries) in
    let bytes_are : c.used-used.result.bytes + (RECORD_HEAD + CLOSE_BODY + c.pool_bytes.result) + c.replace_part-rest.result.bytes ≡ needed_bytes_of members call = omega (arith, bytes, c.replace_part-rest.ensures.bytes) in
    full_so members call _ _ entries_are bytes_are c.within_limits.result c.within_limits.ensures.over
