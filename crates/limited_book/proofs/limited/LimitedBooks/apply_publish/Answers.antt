use Rattle.std.proofs.Common.{◌++◌, ◌∷◌, [], List, ◌∙◌, ap, arith}
use Rattle.claim_book.specs.claim_history.specs.declared.call.PoolEntry.{PoolEntry}
use Rattle.claim_book.specs.claim_history.specs.Needs.{endings_entries}
use Rattle.claim_book.specs.claim_history.specs.Pools.{member_of, open_round_in, call_of}
use Rattle.claim_book.specs.claim_history.specs.PoolNeeds.{pool_endings_bytes}
use Rattle.claim_book.specs.Pools.{BooksView}
use Rattle.limited_book.proofs.Limits.{limited_grows, publication_fits}
use Rattle.limited_book.proofs.limited.LimitedBooks.apply_publish.Goals as goal

pub invariant_of-self : goal.invariant_of-self
invariant_of-self c =
    let members = c.args.self.now.members in
    let m = member_of c.args.pool c.args.entry in
    let now_entries = c.endings_in-now.ensures.entries ∙ ap (λ (b : BooksView). endings_entries (open_round_in b.members c.args.pool)) c.self.view_is in
    let now_bytes = c.endings_in-now.ensures.bytes ∙ ap (λ (b : BooksView). pool_endings_bytes c.args.pool (open_round_in b.members c.args.pool)) c.self.view_is in
    let fits = publication_fits members (call_of m) c.used-used.ensures.legal c.used-used.ensures.within c.requires.publishes c.requires.fits in
    let is = c.apply_publish-cut.ensures.members ∙ ap (λ (b : BooksView). b.members ++ m ∷ []) c.self.view_is in
    let later_entries = c.endings_in-later.ensures.entries ∙ ap (λ (h : List PoolEntry). endings_entries (open_round_in h m.pool)) is in
    let later_bytes = c.endings_in-later.ensures.bytes ∙ ap (λ (h : List PoolEntry). pool_endings_bytes m.pool (open_round_in h m.pool)) is in
    limited_grows members c.apply_publish-cut.new.self.members m c.used-used.result c.use_of-own.result _ _ c.used-used.ensures.within fits
    (record {
      is = is;
      used_entries_are = c.used-used.ensures.entries;
      used_bytes_are = c.used-used.ensures.bytes;
      own_entries = c.use_of-own.ensures.entries;
      own_bytes_are = c.use_of-own.ensures.bytes;
      used_entries_then = c.more-self-inside.ensures.entries;
      used_bytes_then = c.more-self-inside.ensures.bytes;
      reserved_entries_then = omega (arith, c.replace_part-self-inside.ensures.entries, c.reserved-reserved.ensures.entries, now_entries, later_entries);
      reserved_bytes_then = omega (arith, c.replace_part-self-inside.ensures.bytes, c.reserved-reserved.ensures.bytes, now_bytes, later_bytes);
    })
