use Rattle.std.proofs.Common.{◌+◌, ◌++◌, ◌∷◌, [], ◌∙◌, sym, ap}
use Rattle.std.specs.Prelude.{Option, ◌-◌}
use Rattle.claim_book.specs.claim_history.specs.States.{OpenRound}
use Rattle.claim_book.specs.claim_history.specs.Needs.{endings_entries}
use Rattle.claim_book.specs.claim_history.specs.Pools.{member_of, open_round_in}
use Rattle.claim_book.specs.claim_history.specs.PoolNeeds.{pool_endings_bytes, reserved_bytes_of, reserved_entries_of}
use Rattle.claim_book.specs.Pools.{BooksView}
use Rattle.limited_book.proofs.Needs.{open_then}
use Rattle.limited_book.proofs.Limits.{limited_grows}
use Rattle.limited_book.proofs.limited.LimitedBooks.apply.Goals as goal

pub invariant_of-self : goal.invariant_of-self
invariant_of-self c =
    let members = c.args.self.now.members in
    let m = member_of c.args.pool c.args.entry in
    let then = sym (open_then members m c.requires.no_opening) in
    limited_grows members c.apply.new.self.members m c.used-used.result c.use_of-own.result _ _ c.used-used.ensures.within c.requires.fits
    (record {
      is = c.apply.ensures.members ∙ ap (λ (b : BooksView). b.members ++ m ∷ []) c.self.view_is;
      used_entries_are = c.used-used.ensures.entries;
      used_bytes_are = c.used-used.ensures.bytes;
      own_entries = c.use_of-own.ensures.entries;
      own_bytes_are = c.use_of-own.ensures.bytes;
      used_entries_then = c.more-self-inside.ensures.entries;
      used_bytes_then = c.more-self-inside.ensures.bytes;
      reserved_entries_then = c.reserved_after-rest.ensures.entries
          ∙ ap (λ (o : Option OpenRound). reserved_entries_of members - endings_entries (open_round_in members m.pool) + endings_entries o) then;
      reserved_bytes_then = c.reserved_after-rest.ensures.bytes
          ∙ ap (λ (o : Option OpenRound). reserved_bytes_of members - pool_endings_bytes m.pool (open_round_in members m.pool) + pool_endings_bytes m.pool o) then;
    })
