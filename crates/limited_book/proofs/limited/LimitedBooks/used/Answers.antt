use Rattle.std.proofs.Common.{◌≤◌, subst, arith}
use Rattle.claim_book.specs.Pools.{BooksView}
use Rattle.claim_book.specs.claim_history.specs.PoolNeeds.{HasRoom}
use Rattle.claim_book.specs.claim_history.specs.Pools.{state_in}
use Rattle.claim_book.specs.claim_history.proofs.PoolRoom.{room_law}
use Rattle.limited_book.proofs.Limits.{few_openings}
use Rattle.limited_book.proofs.limited.LimitedBooks.used.Goals as goal

pub returns-clause-few_entries : goal.returns-clause-few_entries
returns-clause-few_entries c =
    (subst (λ (b : BooksView). HasRoom b.members) c.self.view_is (room_law c.self.inside.books.members c.len-len.ensures.legal c.self.invariant.within)).entries

pub returns-clause-few_bytes : goal.returns-clause-few_bytes
returns-clause-few_bytes c =
    (subst (λ (b : BooksView). HasRoom b.members) c.self.view_is (room_law c.self.inside.books.members c.len-len.ensures.legal c.self.invariant.within)).bytes

pub returns-clause-openings : goal.returns-clause-openings
returns-clause-openings c =
    λ pool. subst (λ (b : BooksView). (state_in b.members pool).openings ≤ c.self.inside.used.entries) c.self.view_is (omega (arith, few_openings c.self.inside.books.members pool, c.self.invariant.entries_are))
