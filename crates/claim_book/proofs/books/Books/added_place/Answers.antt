use Rattle.std.specs.Prelude.{position, Some, None}
use Rattle.std.proofs.Common.{◌≡◌, ◌∙◌, List, sym, subst}
use Rattle.claim_book.specs.Pools.{is_book}
use Rattle.claim_book.specs.declared.pool_book.PoolBook.{PoolBook}
use Rattle.claim_book.proofs.Applied.{rooms_place}
use Rattle.claim_book.proofs.books.Books.added_place.Goals as goal

pub add_book-requires : goal.add_book-requires
add_book-requires c =
    sym (rooms_place _ c.self.invariant c.args.self.now c.self.view_is c.args.pool)
    ∙ subst (λ (xs : List PoolBook). position (is_book c.args.pool) xs ≡ None) c.deref.ensures.value (sym c.book_place.ensures ∙ c.in-None.is)

pub returns-in-Some-clause-place : goal.returns-in-Some-clause-place
returns-in-Some-clause-place c =
    sym (rooms_place _ c.self.invariant c.args.self.now c.self.view_is c.args.pool)
    ∙ subst (λ (xs : List PoolBook). position (is_book c.args.pool) xs ≡ Some c.in-Some.place) c.deref.ensures.value (sym c.book_place.ensures ∙ c.in-Some.is)
