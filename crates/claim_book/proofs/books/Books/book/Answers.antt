use Rattle.std.specs.Prelude.{position, Some, None}
use Rattle.std.proofs.Common.{◌≡◌, ◌∙◌, List, sym, subst}
use Rattle.claim_book.specs.Pools.{is_book}
use Rattle.claim_book.specs.declared.pool_book.PoolBook.{PoolBook}
use Rattle.claim_book.proofs.Applied.{history_is, kept_at, nothing_there}
use Rattle.claim_book.proofs.books.Books.book.Goals as goal

pub returns-in-None : goal.returns-in-None
returns-in-None c =
    let none = subst (λ (xs : List PoolBook). position (is_book c.args.pool.now) xs ≡ None) c.deref.ensures.value (sym c.book_place.ensures ∙ c.in-None.is) in
    c.self.invariant.none_is ∙ sym (nothing_there _ c.self.invariant c.args.self.now c.self.view_is c.args.pool.now none)

pub returns-in-Some : goal.returns-in-Some
returns-in-Some c =
    let found = subst (λ (xs : List PoolBook). position (is_book c.args.pool.now) xs ≡ Some c.in-Some.place) c.deref.ensures.value (sym c.book_place.ensures ∙ c.in-Some.is) in
    let kept_is = kept_at c.args.pool.now c.self.inside.books.items c.in-Some.place c.index.result.now found c.index.ensures in
    history_is _ c.self.invariant c.args.self.now c.self.view_is c.args.pool.now c.in-Some.place found c.index.result.now kept_is
