use Rattle.std.specs.Prelude.{length, Some}
use Rattle.std.proofs.Common.{◌∙◌, ℕ, List, [], ◌∷◌, ◌++◌, sym, ap}
use Rattle.std.specs.List.{list_any}
use Rattle.setoff_model.specs.Same.{same_name}
use Rattle.setoff_model.proofs.Lists.{on_err}
use Rattle.claim_book.specs.declared.pool_book.PoolBook.{PoolBook}
use Rattle.claim_book.proofs.Applied.{no_room_there, not_named, pushed_are, pushed_members, pushed_place, pushed_rooms, rooms_place}
use Rattle.claim_book.proofs.books.Books.add_book.Goals as goal

pub returns-in_err-reserve-clause-needed : goal.returns-in_err-reserve-clause-needed
returns-in_err-reserve-clause-needed c =
    let none = rooms_place _ c.self.invariant c.args.self.now c.self.view_is c.args.pool ∙ c.requires in
    on_err c.from_residual.result _ (no_room_there _ c.self.invariant c.args.self.now c.self.view_is c.args.pool none)

pub returns-in_err-reserve-2-clause-needed : goal.returns-in_err-reserve-2-clause-needed
returns-in_err-reserve-2-clause-needed c =
    let none = rooms_place _ c.self.invariant c.args.self.now c.self.view_is c.args.pool ∙ c.requires in
    on_err c.from_residual-in_err-reserve-2.result _ (no_room_there _ c.self.invariant c.args.self.now c.self.view_is c.args.pool none)

pub add-requires-clause-new : goal.add-requires-clause-new
add-requires-clause-new c =
    let none = rooms_place _ c.self.invariant c.args.self.now c.self.view_is c.args.pool ∙ c.requires in
    ap (list_any (same_name c.args.pool)) c.in_ok-reserve.ensures.names ∙ not_named _ c.self.invariant c.args.self.now c.self.view_is c.args.pool none

pub invariant_of-self-2 : goal.invariant_of-self-2
invariant_of-self-2 c =
    pushed_are _ c.self.invariant c.args.self.now c.self.view_is c.args.pool c.new_book.result c.new_book.ensures c.put_book.new.books.items (c.put_book.ensures ∙ ap (λ (bs : List PoolBook). bs ++ c.new_book.result ∷ []) c.in_ok-reserve-2.ensures.items) c.add.new.self.names (c.add.ensures.names ∙ ap (λ (ns : List (List ℕ)). ns ++ c.args.pool ∷ []) c.in_ok-reserve.ensures.names)

pub returns-clause-members : goal.returns-clause-members
returns-clause-members c =
    pushed_members _ c.self.invariant c.args.self.now c.self.view_is c.args.pool c.new_book.result c.new_book.ensures c.put_book.new.books.items (c.put_book.ensures ∙ ap (λ (bs : List PoolBook). bs ++ c.new_book.result ∷ []) c.in_ok-reserve-2.ensures.items)

pub returns-clause-rooms : goal.returns-clause-rooms
returns-clause-rooms c =
    pushed_rooms _ c.self.invariant c.args.self.now c.self.view_is c.args.pool c.new_book.result c.new_book.ensures c.put_book.new.books.items (c.put_book.ensures ∙ ap (λ (bs : List PoolBook). bs ++ c.new_book.result ∷ []) c.in_ok-reserve-2.ensures.items)

pub returns-clause-place : goal.returns-clause-place
returns-clause-place c =
    let none = rooms_place _ c.self.invariant c.args.self.now c.self.view_is c.args.pool ∙ c.requires in
    pushed_place _ c.self.invariant c.args.self.now c.self.view_is c.args.pool c.new_book.result c.new_book.ensures c.put_book.new.books.items (c.put_book.ensures ∙ ap (λ (bs : List PoolBook). bs ++ c.new_book.result ∷ []) c.in_ok-reserve-2.ensures.items) none
    ∙ ap (λ (bs : List PoolBook). Some (length bs)) (sym (c.as_slice-place.ensures.value ∙ c.in_ok-reserve-2.ensures.items))
