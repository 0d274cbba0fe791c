use Rattle.std.specs.Prelude.{position, Some}
use Rattle.std.proofs.Common.{◌≡◌, ◌+◌, ◌<◌, ℕ, List, sym, ap, subst}
use Rattle.round_cut.specs.claim_history.specs.declared.entry.Entry.{Entry}
use Rattle.setoff_model.specs.declared.kind.Kind.{Kind}
use Rattle.setoff_model.specs.declared.limits.TheConstants.{MOST_ROUNDS}
use Rattle.round_cut.specs.claim_history.specs.declared.act.Act.TheVariants as acts
use Rattle.round_cut.specs.claim_history.specs.Cut.{cut_of}
use Rattle.round_cut.specs.claim_history.specs.States.{state_of}
use Rattle.round_cut.specs.claim_history.specs.Pools.{entries_in}
use Rattle.claim_book.specs.Book.{ledger_of, room_for}
use Rattle.claim_book.specs.Pools.{is_book}
use Rattle.claim_book.specs.declared.pool_book.PoolBook.{PoolBook}
use Rattle.claim_book.proofs.Applied.{grown_are, grown_members, history_is, is_known, kept_at, may_follow, others_stay, promised_one, room_is, room_kept, room_less, spare_one, stands_within}
use Rattle.claim_book.proofs.Kept.{fits_same, keeps_room, no_more, one_spare_less, place_left, room_for_one}
use Rattle.claim_book.proofs.books.Books.apply_close.Goals as goal

pub known_place-place-requires-clause-known : goal.known_place-place-requires-clause-known
known_place-place-requires-clause-known c =
    is_known _ c.self.invariant c.args.self.now c.self.view_is c.args.pool c.deref.result.now _ c.deref.ensures.value (room_for_one (state_of (entries_in c.args.pool c.args.self.now.members)) c.args.entry.act) c.requires.room

pub close_in-at-requires-clause-room : goal.close_in-at-requires-clause-room
close_in-at-requires-clause-room c =
    let found = subst (λ (xs : List PoolBook). position (is_book c.args.pool) xs ≡ Some c.known_place-place.result) c.deref.ensures.value c.known_place-place.ensures in
    let kept_is = kept_at c.args.pool c.self.inside.books.items c.known_place-place.result c.index_mut-kept.result.now found c.index_mut-kept.ensures.value in
    let history = history_is _ c.self.invariant c.args.self.now c.self.view_is c.args.pool c.known_place-place.result found c.index_mut-kept.result.now kept_is in
    let room = room_is _ c.self.invariant c.args.self.now c.self.view_is c.args.pool c.known_place-place.result found c.index_mut-kept.result.now kept_is in
    let same = ap (λ (es : List Entry). room_for (state_of es) c.args.entry.act) history in
    fits_same _ _ _ _ same room c.requires.room

pub close_in-at-requires-clause-next : goal.close_in-at-requires-clause-next
close_in-at-requires-clause-next c =
    let found = subst (λ (xs : List PoolBook). position (is_book c.args.pool) xs ≡ Some c.known_place-place.result) c.deref.ensures.value c.known_place-place.ensures in
    let kept_is = kept_at c.args.pool c.self.inside.books.items c.known_place-place.result c.index_mut-kept.result.now found c.index_mut-kept.ensures.value in
    may_follow _ c.self.invariant c.args.self.now c.self.view_is c.args.pool c.known_place-place.result found c.index_mut-kept.result.now kept_is c.args.entry c.requires.next

pub close_in-at-requires-clause-few : goal.close_in-at-requires-clause-few
close_in-at-requires-clause-few c =
    let found = subst (λ (xs : List PoolBook). position (is_book c.args.pool) xs ≡ Some c.known_place-place.result) c.deref.ensures.value c.known_place-place.ensures in
    let kept_is = kept_at c.args.pool c.self.inside.books.items c.known_place-place.result c.index_mut-kept.result.now found c.index_mut-kept.ensures.value in
    let history = history_is _ c.self.invariant c.args.self.now c.self.view_is c.args.pool c.known_place-place.result found c.index_mut-kept.result.now kept_is in
    let same = ap (λ (es : List Entry). (state_of es).openings) history in
    subst (λ (n : ℕ). n < MOST_ROUNDS) (sym same) c.requires.few

pub close_in-at-requires-clause-cut : goal.close_in-at-requires-clause-cut
close_in-at-requires-clause-cut c =
    let found = subst (λ (xs : List PoolBook). position (is_book c.args.pool) xs ≡ Some c.known_place-place.result) c.deref.ensures.value c.known_place-place.ensures in
    let kept_is = kept_at c.args.pool c.self.inside.books.items c.known_place-place.result c.index_mut-kept.result.now found c.index_mut-kept.ensures.value in
    let history = history_is _ c.self.invariant c.args.self.now c.self.view_is c.args.pool c.known_place-place.result found c.index_mut-kept.result.now kept_is in
    subst (λ (es : List Entry). (kind : Kind) (horizon : ℕ) → c.args.entry.act ≡ acts.Close kind horizon → c.args.cut ≡ cut_of ((state_of es).openings + 1) (ledger_of es) kind horizon) (sym history) c.requires.cut

pub invariant_of-self : goal.invariant_of-self
invariant_of-self c =
    let found = subst (λ (xs : List PoolBook). position (is_book c.args.pool) xs ≡ Some c.known_place-place.result) c.deref.ensures.value c.known_place-place.ensures in
    let kept_is = kept_at c.args.pool c.self.inside.books.items c.known_place-place.result c.index_mut-kept.result.now found c.index_mut-kept.ensures.value in
    grown_are _ c.self.invariant c.args.self.now c.self.view_is c.args.pool c.known_place-place.result found c.index_mut-kept.result.now kept_is c.close_in-at.new.kept c.args.entry c.close_in-at.ensures.grown c.put_place.new.places.items c.close_in-at.result c.put_place.ensures.items c.close_in-at.ensures.at _ (one_spare_less _ _ _ _ c.put_place.ensures.len c.put_place.ensures.capacity) c.requires.valid c.requires.next

pub returns-clause-members : goal.returns-clause-members
returns-clause-members c =
    let found = subst (λ (xs : List PoolBook). position (is_book c.args.pool) xs ≡ Some c.known_place-place.result) c.deref.ensures.value c.known_place-place.ensures in
    let kept_is = kept_at c.args.pool c.self.inside.books.items c.known_place-place.result c.index_mut-kept.result.now found c.index_mut-kept.ensures.value in
    grown_members _ c.self.invariant c.args.self.now c.self.view_is c.args.pool c.known_place-place.result found c.index_mut-kept.result.now kept_is c.close_in-at.new.kept c.args.entry c.close_in-at.ensures.grown c.put_place.new.places.items c.close_in-at.result c.put_place.ensures.items c.close_in-at.ensures.at

pub returns-clause-room : goal.returns-clause-room
returns-clause-room c =
    let found = subst (λ (xs : List PoolBook). position (is_book c.args.pool) xs ≡ Some c.known_place-place.result) c.deref.ensures.value c.known_place-place.ensures in
    let kept_is = kept_at c.args.pool c.self.inside.books.items c.known_place-place.result c.index_mut-kept.result.now found c.index_mut-kept.ensures.value in
    let less = room_less _ c.self.invariant c.args.self.now c.self.view_is c.args.pool c.known_place-place.result found c.index_mut-kept.result.now kept_is c.close_in-at.new.kept c.args.entry c.close_in-at.ensures.grown c.put_place.new.places.items c.close_in-at.result c.put_place.ensures.items c.close_in-at.ensures.at in
    no_more _ _ less

pub returns-clause-kept : goal.returns-clause-kept
returns-clause-kept c =
    let found = subst (λ (xs : List PoolBook). position (is_book c.args.pool) xs ≡ Some c.known_place-place.result) c.deref.ensures.value c.known_place-place.ensures in
    let kept_is = kept_at c.args.pool c.self.inside.books.items c.known_place-place.result c.index_mut-kept.result.now found c.index_mut-kept.ensures.value in
    let less = room_less _ c.self.invariant c.args.self.now c.self.view_is c.args.pool c.known_place-place.result found c.index_mut-kept.result.now kept_is c.close_in-at.new.kept c.args.entry c.close_in-at.ensures.grown c.put_place.new.places.items c.close_in-at.result c.put_place.ensures.items c.close_in-at.ensures.at in
    keeps_room (entries_in c.args.pool c.args.self.now.members) c.args.entry _ _ (λ other. c.requires.room) (no_more _ _ less)

pub returns-clause-others : goal.returns-clause-others
returns-clause-others c =
    let found = subst (λ (xs : List PoolBook). position (is_book c.args.pool) xs ≡ Some c.known_place-place.result) c.deref.ensures.value c.known_place-place.ensures in
    let kept_is = kept_at c.args.pool c.self.inside.books.items c.known_place-place.result c.index_mut-kept.result.now found c.index_mut-kept.ensures.value in
    others_stay _ c.self.invariant c.args.self.now c.self.view_is c.args.pool c.known_place-place.result found c.index_mut-kept.result.now kept_is c.close_in-at.new.kept c.args.entry c.close_in-at.ensures.grown c.put_place.new.places.items c.close_in-at.result c.put_place.ensures.items c.close_in-at.ensures.at

pub index_mut-kept-requires : goal.index_mut-kept-requires
index_mut-kept-requires c = stands_within c.args.pool c.deref.result.now c.known_place-place.result _ c.known_place-place.ensures c.deref.ensures.len

pub close_in-at-requires-clause-kept : goal.close_in-at-requires-clause-kept
close_in-at-requires-clause-kept c =
    let found = subst (λ (xs : List PoolBook). position (is_book c.args.pool) xs ≡ Some c.known_place-place.result) c.deref.ensures.value c.known_place-place.ensures in
    let kept_is = kept_at c.args.pool c.self.inside.books.items c.known_place-place.result c.index_mut-kept.result.now found c.index_mut-kept.ensures.value in
    room_kept _ c.self.invariant c.args.self.now c.self.view_is c.args.pool c.known_place-place.result found c.index_mut-kept.result.now kept_is

pub put_place-requires : goal.put_place-requires
put_place-requires c =
    let found = subst (λ (xs : List PoolBook). position (is_book c.args.pool) xs ≡ Some c.known_place-place.result) c.deref.ensures.value c.known_place-place.ensures in
    let kept_is = kept_at c.args.pool c.self.inside.books.items c.known_place-place.result c.index_mut-kept.result.now found c.index_mut-kept.ensures.value in
    place_left _ _ (spare_one _ c.self.invariant c.args.self.now c.self.view_is c.args.pool c.known_place-place.result found c.index_mut-kept.result.now kept_is _ (room_for_one (state_of (entries_in c.args.pool c.args.self.now.members)) c.args.entry.act) c.requires.room)

pub overflow_sub-self : goal.overflow_sub-self
overflow_sub-self c =
    let found = subst (λ (xs : List PoolBook). position (is_book c.args.pool) xs ≡ Some c.known_place-place.result) c.deref.ensures.value c.known_place-place.ensures in
    let kept_is = kept_at c.args.pool c.self.inside.books.items c.known_place-place.result c.index_mut-kept.result.now found c.index_mut-kept.ensures.value in
    promised_one _ c.self.invariant c.args.self.now c.self.view_is c.args.pool c.known_place-place.result found c.index_mut-kept.result.now kept_is _ (room_for_one (state_of (entries_in c.args.pool c.args.self.now.members)) c.args.entry.act) c.requires.room
