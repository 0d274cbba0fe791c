use Rattle.std.specs.Prelude.{OnOk, OnErr}
use Rattle.std.proofs.Common.{◌≤◌, ◌<◌, ◌∙◌, ℕ, List, sym, subst₂, arith}
use Rattle.std.proofs.lemmas.List.Quantifiers.{position-Some}
use Rattle.round_cut.specs.claim_history.specs.declared.entry.Entry.{Entry}
use Rattle.round_cut.specs.claim_history.specs.States.{state_of}
use Rattle.claim_book.specs.Book.{room_for}
use Rattle.claim_book.specs.Pools.{is_book, no_book}
use Rattle.claim_book.proofs.Applied.{history_is, kept_at, room_is, roomy_are, roomy_members, roomy_room, roomy_rooms, rooms_place}
use Rattle.claim_book.proofs.books.Books.add_room.Goals as goal

pub index_mut-kept-requires : goal.index_mut-kept-requires
index_mut-kept-requires c =
    let found = rooms_place _ c.self.invariant c.args.self.now c.self.view_is c.args.pool ∙ c.requires in
    omega (arith, (position-Some (is_book c.args.pool) c.self.inside.books.items c.args.place no_book found).0, c.self.inside.books.ok.0)

pub invariant_of-self : goal.invariant_of-self
invariant_of-self c =
    let found = rooms_place _ c.self.invariant c.args.self.now c.self.view_is c.args.pool ∙ c.requires in
    let kept_is = kept_at c.args.pool c.self.inside.books.items c.args.place c.index_mut-kept.result.now found c.index_mut-kept.ensures.value in
    roomy_are _ c.self.invariant c.args.self.now c.self.view_is c.args.pool c.args.place found c.index_mut-kept.result.now kept_is c.make_room.new.kept c.make_room.ensures.made c.make_room.new.places.items c.make_room.new.promised _ c.make_room.ensures.places c.make_room.ensures.promised c.make_room.ensures.spare

pub returns-clause-members : goal.returns-clause-members
returns-clause-members c =
    let found = rooms_place _ c.self.invariant c.args.self.now c.self.view_is c.args.pool ∙ c.requires in
    let kept_is = kept_at c.args.pool c.self.inside.books.items c.args.place c.index_mut-kept.result.now found c.index_mut-kept.ensures.value in
    roomy_members _ c.self.invariant c.args.self.now c.self.view_is c.args.pool c.args.place found c.index_mut-kept.result.now kept_is c.make_room.new.kept c.make_room.ensures.made c.make_room.new.places.items c.make_room.ensures.places

pub returns-clause-kept : goal.returns-clause-kept
returns-clause-kept c =
    let found = rooms_place _ c.self.invariant c.args.self.now c.self.view_is c.args.pool ∙ c.requires in
    let kept_is = kept_at c.args.pool c.self.inside.books.items c.args.place c.index_mut-kept.result.now found c.index_mut-kept.ensures.value in
    roomy_rooms _ c.self.invariant c.args.self.now c.self.view_is c.args.pool c.args.place found c.index_mut-kept.result.now kept_is c.make_room.new.kept c.make_room.ensures.made

pub returns-clause-room : goal.returns-clause-room
returns-clause-room c =
    let found = rooms_place _ c.self.invariant c.args.self.now c.self.view_is c.args.pool ∙ c.requires in
    let kept_is = kept_at c.args.pool c.self.inside.books.items c.args.place c.index_mut-kept.result.now found c.index_mut-kept.ensures.value in
    subst₂ (λ (es : List Entry) (n : ℕ). OnOk c.make_room.result (room_for (state_of es) c.args.act.now ≤ n)) (history_is _ c.self.invariant c.args.self.now c.self.view_is c.args.pool c.args.place found c.index_mut-kept.result.now kept_is) (sym (roomy_room _ c.self.invariant c.args.self.now c.self.view_is c.args.pool c.args.place found c.index_mut-kept.result.now kept_is c.make_room.new.kept c.make_room.ensures.made)) c.make_room.ensures.room

pub returns-clause-needed : goal.returns-clause-needed
returns-clause-needed c =
    let found = rooms_place _ c.self.invariant c.args.self.now c.self.view_is c.args.pool ∙ c.requires in
    let kept_is = kept_at c.args.pool c.self.inside.books.items c.args.place c.index_mut-kept.result.now found c.index_mut-kept.ensures.value in
    subst₂ (λ (es : List Entry) (n : ℕ). OnErr c.make_room.result (n < room_for (state_of es) c.args.act.now)) (history_is _ c.self.invariant c.args.self.now c.self.view_is c.args.pool c.args.place found c.index_mut-kept.result.now kept_is) (room_is _ c.self.invariant c.args.self.now c.self.view_is c.args.pool c.args.place found c.index_mut-kept.result.now kept_is) c.make_room.ensures.needed
