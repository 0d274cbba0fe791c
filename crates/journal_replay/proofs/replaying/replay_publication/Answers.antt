use Rattle.std.proofs.Common.{◌≡◌, ◌≤◌, ◌++◌, ◌∷◌, [], List, sym, ap, subst, ◌∙◌}
use Rattle.limited_book.specs.claim_history.specs.declared.call.PoolEntry.{PoolEntry}
use Rattle.limited_book.specs.claim_history.specs.Pools.{IsLegal, answered, state_in}
use Rattle.limited_book.specs.claim_book.specs.Book.{room_for}
use Rattle.limited_book.specs.claim_book.specs.Pools.{BooksView, room_in}
use Rattle.limited_book.specs.claim_book.proofs.Kept.{needed_by_any}
use Rattle.journal_replay.proofs.Replays.{published_so}
use Rattle.journal_replay.proofs.replaying.replay_publication.Goals as goal

pub apply_publish-requires-clause-room : goal.apply_publish-requires-clause-room
apply_publish-requires-clause-room c =
    let room : room_for (state_in c.reserve.new.self.members c.args.call.pool) c.args.call.act ≤ room_in c.args.call.pool c.reserve.new.self.rooms =
    subst (λ (ms : List PoolEntry). room_for (state_in ms c.args.call.pool) c.args.call.act ≤ room_in c.args.call.pool c.reserve.new.self.rooms) (sym c.reserve.ensures.members) c.in_ok-reserve.ensures.room in
    needed_by_any (state_in c.reserve.new.self.members c.args.call.pool) c.args.call.caller c.args.call.act (room_in c.args.call.pool c.reserve.new.self.rooms) room

pub returns-clause-done : goal.returns-clause-done
returns-clause-done c =
    let known : c.books-known.result.now.members ≡ c.args.books.now.members = ap (λ (b : BooksView). b.members) c.books-known.ensures.books in
    let legal : IsLegal c.args.books.now.members = subst IsLegal known c.len-len.ensures.legal in
    published_so c.args.books.now.members c.apply_publish.new.self.members c.args.call c.in_ok-reply.reply
    (c.apply_publish.ensures.members ∙ ap (λ (ms : List PoolEntry). ms ++ answered c.args.call c.in_ok-reply.reply ∷ []) c.reserve.ensures.members)
    legal c.requires.publishes c.in_ok-reply.ensures
    (sym c.accepts.ensures ∙ c.if-not-accepts.false) c.books-known.ensures.within
