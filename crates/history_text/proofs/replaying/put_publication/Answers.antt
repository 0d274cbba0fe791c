use Rattle.std.proofs.Common.{◌≤◌, ◌∙◌, ◌++◌, ◌∷◌, [], List, ap, subst, sym}
use Rattle.claim_history.specs.declared.call.PoolEntry.{PoolEntry}
use Rattle.claim_history.specs.Pools.{MayFollow, member_of, state_in}
use Rattle.printed_text.specs.claim_book.specs.Book.{room_for}
use Rattle.printed_text.specs.claim_book.specs.Pools.{room_in}
use Rattle.printed_text.specs.claim_book.proofs.Kept.{needed_by_any}
use Rattle.history_text.proofs.replaying.put_publication.Goals as goal

pub apply_publish-cut-requires-clause-room : goal.apply_publish-cut-requires-clause-room
apply_publish-cut-requires-clause-room c =
    let pool = c.args.pool in
    let room : room_for (state_in c.reserve.new.self.members pool) c.args.entry.act ≤ room_in pool c.reserve.new.self.rooms =
    subst (λ (ms : List PoolEntry). room_for (state_in ms pool) c.args.entry.act ≤ room_in pool c.reserve.new.self.rooms) (sym c.reserve.ensures.members) c.in_ok-reserve.ensures.room in
    needed_by_any (state_in c.reserve.new.self.members pool) c.args.entry.caller c.args.entry.act (room_in pool c.reserve.new.self.rooms) room

pub apply_publish-cut-requires-clause-next : goal.apply_publish-cut-requires-clause-next
apply_publish-cut-requires-clause-next c = subst (λ (ms : List PoolEntry). MayFollow ms (member_of c.args.pool c.args.entry)) (sym c.reserve.ensures.members) c.requires.next

pub returns : goal.returns
returns c = record { members = c.apply_publish-cut.ensures.members ∙ ap (λ (ms : List PoolEntry). ms ++ member_of c.args.pool c.args.entry ∷ []) c.reserve.ensures.members }
