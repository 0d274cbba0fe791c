use Rattle.std.proofs.Common.{◌≤◌, ◌∙◌, ◌++◌, ◌∷◌, [], List, ap, subst, sym}
use Rattle.claim_history.specs.declared.call.PoolEntry.{PoolEntry}
use Rattle.claim_history.specs.Pools.{MayFollow, member_of, state_in}
use Rattle.printed_text.specs.claim_book.specs.Book.{room_for}
use Rattle.printed_text.specs.claim_book.specs.Pools.{room_in}
use Rattle.history_text.proofs.replaying.put_other.Goals as goal

pub apply-requires-clause-room : goal.apply-requires-clause-room
apply-requires-clause-room c =
    subst (λ (ms : List PoolEntry). room_for (state_in ms c.args.pool) c.args.entry.act ≤ room_in c.args.pool c.reserve.new.self.rooms) (sym c.reserve.ensures.members) c.in_ok-reserve.ensures.room

pub apply-requires-clause-next : goal.apply-requires-clause-next
apply-requires-clause-next c = subst (λ (ms : List PoolEntry). MayFollow ms (member_of c.args.pool c.args.entry)) (sym c.reserve.ensures.members) c.requires.next

pub returns : goal.returns
returns c = record { members = c.apply.ensures.members ∙ ap (λ (ms : List PoolEntry). ms ++ member_of c.args.pool c.args.entry ∷ []) c.reserve.ensures.members }
