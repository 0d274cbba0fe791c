use Rattle.std.proofs.Common.{◌≤◌, ◌<◌, ◌∙◌, ◌++◌, ◌∷◌, [], List, ap, subst, sym, arith}
use Rattle.setoff_model.specs.declared.limits.TheConstants.{MOST_ROUNDS}
use Rattle.claim_history.specs.declared.call.PoolEntry.{PoolEntry}
use Rattle.claim_history.specs.declared.entry.Entry.{Entry}
use Rattle.claim_history.specs.History.{is_opening}
use Rattle.claim_history.specs.States.{state_of}
use Rattle.claim_history.specs.Pools.{MayFollow, call_of, member_of, state_in}
use Rattle.claim_history.specs.PoolRounds.{IsCutDue}
use Rattle.printed_text.specs.claim_book.specs.Book.{room_for}
use Rattle.printed_text.specs.claim_book.specs.Pools.{room_in}
use Rattle.history_text.proofs.Replayed.{cut_due, few_opened}
use Rattle.history_text.proofs.replaying.put_opening.Goals as goal

pub next_cut-requires : goal.next_cut-requires
next_cut-requires c =
    let m : PoolEntry = member_of c.args.pool c.args.entry in
    subst (λ (es : List Entry). (state_of es).openings < MOST_ROUNDS) (sym c.book.ensures) (few_opened c.args.books.now.members m c.args.round c.requires.next c.requires.opens (omega arith))

pub apply_close-requires-clause-room : goal.apply_close-requires-clause-room
apply_close-requires-clause-room c =
    subst (λ (ms : List PoolEntry). room_for (state_in ms c.args.pool) c.args.entry.act ≤ room_in c.args.pool c.reserve.new.self.rooms) (sym c.reserve.ensures.members) c.in_ok-reserve.ensures.room

pub apply_close-requires-clause-few : goal.apply_close-requires-clause-few
apply_close-requires-clause-few c =
    let m : PoolEntry = member_of c.args.pool c.args.entry in
    subst (λ (ms : List PoolEntry). (state_in ms c.args.pool).openings < MOST_ROUNDS) (sym c.reserve.ensures.members)
    (few_opened c.args.books.now.members m c.args.round c.requires.next c.requires.opens (omega arith))

pub apply_close-requires-clause-opens : goal.apply_close-requires-clause-opens
apply_close-requires-clause-opens c = ap is_opening c.requires.opens

pub apply_close-requires-clause-next : goal.apply_close-requires-clause-next
apply_close-requires-clause-next c = subst (λ (ms : List PoolEntry). MayFollow ms (member_of c.args.pool c.args.entry)) (sym c.reserve.ensures.members) c.requires.next

pub apply_close-requires-clause-cut : goal.apply_close-requires-clause-cut
apply_close-requires-clause-cut c =
    let m : PoolEntry = member_of c.args.pool c.args.entry in
    subst (λ (ms : List PoolEntry). IsCutDue ms (call_of m) c.in_ok-cut.cut) (sym c.reserve.ensures.members)
    (cut_due c.book.result.now.history c.args.books.now.members m c.in-Close.kind c.in-Close.horizon c.in_ok-cut.cut c.book.ensures c.in-Close.is c.in_ok-cut.ensures.cut)

pub returns : goal.returns
returns c = record { members = c.apply_close.ensures.members ∙ ap (λ (ms : List PoolEntry). ms ++ member_of c.args.pool c.args.entry ∷ []) c.reserve.ensures.members }
