use Rattle.statement_text.proofs.Words.{none, no_room}
use Rattle.statement_text.proofs.fields.read_party.Goals as goal

pub returns-in_err-room-clause-none : goal.returns-in_err-room-clause-none
returns-in_err-room-clause-none c = none _ (no_room c.args.firm.now c.args.spend.now c.args.room.now c.args.price.now c.in_err-room.ensures.none)
