use Rattle.claim_history.proofs.Growth.{due_follows}
use Rattle.text_tests.proofs.notices.ask.Goals as goal

pub apply-requires-clause-next : goal.apply-requires-clause-next
apply-requires-clause-next g c = due_follows c.reserve.new.self.history (record { caller = c.args.caller; act = c.args.act; reply = c.answer-reply.result }) c.answer-reply.ensures
