use Rattle.journal_replay.proofs.Replays.{other_opens_none}
use Rattle.journal_replay.proofs.replaying.replay_act.Goals as goal

pub put_reply-requires-clause-no_opening : goal.put_reply-requires-clause-no_opening
put_reply-requires-clause-no_opening c =
    other_opens_none c.reserve.new.self.members c.args.call c.answer-reply.result c.answer-reply.ensures c.requires.other
