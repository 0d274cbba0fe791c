use Rattle.limited_book.specs.act_bodies.proofs.Keepable.{act_valid}
use Rattle.journal_replay.specs.Replays.{recorded_call}
use Rattle.journal_replay.proofs.replaying.replay_next.Goals as goal

pub replay_publication-requires-clause-valid : goal.replay_publication-requires-clause-valid
replay_publication-requires-clause-valid c = act_valid (recorded_call c.args.kept) c.requires.keepable

pub replay_unpublished-requires-clause-valid : goal.replay_unpublished-requires-clause-valid
replay_unpublished-requires-clause-valid c = act_valid (recorded_call c.args.kept) c.requires.keepable
