use Rattle.std.proofs.Common.{refl}
use Rattle.round_cut.specs.claim_history.specs.States.{state_of}
use Rattle.claim_book.proofs.Kept.{less_is_kept, one_left, one_less, one_needed}
use Rattle.claim_book.proofs.pool_book.publish_in.Goals as goal

pub overflow_sub-kept : goal.overflow_sub-kept
overflow_sub-kept c = one_left _ _ (one_needed (state_of c.args.kept.now.book.history) c.args.entry.caller c.args.entry.act) c.requires.room

pub returns-clause-grown : goal.returns-clause-grown
returns-clause-grown c = record {
  pool = refl;
  history = c.apply_publish-cut.ensures.history;
  room = one_less _ (one_left _ _ (one_needed (state_of c.args.kept.now.book.history) c.args.entry.caller c.args.entry.act) c.requires.room);
  kept = less_is_kept _ _ _ c.requires.kept c.apply_publish-cut.ensures.room;
}
