use Rattle.std.proofs.Common.{◌≡◌, ◌≤◌, take}
use Rattle.history_text.specs.Histories.{told_members}
use Rattle.history_text.proofs.replaying.replay_to.Given as goal

abbrev pub invariant-loop-earlier : goal.invariant-loop-earlier
invariant-loop-earlier l = record {
  replayed : l.replayed.members ≡ take l.earlier (told_members l.pool l.books.members);
  few : l.earlier ≤ l.place;
}
